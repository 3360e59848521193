-- The arguments of a line, and how a word is read. A reader of a word hands its value on, or the line cannot be read.
use Rattle.std.specs.Prelude.{Bool, List, [], ℕ, ◌+◌, ◌*◌, ◌%◌, eqb, ltb, length, get_or}
use Rattle.std.proofs.Math.Option.{Option, none}
use Rattle.errors.specs.Choice.{pick, same}
use Rattle.targets.specs.Bitrates.{ascii}
use Rattle.bench.specs.Hex.{dash, is_hex_of, pairs_of}
use Rattle.bench.specs.Numbers.{is_number, number_from}
use Rattle.bench.specs.Words.{words_of_lem}
use Rattle.calls.specs.declared.start.Numbers.{Numbers}

-- what the words of a line give: numbers, and byte strings in their order
pub record Arguments : Type 0 where
  pub numbers : Numbers
  pub strings : List (List ℕ)

abbrev pub arguments : Numbers → List (List ℕ) → Arguments
arguments n s = record { numbers = n; strings = s }

-- none where a word cannot be read
abbrev pub Read : Type 0
Read = Option Arguments

-- the longest line, without its line feed, and room for its bytes: a BITRATE has as many as its word
abbrev pub line_limit : ℕ
line_limit = 8192

abbrev pub bytes_room : ℕ
bytes_room = 8192

-- the k-th word of a line: its name is word 0
abbrev pub word_at : List ℕ → ℕ → List ℕ
word_at l k = get_or (words_of_lem l) k []

-- HEX: pairs of digits, or `-` for no bytes
unfoldable pub hex_arg : List ℕ → (List ℕ → Read) → Read
hex_arg w f = pick (is_hex_of w) (f (pairs_of w)) none

-- HEX of whole groups of bytes
unfoldable pub whole_arg : ℕ → List ℕ → (List ℕ → Read) → Read
whole_arg size w f = hex_arg w (λ p. pick (eqb (length p % size) 0) (f p) none)

-- so many pairs
unfoldable pub pairs_arg : ℕ → List ℕ → (List ℕ → Read) → Read
pairs_arg n w f = pick (eqb (length w) (2 * n)) (hex_arg w f) none

-- BYTE: one pair
unfoldable pub byte_arg : List ℕ → (ℕ → Read) → Read
byte_arg w f = pairs_arg 1 w (λ p. f (get_or p 0 0))

-- 00 or 01
unfoldable pub flag_arg : List ℕ → (ℕ → Read) → Read
flag_arg w f = byte_arg w (λ b. pick (ltb 1 b) none (f b))

-- WORD: two pairs, high byte first
unfoldable pub word_arg : List ℕ → (ℕ → Read) → Read
word_arg w f = pairs_arg 2 w (λ p. f (get_or p 0 0 * 256 + get_or p 1 0))

-- MS: a number
unfoldable pub ms_arg : List ℕ → (ℕ → Read) → Read
ms_arg w f = pick (is_number w) (f (number_from 0 w)) none

-- BITRATE: the word itself, or `-` for the empty text
unfoldable pub text_arg : List ℕ → (List ℕ → Read) → Read
text_arg w f = pick (eqb (length w) 0) none (pick (same dash w) (f []) (f w))

-- an argument that may be absent: `none`
unfoldable pub is_none : List ℕ → Bool
is_none w = same (ascii "none") w

-- HEX that counts as no bytes where it is absent
unfoldable pub hex_or_none : List ℕ → (List ℕ → Read) → Read
hex_or_none w f = pick (is_none w) (f []) (hex_arg w f)

-- whether a HEX is present: 1 or 0
unfoldable pub present_arg : List ℕ → (ℕ → Read) → Read
present_arg w f = pick (is_none w) (f 0) (pick (is_hex_of w) (f 1) none)

-- this word: 1
unfoldable pub name_arg : List ℕ → List ℕ → (ℕ → Read) → Read
name_arg name w f = pick (same name w) (f 1) none

-- MS of at most 65535 that may be absent: 1 and the MS, or 0 and 0
abbrev pub wait_limit : ℕ
wait_limit = 65535

unfoldable pub wait_arg : List ℕ → (ℕ → ℕ → Read) → Read
wait_arg w f = pick (is_none w) (f 0 0) (ms_arg w (λ ms. pick (ltb wait_limit ms) none (f 1 ms)))
