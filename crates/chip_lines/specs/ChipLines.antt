-- The lines of the program `chip`: what each says. A line that cannot be read is `unreadable`.
use Rattle.std.specs.Prelude.{Option, Some, None, List, [], ◌∷◌, ℕ, ltb, length}
use Rattle.errors.specs.Choice.{pick, same}
use Rattle.targets.specs.Bitrates.{ascii}
use Rattle.targets.specs.declared.Bitrate.{Bitrate}
use Rattle.targets.specs.declared.Bitrate.TheVariants.{B106A, B212F, B424F, B106B, Other}
use Rattle.bench.specs.Hex.{dash, is_hex_of, pairs_of}
use Rattle.bench.specs.Words.{words_of_lem}
use Rattle.chip_protocol.specs.declared.Kind.{Kind}
use Rattle.chip_protocol.specs.declared.Kind.TheVariants.{TypeA, TypeB, TypeF, Dep}

-- the longest line, without its line feed; room for the bytes of its HEX
abbrev pub line_limit : ℕ
line_limit = 8192

abbrev pub bytes_room : ℕ
bytes_room = 4096

-- an empty field; a card, with its list data and its reply to WUPB; a reply of the card added last to these bytes; bytes that the host wrote
pub data ChipLine : Type 0 where
  fresh : ChipLine
  card : Kind → Bitrate → (list_data wake_up : List ℕ) → ChipLine
  reply : (bytes reply : List ℕ) → ChipLine
  frame : (written : List ℕ) → ChipLine
  unreadable : ChipLine

-- a word that is HEX
abbrev pub hexed : List ℕ → (List ℕ → ChipLine) → ChipLine
hexed w f = pick (is_hex_of w) (f (pairs_of w)) unreadable

-- the bitrates that a discovery takes, without a receive part
unfoldable pub bitrate_named_of : List ℕ → Bitrate
bitrate_named_of w =
    pick (same (ascii "106A") w) B106A
    (pick (same (ascii "212F") w) B212F
    (pick (same (ascii "424F") w) B424F
    (pick (same (ascii "106B") w) B106B Other)))

-- the kinds of a card that has no reply to WUPB, by their texts
unfoldable pub kind_named_of : List ℕ → Option Kind
kind_named_of w = pick (same (ascii "A") w) (Some TypeA) (pick (same (ascii "F") w) (Some TypeF) (pick (same (ascii "DEP") w) (Some Dep) None))

unfoldable pub card_line_of : Kind → List ℕ → List ℕ → List ℕ → ChipLine
card_line_of k rate w v = hexed w (λ l. hexed v (λ a. card k (bitrate_named_of rate) l a))

unfoldable pub reply_line_of : List ℕ → List ℕ → ChipLine
reply_line_of w v = hexed w (λ p. hexed v (λ r. reply p r))

-- by the number of words
unfoldable pub one_word : List ℕ → ChipLine
one_word name = pick (same (ascii "fresh") name) fresh unreadable

unfoldable pub two_words : List ℕ → List ℕ → ChipLine
two_words name w = pick (same (ascii "frame") name) (hexed w (λ p. frame p)) unreadable

unfoldable pub three_words : List ℕ → List ℕ → List ℕ → ChipLine
three_words name w v = pick (same (ascii "reply") name) (reply_line_of w v) unreadable

unfoldable pub four_words : List ℕ → List ℕ → List ℕ → List ℕ → ChipLine
four_words name kind rate w =
    pick (same (ascii "card") name)
    (pick (same (ascii "A") kind) (card_line_of TypeA rate w dash)
    (pick (same (ascii "F") kind) (card_line_of TypeF rate w dash)
    (pick (same (ascii "DEP") kind) (card_line_of Dep rate w dash) unreadable))) unreadable

unfoldable pub five_words : List ℕ → List ℕ → List ℕ → List ℕ → List ℕ → ChipLine
five_words name kind rate w v = pick (same (ascii "card") name) (pick (same (ascii "B") kind) (card_line_of TypeB rate w v) unreadable) unreadable

unfoldable pub on_words : List (List ℕ) → ChipLine
on_words [] = unreadable
on_words (name ∷ []) = one_word name
on_words (name ∷ w ∷ []) = two_words name w
on_words (name ∷ w ∷ v ∷ []) = three_words name w v
on_words (name ∷ kind ∷ rate ∷ w ∷ []) = four_words name kind rate w
on_words (name ∷ kind ∷ rate ∷ w ∷ v ∷ []) = five_words name kind rate w v
on_words (name ∷ kind ∷ rate ∷ w ∷ v ∷ x ∷ ws) = unreadable

unfoldable pub chip_line_of : List ℕ → ChipLine
chip_line_of line = pick (ltb line_limit (length line)) unreadable (on_words (words_of_lem line))
