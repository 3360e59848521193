-- How the words behind a name are read: a letter for each. A small letter is a number and says where it goes; a digit or a capital
-- letter is a byte string, the next of at most four.
use Rattle.std.specs.Prelude.{List, [], ◌∷◌, ◌++◌, ℕ, eqb, ltb, length}
use Rattle.std.proofs.Math.Option.{none, some}
use Rattle.errors.specs.Choice.{pick}
use Rattle.targets.specs.Bitrates.{ascii}
use Rattle.bench_input.specs.Arguments.{Arguments, arguments, Read, hex_arg, whole_arg, byte_arg, flag_arg, word_arg, ms_arg, text_arg, hex_or_none, present_arg, wait_arg, name_arg}
use Rattle.calls.specs.declared.start.Numbers.{Numbers}

abbrev pub with_ms : ℕ → Numbers → Numbers
with_ms ms n = record { ms = ms; word = n.word; x = n.x; y = n.y; caller = n.caller }

abbrev pub with_word : ℕ → Numbers → Numbers
with_word word n = record { ms = n.ms; word = word; x = n.x; y = n.y; caller = n.caller }

abbrev pub with_x : ℕ → Numbers → Numbers
with_x x n = record { ms = n.ms; word = n.word; x = x; y = n.y; caller = n.caller }

abbrev pub with_y : ℕ → Numbers → Numbers
with_y y n = record { ms = n.ms; word = n.word; x = n.x; y = y; caller = n.caller }

-- a number
unfoldable pub number_arg : ℕ → List ℕ → Numbers → (Numbers → Read) → Read
number_arg letter w n f =
    -- `x`, `y`: BYTE
    pick (eqb letter 120) (byte_arg w (λ v. f (with_x v n)))
    (pick (eqb letter 121) (byte_arg w (λ v. f (with_y v n)))
    -- `f`: 00 or 01, to x
    (pick (eqb letter 102) (flag_arg w (λ v. f (with_x v n)))
    -- `p`: HEX or `none`, of which x gives whether it is present
    (pick (eqb letter 112) (present_arg w (λ v. f (with_x v n)))
    -- `w`: WORD
    (pick (eqb letter 119) (word_arg w (λ v. f (with_word v n)))
    -- `m`: MS
    (pick (eqb letter 109) (ms_arg w (λ v. f (with_ms v n)))
    -- `t`: MS of at most 65535 to word, and y is 1; or `none`
    (pick (eqb letter 116) (wait_arg w (λ given v. f (with_y given (with_word v n))))
    -- `z`, `s`: the words `padded` and `split`, by which x is 1
    (pick (eqb letter 122) (name_arg (ascii "padded") w (λ v. f (with_x v n)))
    (pick (eqb letter 115) (name_arg (ascii "split") w (λ v. f (with_x v n)))
    -- `u`: MS of at most 65535 to ms, and y is 1; or `none`
    (pick (eqb letter 117) (wait_arg w (λ given v. f (with_y given (with_ms v n)))) none)))))))))

-- a byte string
unfoldable pub string_arg : ℕ → List ℕ → (List ℕ → Read) → Read
string_arg letter w f =
    -- `H`: HEX
    pick (eqb letter 72) (hex_arg w f)
    -- `N`: HEX or `none`
    (pick (eqb letter 78) (hex_or_none w f)
    -- `B`: BITRATE
    (pick (eqb letter 66) (text_arg w f)
    -- `2`, `3`: HEX of so many bytes, or a multiple of them
    (pick (eqb letter 50) (whole_arg 2 w f)
    (pick (eqb letter 51) (whole_arg 3 w f) none))))

-- numbers have small letters, of which `a` (97) is the first
abbrev pub first_number_letter : ℕ
first_number_letter = 97

unfoldable pub argument : ℕ → List ℕ → Arguments → (Arguments → Read) → Read
argument letter w a f =
    pick (ltb letter first_number_letter)
    (pick (ltb (length a.strings) 4) (string_arg letter w (λ p. f (arguments a.numbers (a.strings ++ (p ∷ []))))) none)
    (number_arg letter w a.numbers (λ n. f (arguments n a.strings)))

-- each word by its letter, behind what was read before
unfoldable pub arguments_of : List ℕ → List (List ℕ) → Arguments → Read
arguments_of [] [] a = some a
arguments_of [] (w ∷ ws) a = none
arguments_of (letter ∷ letters) [] a = none
arguments_of (letter ∷ letters) (w ∷ ws) a = argument letter w a (λ b. arguments_of letters ws b)

-- before the first word: what no word gives is 0, the caller too
abbrev pub no_numbers : Numbers
no_numbers = record { ms = 0; word = 0; x = 0; y = 0; caller = 0 }

abbrev pub no_arguments : Arguments
no_arguments = arguments no_numbers []
