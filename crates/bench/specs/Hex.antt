-- HEX: pairs of hex digits of either case, printed in upper case. `-` (45) stands for no bytes.
use Rattle.std.specs.Prelude.{Bool, true, List, [], ◌∷◌, ℕ, ◌+◌, ◌-◌, ◌*◌, ◌%◌, ◌/◌, ltb, eqb, length}
use Rattle.errors.specs.Refusals.{refused, plain}
use Rattle.errors.specs.Choice.{pick, same, in_range}
use Rattle.framing.specs.Lists.{both}
use Rattle.bench.specs.Texts.{put_of}
use Rattle.framing.specs.Build.{Left, left}

-- the value of a digit: `0` to `9`, `A` to `F`, `a` to `f`; 16 for any other byte
unfoldable pub value_of : ℕ → ℕ
value_of d =
    pick (in_range 48 57 d) (d - 48)
    (pick (in_range 65 70 d) (d - 65 + 10)
    (pick (in_range 97 102 d) (d - 97 + 10) 16))

unfoldable pub all_hex_digits : List ℕ → Bool
all_hex_digits [] = true
all_hex_digits (d ∷ w) = both (ltb (value_of d) 16) (all_hex_digits w)

abbrev pub dash : List ℕ
dash = 45 ∷ []

-- a word that can be read: `-`, or one or more pairs of digits
unfoldable pub is_hex_of : List ℕ → Bool
is_hex_of w = pick (same dash w) true (both (ltb 0 (length w)) (both (eqb (length w % 2) 0) (all_hex_digits w)))

-- the bytes of the pairs, each with its high digit first; a word that is no pair, as `-`, has none
unfoldable pub pairs_of : List ℕ → List ℕ
pairs_of [] = []
pairs_of (h ∷ []) = []
pairs_of (h ∷ l ∷ w) = (value_of h * 16 + value_of l) ∷ pairs_of w

-- what reading a word leaves: its bytes at the buffer's start, or refusal 4
unfoldable pub read_of : List ℕ → List ℕ → Left
read_of w b = pick (is_hex_of w) (put_of (pairs_of w) b) (left (refused (plain 4)) b)

-- the digit of a value below 16: `0` to `9`, then `A` to `F`
unfoldable pub digit_of : ℕ → ℕ
digit_of v = pick (ltb v 10) (48 + v) (65 + (v - 10))

unfoldable pub digits_of_lem : List ℕ → List ℕ
digits_of_lem [] = []
digits_of_lem (b ∷ bs) = digit_of (b / 16) ∷ digit_of (b % 16) ∷ digits_of_lem bs

-- the text of some bytes
unfoldable pub hex_of : List ℕ → List ℕ
hex_of [] = dash
hex_of (b ∷ bs) = digits_of_lem (b ∷ bs)
