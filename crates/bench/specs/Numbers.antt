-- A number in decimal digits: one or more, and at most 4294967295.
use Rattle.std.specs.Prelude.{Option, Some, None, Bool, true, List, [], ◌∷◌, ℕ, ◌+◌, ◌-◌, ◌*◌, ltb, leb, length}
use Rattle.errors.specs.Choice.{pick, in_range}
use Rattle.framing.specs.Lists.{both}

-- the value of a decimal digit; 10 for any other byte
unfoldable pub digit_value_of : ℕ → ℕ
digit_value_of d = pick (in_range 48 57 d) (d - 48) 10

unfoldable pub all_decimal : List ℕ → Bool
all_decimal [] = true
all_decimal (d ∷ w) = both (ltb (digit_value_of d) 10) (all_decimal w)

-- the number whose digits are n's and then those of the word
unfoldable pub number_from : ℕ → List ℕ → ℕ
number_from n [] = n
number_from n (d ∷ w) = number_from (n * 10 + digit_value_of d) w

abbrev pub number_limit : ℕ
number_limit = 4294967295

unfoldable pub is_number : List ℕ → Bool
is_number w = both (ltb 0 (length w)) (both (all_decimal w) (leb (number_from 0 w) number_limit))

unfoldable pub number_of : List ℕ → Option ℕ
number_of w = pick (is_number w) (Some (number_from 0 w)) None
