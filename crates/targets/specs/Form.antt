-- A bitrate text, as document 01 writes it. A text is the list of its bytes.
use Rattle.std.specs.Prelude.{Bool, true, ◌&&◌, List, [], ◌∷◌, ◌++◌, ◌≡◌, ℕ, ◌+◌, ◌≤◌, length}
use Rattle.errors.specs.Choice.{in_range}

-- `0` to `9`
abbrev pub is_digit : ℕ → Bool
is_digit b = in_range 48 57 b

-- the byte b is the digit that writes the number n
pub record IsDigit (b n : ℕ) : Type 0 where
  pub is : is_digit b ≡ true
  pub at : b ≡ 48 + n
  pub small : n ≤ 9

-- `A` to `Z`
abbrev pub is_capital : ℕ → Bool
is_capital b = in_range 65 90 b

unfoldable pub all_digits : List ℕ → Bool
all_digits [] = true
all_digits (b ∷ bs) = is_digit b && all_digits bs

-- One rate: one or more digits, then one capital letter.
pub data Rate : List ℕ → Type 0 where
  rate : (digits : List ℕ) (letter : ℕ) → 1 ≤ length digits → all_digits digits ≡ true → is_capital letter ≡ true
      → Rate (digits ++ letter ∷ [])

-- A bitrate, with the length of its send part: one rate, or two with `/` (47) between.
pub data SendPart : List ℕ → ℕ → Type 0 where
  one : {s : List ℕ} → Rate s → SendPart s (length s)
  two : {s r : List ℕ} → Rate s → Rate r → SendPart (s ++ 47 ∷ r) (length s)
