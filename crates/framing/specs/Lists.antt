-- Whether a list starts with another.
use Rattle.std.specs.Prelude.{◌≡◌, ℕ, ◌<◌, Bool, true, false, List, [], ◌∷◌, ◌==◌, slice_index, refl}

abbrev pub both : Bool → Bool → Bool
both true b = b
both false b = false

pub both_assoc : (a b c : Bool) → both (both a b) c ≡ both a (both b c)
both_assoc true b c = refl
both_assoc false b c = refl

pub both_true_r : (a : Bool) → both a true ≡ a
both_true_r true = refl
both_true_r false = refl

pub both_false_r : (a b : Bool) → b ≡ false → both a b ≡ false
both_false_r true b h = h
both_false_r false b h = refl

-- each element is a byte
abbrev pub Bytes : List ℕ → Type 0
Bytes p = (k : ℕ) → slice_index p k < 256

-- the packet p starts with f
unfoldable pub starts : List ℕ → List ℕ → Bool
starts [] p = true
starts (x ∷ f) [] = false
starts (x ∷ f) (y ∷ p) = both (x == y) (starts f p)
