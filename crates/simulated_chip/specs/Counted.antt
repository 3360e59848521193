-- What holds of n numbers from i on, and the list of what each of them has.
use Rattle.std.specs.Prelude.{◌≡◌, Bool, true, false, ◌&&◌, eqb, length}
use Rattle.std.proofs.Math.Path.{refl, ap}
use Rattle.std.proofs.Common.{ap₂, ◌∙◌, eqb-true}
use Rattle.std.proofs.lemmas.Bool.{false≢true, eqb-false}
use mathlib.Core.List.{List, [], ◌∷◌, ◌++◌}
use Prim.Native.Nat.{ℕ, zero, suc, ◌+◌, ◌≤◌, ◌<◌}
use Rattle.std.proofs.Math.Numerals.{add-one}
use native.Mathlib.Omega.{arith}
use Rattle.std.specs.List.{range_with_len, list_all}
use Rattle.errors.specs.Choice.{pick}

unfoldable pub all_from : (ℕ → Bool) → ℕ → ℕ → Bool
all_from p zero i = true
all_from p (suc n) i = pick (p i) (all_from p n (suc i)) false

unfoldable pub list_from : {A : Type 0} → (ℕ → A) → ℕ → ℕ → List A
list_from f zero i = []
list_from f (suc n) i = f i ∷ list_from f n (suc i)

-- each of them
pub all-at : (p : ℕ → Bool) (n i k : ℕ) → all_from p n i ≡ true → i ≤ k → k < i + n → p k ≡ true
unfolding all_from pick
all-at p zero i k e low high = absurd (omega arith)
all-at p (suc n) i k e low high = go (p i) (eqb k i) refl refl e (all-at p n (suc i) k)
  where
    go : (t u : Bool) → p i ≡ t → eqb k i ≡ u → pick t (all_from p n (suc i)) false ≡ true
        → (all_from p n (suc i) ≡ true → suc i ≤ k → k < suc i + n → p k ≡ true) → p k ≡ true
    go true true h d e again = ap p (eqb-true k i d) ∙ h
    go true false h d e again = again e (let z = eqb-false k i d in omega arith) (omega arith)
    go false u h d e again = absurd (false≢true e)

-- as the library says it of a range
pub all_range : (p : ℕ → Bool) (n i : ℕ) → list_all p (range_with_len i n) ≡ all_from p n i
unfolding all_from pick
all_range p zero i = refl
all_range p (suc n) i = go (p i) (ap (λ (j : ℕ). list_all p (range_with_len j n)) (add-one i) ∙ all_range p n (suc i))
  where
    go : (t : Bool) → list_all p (range_with_len (i + 1) n) ≡ all_from p n (suc i) → (t && list_all p (range_with_len (i + 1) n)) ≡ pick t (all_from p n (suc i)) false
    go true e = e
    go false e = refl

-- ---- their list
module _ {A : Type 0} (f : ℕ → A) where
  pub length_from : (n i : ℕ) → length (list_from f n i) ≡ n
  unfolding list_from
  length_from zero i = refl
  length_from (suc n) i = ap suc (length_from n (suc i))

  pub from_last : (n i : ℕ) → list_from f (suc n) i ≡ list_from f n i ++ (f (i + n) ∷ [])
  unfolding list_from
  from_last zero i = ap (λ (k : ℕ). f k ∷ []) (none i)
    where
      none : (i : ℕ) → i ≡ i + 0
      none i = omega arith
  from_last (suc n) i = ap (λ (l : List A). f i ∷ l) (from_last n (suc i) ∙ ap (λ (k : ℕ). list_from f n (suc i) ++ (f k ∷ [])) (next i n))
    where
      next : (i n : ℕ) → suc i + n ≡ i + suc n
      next i n = omega arith

-- where each has the same, the lists are the same
pub from-same : {A : Type 0} (f g : ℕ → A) (n i : ℕ) → ((k : ℕ) → i ≤ k → k < i + n → f k ≡ g k) → list_from f n i ≡ list_from g n i
unfolding list_from
from-same f g zero i h = refl
from-same {A} f g (suc n) i h =
    ap₂ (λ (x : A) (l : List A). x ∷ l) (h i (omega arith) (omega arith)) (from-same f g n (suc i) (λ k low high. h k (omega arith) (omega arith)))
