-- Choice by a test, a range as a test, and equality of two lists as a test.
use Rattle.std.specs.Prelude.{◌≡◌, refl, Bool, true, false, ◌&&◌, List, [], ◌∷◌, ℕ, eqb, leb}
use Rattle.std.proofs.Common.{ap₂, eq-eqb, eqb-true}

unfoldable pub pick : {A : Type 0} → Bool → A → A → A
pick true a b = a
pick false a b = b

-- a number from low to high
unfoldable pub in_range : ℕ → ℕ → ℕ → Bool
in_range low high n = leb low n && leb n high

unfoldable pub same : List ℕ → List ℕ → Bool
same [] [] = true
same [] (y ∷ ys) = false
same (x ∷ xs) [] = false
same (x ∷ xs) (y ∷ ys) = eqb x y && same xs ys

-- it is equality
pub same_self : (s : List ℕ) → same s s ≡ true
unfolding same
same_self [] = refl
same_self (x ∷ s) = rw (eq-eqb x x refl) (same_self s)

pub same_is : (s t : List ℕ) → same s t ≡ true → s ≡ t
unfolding same
same_is [] [] e = refl
same_is [] (y ∷ t) e = cc
same_is (x ∷ s) [] e = cc
same_is (x ∷ s) (y ∷ t) e = go (eqb x y) refl e (same_is s t)
  where
    go : (a : Bool) → eqb x y ≡ a → (a && same s t) ≡ true → (same s t ≡ true → s ≡ t) → ◌≡◌ {A = List ℕ} (x ∷ s) (y ∷ t)
    go true h k again = ap₂ ◌∷◌ (eqb-true x y h) (again k)
    go false h k again = cc

pub same_not : (s t : List ℕ) → (s ≡ t → ⊥) → same s t ≡ false
same_not s t n = go (same s t) refl
  where
    go : (a : Bool) → same s t ≡ a → a ≡ false
    go true h = absurd (n (same_is s t h))
    go false h = refl
