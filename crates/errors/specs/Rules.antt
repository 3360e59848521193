-- Rules by which `search` follows a definition's tests: what held on the way decides each `pick`.
use Rattle.std.specs.Prelude.{◌≡◌, Bool, true, false, ◌&&◌, ℕ, List, [], ◌∷◌, nat_eq, refl}
use Rattle.std.specs.Cmp.Lexicographic.{pointwise}
use Rattle.std.proofs.Common.{sym, ap, ◌∙◌, lt-ltb, le-ltb, le-leb, eq-eqb, ne_eqb}
use Rattle.std.proofs.lemmas.Bool.{lt-leb}
use Rattle.std.proofs.lemmas.Bool.{false≢true}
use Rattle.errors.specs.Choice.{pick, same, same_self, same_is, same_not}

pub at_true : {A : Type 0} (x a b : A) (t : Bool) → t ≡ true → x ≡ a → x ≡ pick t a b
unfolding pick
at_true x a b t h e = rw h e

pub at_false : {A : Type 0} (x a b : A) (t : Bool) → t ≡ false → x ≡ b → x ≡ pick t a b
unfolding pick
at_false x a b t h e = rw h e

-- a test that a call answered
pub same-value : (r s t : Bool) → r ≡ s → r ≡ t → s ≡ t
same-value r s t p q = sym p ∙ q

-- `==` of two byte slices tells `same` of them, either way round
module _ (s t : List ℕ) (b : Bool) where
  pub same_by : pointwise nat_eq s t ≡ b → same s t ≡ b
  unfolding same
  same_by h = sym (go s t) ∙ h
    where
      go : (s t : List ℕ) → pointwise nat_eq s t ≡ same s t
      go [] [] = refl
      go [] (y ∷ t) = refl
      go (x ∷ s) [] = refl
      go (x ∷ s) (y ∷ t) = ap (λ c. nat_eq x y && c) (go s t)

  pub swapped_by : pointwise nat_eq s t ≡ b → same t s ≡ b
  swapped_by h = go (same s t) refl ∙ same_by h
    where
      go : (c : Bool) → same s t ≡ c → same t s ≡ same s t
      go true e = rw (same_is s t e) refl
      go false e = same_not t s (λ q. false≢true (sym e ∙ rw q (same_self s))) ∙ sym e

pub ruleset picks = (at_true, at_false, lt-ltb, le-ltb, lt-leb, le-leb, eq-eqb, ne_eqb)

pub ruleset picked = (picks, same-value)

pub ruleset equals = (picks, same_by, swapped_by)
