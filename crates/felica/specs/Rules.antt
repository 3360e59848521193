-- Rules by which `search` follows a definition's tests where a call answered the number that is tested.
use Rattle.std.specs.Prelude.{◌≡◌, Bool, true, false, List, ℕ, ◌≤◌, ◌<◌, eqb, leb, length, get_or}
use Rattle.std.proofs.Common.{sym, ap, ◌∙◌, le-leb, eq-eqb, ne_eqb}
use Rattle.std.proofs.lemmas.Bool.{lt-leb}
use Rattle.std.proofs.Math.ListN.{get_or-eq_default}
use Rattle.framing.specs.Rules.{steps}

pub byte_behind : (l : List ℕ) (i : ℕ) → length l ≤ i → 0 ≡ get_or l i 0
byte_behind l i h = sym (get_or-eq_default l 0 {n = i} h)

module _ (r x k : ℕ) (known : r ≡ x) where
  pub known_eq : r ≡ k → eqb x k ≡ true
  known_eq h = eq-eqb x k (sym known ∙ h)

  pub known_ne : (r ≡ k → ⊥) → eqb x k ≡ false
  known_ne h = ne_eqb x k (λ e. h (known ∙ e))

  pub known_is : (t : Bool) → t ≡ eqb r k → t ≡ eqb x k
  known_is t e = e ∙ ap (λ n. eqb n k) known

  pub known_least : k ≤ r → leb k x ≡ true
  known_least h = rw known at (le-leb k r h)

  pub known_under : r < k → leb k x ≡ false
  known_under h = rw known at (lt-leb k r h)

  pub known-most : r ≤ k → leb x k ≡ true
  known-most h = rw known at (le-leb r k h)

  pub known_over : k < r → leb x k ≡ false
  known_over h = rw known at (lt-leb r k h)

pub ruleset tests = (steps, known_eq, known_ne)

pub ruleset bounds = (tests, known_least, known_under, known-most, known_over)
