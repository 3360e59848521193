-- Rules by which `search` follows a definition's tests: what held on the way decides each `pick` and `both`.
use Rattle.std.specs.Prelude.{◌≡◌, Bool, true, false, ◌&&◌, ℕ, List, [], ◌∷◌, length, take, nat_eq, refl}
use Rattle.std.specs.Cmp.Lexicographic.{pointwise}
use Rattle.std.proofs.Common.{ap, sym, ◌∙◌}
use Rattle.errors.specs.Rules.{same-value, picks, equals}
use Rattle.framing.specs.Lists.{both, starts}

pub both_true : (r a b : Bool) → a ≡ true → r ≡ b → r ≡ both a b
both_true r a b h e = rw h e

pub both_false : (a b : Bool) → a ≡ false → false ≡ both a b
both_false a b h = rw h

-- `starts_with` of two byte slices tells `starts` of them
pub starts_by : (f p : List ℕ) (b : Bool) → pointwise nat_eq f (take (length f) p) ≡ b → starts f p ≡ b
unfolding starts
starts_by f p b h = sym (go f p) ∙ h
  where
    and_is : (a c : Bool) → (a && c) ≡ both a c
    and_is true c = refl
    and_is false c = refl

    go : (f p : List ℕ) → pointwise nat_eq f (take (length f) p) ≡ starts f p
    go [] p = refl
    go (x ∷ f) [] = refl
    go (x ∷ f) (y ∷ p) = ap (λ c. nat_eq x y && c) (go f p) ∙ and_is (nat_eq x y) (starts f p)

pub ruleset prefixes = (equals, starts_by)

pub ruleset cases = (picks, both_true, both_false)

pub ruleset steps = (cases, same-value)
