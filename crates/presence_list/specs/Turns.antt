-- Elements of a list by their places.
use Rattle.std.specs.Prelude.{◌≡◌, Bool, false, ℕ, zero, suc, ◌+◌, ◌<◌, take}
use Rattle.std.proofs.Math.Path.{refl}
use Rattle.std.proofs.Common.{arith, add-one, take-suc}
use Rattle.std.proofs.Math.Bool.{true}
use mathlib.Core.List.{List, [], ◌∷◌, ◌++◌}
use Rattle.std.proofs.Math.ListN.{length, get_or}
use Rattle.errors.specs.Choice.{pick}
use Rattle.presence_list.specs.Presence.{any, every}

-- where every element passes, the one at a place does
pub every-at : {A : Type 0} (q : A → Bool) (l : List A) (i : ℕ) (d : A) → every q l ≡ true → i < length l → q (get_or l i d) ≡ true
unfolding every pick
every-at q [] i d e h = absurd (omega arith)
every-at q (x ∷ xs) zero d e h = go (q x) e
  where
    go : (t : Bool) → pick t (every q xs) false ≡ true → t ≡ true
    go true e = refl
    go false e = cc
every-at q (x ∷ xs) (suc i) d e h = every-at q xs i d (go (q x) e) (omega arith)
  where
    go : (t : Bool) → pick t (every q xs) false ≡ true → every q xs ≡ true
    go true e = e
    go false e = cc

-- where none passes, the one at a place does not
pub any_at : {A : Type 0} (q : A → Bool) (l : List A) (i : ℕ) (d : A) → any q l ≡ false → i < length l → q (get_or l i d) ≡ false
unfolding any pick
any_at q [] i d e h = absurd (omega arith)
any_at q (x ∷ xs) zero d e h = go (q x) e
  where
    go : (t : Bool) → pick t true (any q xs) ≡ false → t ≡ false
    go true e = cc
    go false e = refl
any_at q (x ∷ xs) (suc i) d e h = any_at q xs i d (go (q x) e) (omega arith)
  where
    go : (t : Bool) → pick t true (any q xs) ≡ false → any q xs ≡ false
    go true e = cc
    go false e = e

-- the list so far, with one element more
pub take_more : {A : Type 0} (l : List A) (i : ℕ) (d : A) → i < length l → take (i + 1) l ≡ take i l ++ get_or l i d ∷ []
take_more l i d h = rw (add-one i) (take-suc l i d h)
