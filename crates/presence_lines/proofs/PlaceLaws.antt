-- What is looked for in a part stands within it, or at its end.
use Rattle.std.proofs.Common.{◌≡◌, ◌+◌, ◌≤◌, ℕ, suc, List, [], ◌∷◌, Bool, true, false, eqb, length, take, drop, arith, length-drop}
use Rattle.std.proofs.lemmas.List.{length-take}
use Rattle.octets.specs.Bytes.{index_of, index_after, slice}

index_within : (x : ℕ) (b : List ℕ) → index_of x b ≤ length b
unfolding index_of index_after
index_within x [] = omega arith
index_within x (y ∷ b) = go (eqb y x) (index_within x b)
  where
    go : (t : Bool) → index_of x b ≤ length b → index_after t (index_of x b) ≤ suc (length b)
    go true h = omega arith
    go false h = omega arith

pub found_within : (x at to n : ℕ) (b : List ℕ) → at ≤ to → to ≤ length b → n ≡ at + index_of x (slice at to b) → n ≤ to
unfolding slice
found_within x at to n b h k e = omega (arith, index_within x (drop at (take to b)), length-drop at (take to b), length-take to b)
