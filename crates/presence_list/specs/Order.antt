-- The order of texts of bytes: at the first byte in which they differ the smaller byte comes first, and a prefix comes first.
use Rattle.std.specs.Prelude.{Bool, true, false, List, [], ◌∷◌, ℕ, ltb, eqb}
use Rattle.errors.specs.Choice.{pick}

unfoldable pub before : List ℕ → List ℕ → Bool
before [] [] = false
before [] (y ∷ ys) = true
before (x ∷ xs) [] = false
before (x ∷ xs) (y ∷ ys) = pick (eqb x y) (before xs ys) (ltb x y)
