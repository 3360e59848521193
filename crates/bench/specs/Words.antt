-- The words of a line: what stands between its spaces (32). `a  b` has three words, and the empty line has one.
use Rattle.std.specs.Prelude.{List, [], ◌∷◌, ℕ, eqb}
use Rattle.errors.specs.Choice.{pick}

-- a byte before the first word
unfoldable pub ahead : ℕ → List (List ℕ) → List (List ℕ)
ahead b [] = (b ∷ []) ∷ []
ahead b (w ∷ ws) = (b ∷ w) ∷ ws

unfoldable pub words_of_lem : List ℕ → List (List ℕ)
words_of_lem [] = [] ∷ []
words_of_lem (b ∷ l) = pick (eqb b 32) ([] ∷ words_of_lem l) (ahead b (words_of_lem l))
