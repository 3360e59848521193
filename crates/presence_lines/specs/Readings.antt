-- The code's values in the terms of the definitions.
use Rattle.std.specs.Prelude.{◌≡◌, Bool, true, false, List, ◌++◌, ℕ, take, Option, Some, None}
use Rattle.bench.specs.Texts.{Appends}
use Rattle.presence_lines.specs.Lines.{Said, said, are_cards, records_of_words}
use Rattle.presence_lines.specs.declared.read.RoundLine.{RoundLine}

-- records p that were put behind the place `at` of b, which became o; or t is false
abbrev pub PutsRecord : Option ℕ → Bool → ℕ → List ℕ → List ℕ → List ℕ → Type 0
PutsRecord (Some m) t at p b o = (t ≡ true) × Appends at p b m o
PutsRecord None t at p b o = t ≡ false

-- the records of the words up to `left` were put at the start of b, which became o up to place n
pub record ReadSoFar (all left : List (List ℕ)) (b : List ℕ) (n : ℕ) (o : List ℕ) : Type 0 where
  pub done : List ℕ
  pub split : records_of_words all ≡ done ++ records_of_words left
  pub cards : are_cards all ≡ are_cards left
  pub put : Appends 0 done b n o

-- what was read, with its records at the start of b
abbrev pub read_in : Option RoundLine → List ℕ → Option Said
read_in (Some r) b = Some (said r.number (take r.len b))
read_in None b = None

abbrev pub read_bytes : Option RoundLine → ℕ
read_bytes (Some r) = r.len
read_bytes None = 0
