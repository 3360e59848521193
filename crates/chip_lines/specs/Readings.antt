-- The code's values in the terms of the definitions.
use Rattle.std.specs.Prelude.{◌≡◌, List, ℕ, ◌≤◌, length}
use Rattle.bench.specs.Texts.{Appends}
use Rattle.simulated_chip.specs.declared.chip.Chip.{Chip}
use Rattle.chip_lines.specs.Lines.{LineAnswer, text_limit}

-- the text was put at the start of o, which became o', up to place n
pub record Prints (t : List ℕ) (n : ℕ) (o o' : List ℕ) : Type 0 where
  pub put : Appends 0 t o n o'
  pub short : length t ≤ text_limit

-- the chip is that of the answer, and its text was put
pub record Answers (a : LineAnswer) (c : Chip) (n : ℕ) (o o' : List ℕ) : Type 0 where
  pub chip : c ≡ a.chip
  pub text : Prints a.text n o o'
