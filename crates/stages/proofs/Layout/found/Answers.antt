use native.Mathlib.Omega.{arith}
use Rattle.stages.specs.Laws.{lays_found}
use Rattle.stages.proofs.Layout.found.Goals as goal

pub returns : goal.returns
returns c = λ b. lays_found _ b _ (c.behind.ensures _ b (omega arith) (omega arith) (λ u v. omega arith))
