use native.Mathlib.Omega.{arith}
use Rattle.discovery.specs.Laws.{lays_sens_res, lays_no_sens_res}
use Rattle.discovery.proofs.type_a.sens_res.Goals as goal

pub returns-then-list-lt-SEL_RES_OFFSET : goal.returns-then-list-lt-SEL_RES_OFFSET
returns-then-list-lt-SEL_RES_OFFSET c = λ f. lays_no_sens_res f _ _ (omega arith) (c.part.ensures f _ (omega arith))

pub returns-else-list-lt-SEL_RES_OFFSET : goal.returns-else-list-lt-SEL_RES_OFFSET
returns-else-list-lt-SEL_RES_OFFSET c = λ f. lays_sens_res f _ _ (omega arith) (c.headed.ensures f (omega arith) (omega arith) (omega arith))
