use Rattle.std.proofs.Common.{arith}
use Rattle.acceptance.proofs.OrderLaws.{step_within, step-over, step_end}
use Rattle.acceptance.proofs.Entry.next.Goals as goal

pub returns-in-Some : goal.returns-in-Some
returns-in-Some c = step_within _ _ (omega arith) c.in-Some.ensures.0

pub returns-in-None : goal.returns-in-None
returns-in-None c = step_end _ c.in-None.ensures.1 c.in-None.ensures.0 (omega arith) (omega arith)

pub returns-in-None-2 : goal.returns-in-None-2
returns-in-None-2 c = step-over _ c.in-None-2.ensures.1 c.in-None-2.ensures.0 (omega arith)
