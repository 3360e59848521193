use Rattle.std.proofs.Common.{rules}
use Rattle.stages.specs.Laws.{decided, decision_true}
use Rattle.device.specs.Opening.{opening_decision}
use Rattle.device.proofs.decided.Goals as goal

pub returns-in-1 : goal.returns-in-1
unfolding opening_decision
returns-in-1 c = decision_true _ _ _ _ _ _ (search (decided, rules)) (c.version.ensures _)
