use Rattle.std.proofs.Common.{rules}
use Rattle.discovery.specs.Decisions.{woken_up}
use Rattle.stages.specs.Laws.{decided, decision_true}
use Rattle.discovery.proofs.type_b.woken.Goals as goal

pub returns-then-byte_or-eq0 : goal.returns-then-byte_or-eq0
unfolding woken_up
returns-then-byte_or-eq0 c = λ f. decision_true _ _ _ _ _ _ (search (decided, rules)) (c.from.ensures.decision f)
