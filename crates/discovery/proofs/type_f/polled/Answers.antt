use Rattle.std.proofs.Common.{rules}
use Rattle.stages.specs.Stages.{with_length}
use Rattle.discovery.specs.Decisions.{polled}
use Rattle.stages.specs.Laws.{decided, decision_false}
use Rattle.discovery.specs.Laws.{not_short}
use Rattle.discovery.proofs.type_f.polled.Goals as goal

pub returns-else-response-lt-PMM_END : goal.returns-else-response-lt-PMM_END
unfolding polled with_length
returns-else-response-lt-PMM_END c = λ f. decision_false _ _ _ _ _ _ (search (decided, rules)) (decision_false _ _ _ _ _ _ (search (not_short, rules)) (decision_false _ _ _ _ _ _ (search (decided, rules)) (c.from.ensures.decision f)))
