use Rattle.stages.specs.Laws.{decision_send}
use Rattle.discovery.specs.Decisions.{by_target, listed_a_of}
use Rattle.discovery.proofs.type_a.listed_a.Goals as goal

pub returns : goal.returns
unfolding by_target listed_a_of
returns c = λ f. c.by_target.ensures f _ _ (decision_send _ _ _) (λ r long e. rw e.2 at e.1 f)
