use Rattle.stages.specs.Laws.{decision_send}
use Rattle.discovery.specs.Decisions.{by_target, split_listed}
use Rattle.discovery.proofs.type_a_split.listed.Goals as goal

pub returns : goal.returns
unfolding by_target split_listed
returns c = λ f. c.by_target.ensures f _ _ (decision_send _ _ _) (λ r long e. rw e.2 at e.1 f)
