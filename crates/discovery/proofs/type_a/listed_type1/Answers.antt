use Rattle.stages.specs.Laws.{decision_nothing}
use Rattle.discovery.specs.Decisions.{listed_type1_of}
use Rattle.discovery.proofs.type_a.listed_type1.Goals as goal
use Rattle.discovery.specs.Laws.{two_enough}

pub returns : goal.returns
unfolding listed_type1_of
returns c = λ f. two_enough _ _ _ _ _ _ (c.by_target.ensures f _ _ (decision_nothing _ _) (λ r long e. rw e.2 at e.1 f))
