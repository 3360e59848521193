use Rattle.stages.specs.Laws.{decision_nothing}
use Rattle.discovery.specs.Laws.{same_afi}
use Rattle.discovery.specs.Decisions.{by_target, listed_b_of}
use Rattle.discovery.proofs.type_b.listed_b.Goals as goal

pub returns : goal.returns
unfolding by_target listed_b_of
returns c = λ f. c.by_target.ensures f _ _ (decision_nothing _ _) (λ r long e. same_afi _ _ _ _ _ _ c.byte_or-afi.ensures (rw e.2 at e.1 f))
