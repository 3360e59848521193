use Rattle.errors.specs.Choice.{pick}
use Rattle.discovery.specs.Decisions.{type_a_failure}
use Rattle.discovery.proofs.type_a.failed.Goals as goal

pub returns-in-3 : goal.returns-in-3
unfolding pick type_a_failure
returns-in-3 c = λ f b. rw c.in-3.is (c.rid_failed.ensures _ _)
