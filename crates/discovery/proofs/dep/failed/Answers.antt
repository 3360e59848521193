use Rattle.errors.specs.Choice.{pick}
use Rattle.discovery.specs.Decisions.{dep_failure}
use Rattle.discovery.proofs.dep.failed.Goals as goal

pub returns-in-1 : goal.returns-in-1
unfolding dep_failure pick
returns-in-1 c = λ f b. rw c.in-1.is (c.jump_failed.ensures _ _)
