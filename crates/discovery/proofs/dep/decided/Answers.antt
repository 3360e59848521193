use Rattle.errors.specs.Choice.{pick}
use Rattle.discovery.specs.Decisions.{dep_decision}
use Rattle.discovery.specs.Decisions.{jumped_to}
use Rattle.discovery.proofs.dep.decided.Goals as goal

pub returns-in-1 : goal.returns-in-1
unfolding dep_decision jumped_to pick
returns-in-1 c = rw c.in-1.is (c.jumped.ensures _)
