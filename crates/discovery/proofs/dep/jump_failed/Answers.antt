use Rattle.discovery.specs.Decisions.{jump_failure}
use Rattle.discovery.proofs.dep.jump_failed.Goals as goal

pub returns : goal.returns
unfolding jump_failure
returns c = λ f b. rw c.in-Status.is (c.no_partner.ensures f b)
