use Rattle.errors.specs.Choice.{pick}
use borrow.Author.Tests.{ne_eqb}
use Rattle.discovery.specs.Decisions.{type_b_decision}
use Rattle.discovery.proofs.type_b.decided.Goals as goal

pub returns-in-0 : goal.returns-in-0
unfolding pick type_b_decision
returns-in-0 c = λ f. rw c.in-0.is (c.listed_b.ensures _)

pub returns-in_default : goal.returns-in_default
unfolding pick type_b_decision
returns-in_default c = λ f. let r = c.in_default.in_default-own.rest in rw (ne_eqb _ 0 r.0.1, ne_eqb _ 1 r.1) (c.woken.ensures _)
