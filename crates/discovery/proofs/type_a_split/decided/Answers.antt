use borrow.Author.Tests.{ne_eqb}
use Rattle.errors.specs.Choice.{pick}
use Rattle.discovery.specs.Decisions.{split_decision}
use Rattle.discovery.proofs.type_a_split.decided.Goals as goal

pub returns-in-0 : goal.returns-in-0
unfolding pick split_decision
returns-in-0 c = rw c.in-0.is (c.listed.ensures _)

pub returns-in_default : goal.returns-in_default
unfolding split_decision pick
returns-in_default c =
    let r = c.in_default.in_default-own.rest in
    rw (ne_eqb _ 0 r.0.1, ne_eqb _ 5 r.1) c.decided.ensures
