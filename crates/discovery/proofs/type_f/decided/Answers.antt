use Rattle.errors.specs.Choice.{pick}
use Rattle.discovery.specs.Decisions.{type_f_decision}
use Rattle.discovery.specs.Decisions.{tx_control_read}
use borrow.Author.Tests.{ne_eqb}
use Rattle.discovery.proofs.type_f.decided.Goals as goal

pub returns-in-0 : goal.returns-in-0
unfolding pick tx_control_read type_f_decision
returns-in-0 c = λ f. rw c.in-0.is (c.tx_control.ensures _)

pub returns-in_default : goal.returns-in_default
unfolding type_f_decision tx_control_read pick
returns-in_default c = λ f.
    let r = c.in_default.in_default-own.rest in
    rw (ne_eqb _ 0 r.0.1, ne_eqb _ 1 r.1) (c.polled.ensures _)
