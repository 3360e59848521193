use Rattle.errors.specs.Choice.{pick}
use Rattle.discovery.specs.Decisions.{type_a_decision}
use Rattle.discovery.specs.Decisions.{fifo_read, rx_mode_read}
use Rattle.discovery.proofs.type_a.decided.Goals as goal

pub returns-in-0 : goal.returns-in-0
unfolding fifo_read pick rx_mode_read type_a_decision
returns-in-0 c = rw c.in-0.is (c.listed_a.ensures _)

pub returns-in-1 : goal.returns-in-1
unfolding fifo_read pick rx_mode_read type_a_decision
returns-in-1 c = rw c.in-1.is (c.fifo.ensures _)

pub returns-in-2 : goal.returns-in-2
unfolding fifo_read pick rx_mode_read type_a_decision
returns-in-2 c = rw c.in-2.is (c.listed_type1.ensures _)

pub returns-in-4 : goal.returns-in-4
unfolding fifo_read pick rx_mode_read type_a_decision
returns-in-4 c = rw c.in-4.is (c.rx_mode.ensures _)
