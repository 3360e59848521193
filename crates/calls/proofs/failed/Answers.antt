use Rattle.errors.specs.Choice.{pick}
use Rattle.calls.specs.Tables.{failed_of}
use Rattle.calls.proofs.failed.Goals as goal

pub returns-in-17 : goal.returns-in-17
unfolding failed_of pick
returns-in-17 c = λ b. rw c.in-17.is (c.failed.ensures _ b)

pub returns-in-18 : goal.returns-in-18
unfolding failed_of pick
returns-in-18 c = λ b. rw c.in-18.is (c.failed-in-18.ensures _ b)

pub returns-in-20 : goal.returns-in-20
unfolding failed_of pick
returns-in-20 c = λ b. rw c.in-20.is (c.failed-in-20.ensures _ b)

pub returns-in-21 : goal.returns-in-21
unfolding failed_of pick
returns-in-21 c = λ b. rw c.in-21.is (c.failed-in-21.ensures b)

pub returns-in-22 : goal.returns-in-22
unfolding failed_of pick
returns-in-22 c = λ b. rw c.in-22.is (c.failed-in-22.ensures _ b)
