use Rattle.std.proofs.Common.{rules}
use Rattle.engine.specs.Core.{transitioned_of}
use Rattle.engine.specs.Laws.{valid_command, valid-found}
use Rattle.engine.proofs.Events.{no_call, does_not_fit, buffer_short, packet_long, goes_through, response_short}
use Rattle.engine.proofs.running.Core.event.Goals as goal

pub returns-then-call-eq-NO_CALL_KIND : goal.returns-then-call-eq-NO_CALL_KIND
unfolding transitioned_of
returns-then-call-eq-NO_CALL_KIND c = search (no_call, c.refused.ensures, rules)

pub returns-in_default : goal.returns-in_default
unfolding transitioned_of
returns-in_default c = search (does_not_fit, c.refused-in_default.ensures, rules)

pub returns-then-buffer-lt-BUFFER_NEED : goal.returns-then-buffer-lt-BUFFER_NEED
unfolding transitioned_of
returns-then-buffer-lt-BUFFER_NEED c = search (buffer_short, c.refused-then-buffer-lt-BUFFER_NEED.ensures, rules)

pub returns-then-is_long : goal.returns-then-is_long
unfolding transitioned_of
returns-then-is_long c = search (packet_long, c.refused-then-is_long.ensures, rules)

pub send-requires : goal.send-requires
send-requires c = search (valid_command, rules)

pub replied-requires : goal.replied-requires
replied-requires c = search (response_short, valid-found, valid_command, rules)

pub returns-in-Orders : goal.returns-in-Orders
unfolding transitioned_of
returns-in-Orders c = search (goes_through, c.ordered.ensures, rules)

pub returns-in-Sends : goal.returns-in-Sends
unfolding transitioned_of
returns-in-Sends c = search (goes_through, c.send.ensures, rules)

pub returns-in-Ends : goal.returns-in-Ends
unfolding transitioned_of
returns-in-Ends c = search (goes_through, rules)
