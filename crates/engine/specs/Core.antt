-- What a call or an event does to the running call, its arrays and the buffer: the contracts of core.rt and reply.rt.
use Rattle.std.specs.Prelude.{ℕ, ◌≤◌, Bool, List, [], length, take, ◌==◌, nat_le, nat_lt}
use Rattle.errors.specs.Choice.{pick}
use Rattle.errors.specs.declared.Refusal.{Refusal}
use Rattle.errors.specs.declared.Refusal.TheVariants.{OutOfTurn, ShortBuffer, OverLong}
use Rattle.errors.specs.declared.Fault.{Fault}
use Rattle.framing.specs.Frames.{ack}
use Rattle.framing.specs.Lists.{both}
use Rattle.exchange.specs.Exchange.{Event}
use Rattle.exchange.specs.Exchange.{Order, write, read, drain, pause}
use Rattle.exchange.specs.Packets.{Reply, response, failed, command_frame}
use Rattle.exchange.specs.Steps.{exchange_at, draining_phase, sending_phase}
use Rattle.exchange.specs.declared.Exchange.{Exchange}
use Rattle.protocol.specs.Session.{packet_limit, buffer_need, packet_length}
use Rattle.protocol.specs.Starts.{data_limit}
use Rattle.protocol.specs.Scripts.{Answer, done, type1, uid_and_ats, nothing, refused, refused_after}
use Rattle.stages.specs.Put.{put}
use Rattle.stages.specs.Stages.{Command, Decision, send, keep, next, put as put_by, pause as pause_for, ends}
use Rattle.stages.specs.Starts.{Start, staged, sends as sends_first, refuses as refuses_at_once}
use Rattle.calls.specs.Tables.{command_of, decided_of, failed_of}
use Rattle.stages.specs.Decided.{found_limit}
use Rattle.engine.specs.Transitions.{opening_ack_phase, no_call_of, first_call, valid_call, fits, at, to_stage, to_cursor, Transitioned, unfitting, orders, sends, reset_done, replies, refuses, transition_of, pause_phase}
use Rattle.engine.specs.declared.call.Call.{Call}
use Rattle.engine.specs.declared.running.Core.{Core}
use Rattle.engine.specs.declared.running.Progress.{Progress}
use Rattle.engine.specs.declared.running.Output.{Output}
use Rattle.engine.specs.declared.running.Output.TheVariants as out
use Rattle.calls.specs.Kinds.{no_call_kind}
use Rattle.device.specs.Kinds.{opening_kind, reset_stage}

-- every field is in its range
unfoldable pub is_valid_of : Core → Bool
is_valid_of s = both (nat_le s.command data_limit) (both (nat_le s.found found_limit) (both (nat_le s.exchange.phase draining_phase) (valid_call s.call)))

-- the bytes in use are within their limits, and the buffer has room
abbrev pub Lent : Core → List ℕ → Type 0
Lent s buffer = (s.found ≤ found_limit) × (s.command ≤ data_limit) × (buffer_need ≤ length buffer)

-- ---- the numbers with some fields anew

abbrev pub no_core : Core
no_core = record { command = 0; found = 0; exchange = exchange_at sending_phase 0 0; call = no_call_of }

abbrev pub running : Core → Call → Exchange → Core
running s c x = record { command = s.command; found = s.found; exchange = x; call = c }

-- no call runs any more
abbrev pub idle : Core → Core
idle s = running s no_call_of s.exchange

abbrev pub with_found_of : Core → ℕ → Core
with_found_of s n = record { command = s.command; found = n; exchange = s.exchange; call = s.call }

abbrev pub with_command_of : Core → ℕ → Core
with_command_of s n = record { command = n; found = s.found; exchange = s.exchange; call = s.call }

-- ---- numbers, arrays, output and buffer after an entry

-- the two arrays of a session
pub record Arrays : Type 0 where
  pub command : List ℕ
  pub found : List ℕ

abbrev pub arrays : List ℕ → List ℕ → Arrays
arrays c f = record { command = c; found = f }

-- the parts of them that are in use
abbrev pub pending_of : Core → Arrays → List ℕ
pending_of s f = take s.command f.command

abbrev pub found_of : Core → Arrays → List ℕ
found_of s f = take s.found f.found

-- S: the numbers of the running call, or these and the books
pub record After (S : Type 0) : Type 0 where
  pub state : S
  pub arrays : Arrays
  pub output : Output
  pub buffer : List ℕ

abbrev pub after : {S : Type 0} → S → Arrays → Output → List ℕ → After S
after s f o b = record { state = s; arrays = f; output = o; buffer = b }

abbrev pub progressed : Progress → Arrays → List ℕ → After Core
progressed p f b = after p.core f p.output b

abbrev pub unchanged : {S : Type 0} → S → Arrays → Refusal → List ℕ → After S
unchanged s f r b = after s f (out.Refused r) b

abbrev pub put_found : List ℕ → Arrays → Arrays
put_found bytes f = arrays f.command (put bytes f.found)

abbrev pub put_command : List ℕ → Arrays → Arrays
put_command bytes f = arrays (put bytes f.command) f.found

-- an order that writes no command: a write is ACK's
abbrev pub orders_of : Core → Arrays → Order → Call → Exchange → List ℕ → After Core
orders_of s f (write bytes) c x b = after (running s c x) f out.Ack (put bytes b)
orders_of s f (read ms) c x b = after (running s c x) f (out.Read ms) b
orders_of s f drain c x b = after (running s c x) f out.Drain b
orders_of s f (pause us) c x b = after (running s c x) f (out.Pause us) b

-- a command
abbrev pub sends_of : Core → Arrays → Call → Command → List ℕ → After Core
sends_of s f c m b =
    let frame = command_frame m.code m.bytes in
    after (running s c (exchange_at sending_phase m.code m.clock)) f (out.Command (length frame)) (put frame b)

-- the command of a call's stage
unfoldable pub stage_of : Core → Arrays → Call → List ℕ → After Core
stage_of s f c b = sends_of s f c (command_of c.kind c.stage c.cursor (pending_of s f)) b

-- bytes are kept, and the command of a call's stage follows
abbrev pub keeps_of : Core → Arrays → Call → List ℕ → List ℕ → After Core
keeps_of s f c bytes b = stage_of (with_found_of s (length bytes)) (put_found bytes f) c b

abbrev pub ends_of : Core → Arrays → Output → List ℕ → After Core
ends_of s f o b = after (idle s) f o b

abbrev pub done_of : Core → Arrays → List ℕ → List ℕ → After Core
done_of s f bytes b = ends_of s f (out.Done (length bytes)) (put bytes b)

abbrev pub answers_of : Core → Arrays → Answer ℕ → List ℕ → After Core
answers_of s f (done bytes) b = done_of s f bytes b
answers_of s f (type1 bytes) b = ends_of s f (out.Type1 (length bytes)) (put bytes b)
answers_of s f (uid_and_ats bytes uid ats) b = ends_of s f (out.UidAndAts (length bytes) uid ats) (put bytes b)
answers_of s f nothing b = ends_of s f out.Nothing b
answers_of s f (refused r) b = ends_of s f (out.Failed r) b
answers_of s f (refused_after r n) b = ends_of s f (out.FailedAfter r n) b

-- what a call decided
unfoldable pub performs_of : Core → Arrays → Decision → List ℕ → After Core
performs_of s f (send n) b = stage_of s f (to_stage s.call n) b
performs_of s f (keep n bytes) b = keeps_of s f (to_stage s.call n) bytes b
performs_of s f (next n cursor bytes) b = keeps_of s f (to_cursor s.call n cursor) bytes b
performs_of s f (put_by n bytes) b = stage_of (with_command_of s (length bytes)) (put_command bytes f) (to_stage s.call n) b
performs_of s f (pause_for us n) b = orders_of s f (pause us) (at (to_stage s.call n) pause_phase) s.exchange b
performs_of s f (ends a) b = answers_of s f a b

-- what is decided upon the response to the call's command, or its reset, and upon its failure
abbrev pub reply_decision : Core → Arrays → Reply → Decision
reply_decision s f (response bytes) = decided_of s.call.kind s.call.stage s.call.cursor (pending_of s f) (found_of s f) bytes
reply_decision s f (failed r) = failed_of s.call.kind s.call.stage s.call.cursor (pending_of s f) (found_of s f) r

unfoldable pub replies_of : Core → Arrays → List ℕ → List ℕ → After Core
replies_of s f bytes b = performs_of s f (reply_decision s f (response bytes)) b

unfoldable pub fails_of : Core → Arrays → Fault → List ℕ → After Core
fails_of s f r b = performs_of s f (reply_decision s f (failed r)) b

unfoldable pub transitioned_of : Core → Arrays → Transitioned → List ℕ → After Core
transitioned_of s f unfitting b = unchanged s f OutOfTurn b
transitioned_of s f (orders o c x) b = orders_of s f o c x b
transitioned_of s f (sends c) b = stage_of s f c b
transitioned_of s f reset_done b = replies_of s f [] b
transitioned_of s f (replies bytes) b = replies_of s f bytes b
transitioned_of s f (refuses r) b = fails_of s f r b

-- ---- the entries

unfoldable pub is_long_of : Event → Bool
is_long_of e = nat_lt packet_limit (packet_length e)

-- an event: 1, 2, 3, then what it does
unfoldable pub admitted_of : Core → Arrays → Transitioned → Event → List ℕ → After Core
admitted_of s f m e b =
    pick (fits m)
    (pick (nat_lt (length b) buffer_need) (unchanged s f ShortBuffer b) (pick (is_long_of e) (unchanged s f OverLong b) (transitioned_of s f m b)))
    (unchanged s f OutOfTurn b)

unfoldable pub event_core : Core → Arrays → Event → List ℕ → After Core
event_core s f e b = pick (s.call.kind == no_call_kind) (unchanged s f OutOfTurn b) (admitted_of s f (transition_of s.call s.exchange e) e b)

-- `Chipset::new` begins
unfoldable pub open_core : Core → Arrays → List ℕ → After Core
open_core s f b = orders_of (with_found_of s 0) f (write ack) (record { kind = opening_kind; stage = reset_stage; cursor = 0; phase = opening_ack_phase }) s.exchange b

-- a call's own refusals, or its first command, with what is put by
unfoldable pub start_on : Core → Arrays → Start → List ℕ → After Core
start_on s f (refuses_at_once r) b = unchanged s f r b
start_on s f (sends_first kind m) b = sends_of (with_command_of s (length m.bytes)) (put_command m.bytes f) (first_call kind) m b
start_on s f (staged kind pending) b = stage_of (with_command_of s (length pending)) (put_command pending f) (first_call kind) b
