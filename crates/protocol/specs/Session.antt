-- The session: a running call, the reader's books around it, the entries of a list, and what each does.
use Rattle.std.specs.Prelude.{Bool, true, false, cond, ◌||◌, List, [], ◌∷◌, ℕ, zero, suc, min, leb, ltb, length}
use Rattle.errors.specs.declared.Refusal.{Refusal}
use Rattle.errors.specs.declared.Refusal.TheVariants.{OutOfTurn, ShortBuffer, OverLong, BadArgument}
use Rattle.errors.specs.declared.Fault.TheVariants.{Transport}
use Rattle.framing.specs.Frames.{ack}
use Rattle.framing.specs.Padded.{unpadded}
use Rattle.exchange.specs.Packets.{command_frame, is_ack, Reply}
use Rattle.exchange.specs.Exchange.{Order, write, read, drain, pause, Event, ok, bad, pkt, time, fail, late, slept}
use Rattle.exchange.specs.Exchange.{Result, unfit, pending, ended, on_write, on_read, on_pause, ExchangePhase, sending, advance, ExchangeResult}
use Rattle.protocol.specs.Scripts.{Byte, Answer, done, type1, uid_and_ats, nothing, refused, Script, finish, command, reset, field_pause, refused_after}
use Rattle.protocol.specs.Calls.{Call, opening, reader, is_opening, is_padded_mode, reset_mode_code, reset_mode_data}
use Rattle.protocol.specs.Starts.{Start, refuses, starts, start_of}
use Rattle.protocol.specs.Names.{field_pause_time, opening_read_time, reset_pause_time, command_clock}

-- ---- a running call

-- what follows a command's exchange: the script by the reply, or, behind a reset's, its ACK and the script whatever the reply
pub data Rest : Type 0 where
  by_reply : (Reply → Script) → Rest
  of_reset : Script → Rest

pub data Phase : Type 0 where
  exchange : ExchangePhase → Rest → Phase
  reset_ack : Script → Phase  -- `reset_mode`: ACK is being written
  reset_pause : Script → Phase  -- its 10 ms
  field_pausing : Script → Phase  -- the field pause
  opening_ack : Script → Phase  -- `Chipset::new`: ACK is being written
  opening_reads : Script → Phase  -- its reads

abbrev pub CallResult : Type 0
CallResult = Result Phase (Answer Byte)

-- what a script does first
abbrev pub start_script : Script → CallResult
start_script (finish a) = ended a
start_script (command code clock bytes k) = pending (write (command_frame code bytes)) (exchange (sending code clock) (by_reply k))
start_script (reset s) = pending (write (command_frame reset_mode_code reset_mode_data)) (exchange (sending reset_mode_code command_clock) (of_reset s))
start_script (field_pause s) = pending (pause field_pause_time) (field_pausing s)

-- what a reply leads to
abbrev pub after_reply : Rest → Reply → CallResult
after_reply (by_reply k) r = start_script (k r)
after_reply (of_reset s) r = pending (write ack) (reset_ack s)

abbrev pub after_exchange : Rest → ExchangeResult → CallResult
after_exchange rest unfit = unfit
after_exchange rest (pending x step) = pending x (exchange step rest)
after_exchange rest (ended r) = after_reply rest r

-- what an event does to a running call
abbrev pub progress : Phase → Event → CallResult
progress (exchange step rest) e = after_exchange rest (advance step e)
progress (reset_ack s) e = on_write unfit (pending (pause reset_pause_time) (reset_pause s)) (ended (refused Transport)) e
progress (reset_pause s) e = on_pause unfit (start_script s) e
progress (field_pausing s) e = on_pause unfit (start_script s) e
progress (opening_ack s) e = on_write unfit (pending (read opening_read_time) (opening_reads s)) (ended (refused Transport)) e
progress (opening_reads s) e = on_read unfit (λ _. pending (read opening_read_time) (opening_reads s)) (start_script s) (start_script s) unfit e

-- a call begins, an opening by `Chipset::new`
abbrev pub begin : Bool → Script → CallResult
begin true s = pending (write ack) (opening_ack s)
begin false s = start_script s

-- no call, or one in its phase
pub data Running : Type 0 where
  idle : Running
  busy : Call → Phase → Running

-- ---- the reader's books

-- "padded": the mode that the last opening chose. "caller": whose call the last accepted one is. "counts": for each caller the command
-- frames that its calls ordered since the last opening began, its own included, up to the ceiling
pub record Books : Type 0 where
  pub opened : Bool
  pub padded : Bool
  pub caller : ℕ
  pub counts : List ℕ

-- callers are 0 to 7
abbrev pub last_caller : ℕ
last_caller = 7

abbrev pub caller_count : ℕ
caller_count = 8

abbrev pub no_counts : List ℕ
no_counts = 0 ∷ 0 ∷ 0 ∷ 0 ∷ 0 ∷ 0 ∷ 0 ∷ 0 ∷ []

-- where an opening begins; those of a fresh session have the mode off
abbrev pub no_books : Bool → ℕ → Books
no_books padded caller = record { opened = false; padded = padded; caller = caller; counts = no_counts }

-- a call is admitted in an open reader, an opening in any
abbrev pub admits : Books → Call → Bool
admits b c = b.opened || is_opening c

-- what the doings of a caller's call are booked on: an opening begins the books anew, in its mode
abbrev pub books_for : ℕ → Call → Books → Books
books_for caller (opening mode) b = no_books (is_padded_mode mode) caller
books_for caller (reader c) b = record { opened = b.opened; padded = b.padded; caller = caller; counts = b.counts }

abbrev pub ceiling : ℕ
ceiling = 4294967295

-- a write order counts unless it is the bare ACK
abbrev pub add_frame : Bool → ℕ → ℕ
add_frame true n = n
add_frame false n = min (suc n) ceiling

abbrev pub counted : Order → ℕ → ℕ
counted (write bytes) n = add_frame (is_ack bytes) n
counted (read ms) n = n
counted drain n = n
counted (pause us) n = n

-- it counts for its caller
abbrev pub counted_for : ℕ → Order → List ℕ → List ℕ
counted_for caller x [] = []
counted_for zero x (n ∷ ns) = counted x n ∷ ns
counted_for (suc k) x (n ∷ ns) = n ∷ counted_for k x ns

abbrev pub book_order : Order → Books → Books
book_order x b = record { opened = b.opened; padded = b.padded; caller = b.caller; counts = counted_for b.caller x b.counts }

-- an opening that succeeds leaves the reader open, one that fails unopened; any other call leaves it as it was
abbrev pub succeeds : Answer Byte → Bool
succeeds (done bytes) = true
succeeds (type1 bytes) = true
succeeds (uid_and_ats bytes uid ats) = true
succeeds nothing = false
succeeds (refused r) = false
succeeds (refused_after r n) = false

abbrev pub book_answer : Call → Answer Byte → Books → Books
book_answer c a b = record { opened = cond (is_opening c) (succeeds a) b.opened; padded = b.padded; caller = b.caller; counts = b.counts }

-- ---- the session

pub record Session : Type 0 where
  pub running : Running
  pub books : Books

abbrev pub fresh : Session
fresh = record { running = idle; books = no_books false 0 }

-- ---- packets

-- a packet, at most
abbrev pub packet_limit : ℕ
packet_limit = 1024

-- an event as the mode sees it: in the padded one a packet, if it is not over-long, is seen without its extra zeros
abbrev pub without_zeros : Event → Event
without_zeros ok = ok
without_zeros bad = bad
without_zeros (pkt packet) = pkt (cond (ltb packet_limit (length packet)) packet (unpadded packet))
without_zeros time = time
without_zeros fail = fail
without_zeros late = late
without_zeros slept = slept

abbrev pub seen : Bool → Event → Event
seen false e = e
seen true e = without_zeros e

-- ---- the list

-- an entry of document 01's "list": a call, with its caller, or an event, each with the length of the engine's buffer
pub data Entry : Type 0 where
  call : ℕ → Call → ℕ → Entry
  event : Event → ℕ → Entry

abbrev pub seen_entry : Bool → Entry → Entry
seen_entry padded (call caller c room) = call caller c room
seen_entry padded (event e room) = event (seen padded e) room

-- what is given out, as the bench program prints it; `rejects` is a refusal at once, a later one is an answer
pub data Output (B : Type 0) : Type 0 where
  orders : Order → Output B
  answers : Answer B → Output B
  rejects : Refusal → Output B

-- what an entry does: it is refused and nothing changes, or its call goes on with an order, or ends
pub data Effect : Type 0 where
  unchanged : Refusal → Effect
  runs : Call → Order → Phase → Effect
  ends : Call → Answer Byte → Effect

abbrev pub effect : Call → CallResult → Effect
effect c unfit = unchanged OutOfTurn
effect c (pending x phase) = runs c x phase
effect c (ended a) = ends c a

-- the engine's buffer, at least
abbrev pub buffer_need : ℕ
buffer_need = 1024

abbrev pub with_room : ℕ → Effect → Effect
with_room room o = cond (ltb room buffer_need) (unchanged ShortBuffer) o

abbrev pub packet_length : Event → ℕ
packet_length e = on_read 0 length 0 0 0 e

-- an event: 1, 2, 3
abbrev pub admitted : Event → ℕ → Effect → Effect
admitted e room o = with_room room (cond (ltb packet_limit (packet_length e)) (unchanged OverLong) o)

abbrev pub event_effect : Call → Event → ℕ → CallResult → Effect
event_effect c e room unfit = unchanged OutOfTurn
event_effect c e room (pending x phase) = admitted e room (effect c (pending x phase))
event_effect c e room (ended a) = admitted e room (effect c (ended a))

-- a call: 1, 2, then 4 for a caller that there is not, then its own refusals
abbrev pub started : Call → Start → Effect
started c (refuses r) = unchanged r
started c (starts s) = effect c (begin (is_opening c) s)

abbrev pub with_caller : ℕ → Effect → Effect
with_caller caller o = cond (leb caller last_caller) o (unchanged BadArgument)

abbrev pub call_effect : Bool → ℕ → Call → ℕ → Effect
call_effect is_admitted caller c room = cond is_admitted (with_room room (with_caller caller (started c (start_of c)))) (unchanged OutOfTurn)

abbrev pub effect_of : Running → Books → Entry → Effect
effect_of idle b (call caller c room) = call_effect (admits b c) caller c room
effect_of idle b (event e room) = unchanged OutOfTurn
effect_of (busy c phase) b (call caller d room) = unchanged OutOfTurn
effect_of (busy c phase) b (event e room) = event_effect c (seen b.padded e) room (progress phase (seen b.padded e))

-- the running call after it, and the books
abbrev pub running_after : Running → Effect → Running
running_after p (unchanged r) = p
running_after p (runs c x phase) = busy c phase
running_after p (ends c a) = idle

abbrev pub books_by : Entry → Books → Books
books_by (call caller c room) b = books_for caller c b
books_by (event e room) b = b

abbrev pub book_effect : Effect → Books → Books
book_effect (unchanged r) b = b
book_effect (runs c x phase) b = book_order x b
book_effect (ends c a) b = book_answer c a b

abbrev pub books_after : Books → Entry → Effect → Books
books_after b e (unchanged r) = b
books_after b e (runs c x phase) = book_effect (runs c x phase) (books_by e b)
books_after b e (ends c a) = book_effect (ends c a) (books_by e b)

abbrev pub after_effect : Session → Entry → Effect → Session
after_effect s e o = record { running = running_after s.running o; books = books_after s.books e o }

abbrev pub given : Effect → Output Byte
given (unchanged r) = rejects r
given (runs c x phase) = orders x
given (ends c a) = answers a

-- the state after a step, and what is given out
pub record StepResult (S B : Type 0) : Type 0 where
  pub state : S
  pub output : Output B

abbrev pub step_result : {S B : Type 0} → S → Output B → StepResult S B
step_result s o = record { state = s; output = o }

abbrev pub step : Session → Entry → StepResult Session Byte
step s e = step_result (after_effect s e (effect_of s.running s.books e)) (given (effect_of s.running s.books e))

-- what a list gives out, and the session after it
abbrev pub outputs : Session → List Entry → List (Output Byte)
outputs s [] = []
outputs s (e ∷ es) = (step s e).output ∷ outputs (step s e).state es

abbrev pub session_after : Session → List Entry → Session
session_after s [] = s
session_after s (e ∷ es) = session_after (step s e).state es
