-- Runs: of a session along a list of entries, of one call along its events, of one exchange by its outcome. RunLaws has their laws.
use Rattle.std.specs.Prelude.{◌≡◌, Bool, true, false, List, [], ◌∷◌, map, ℕ, suc, leb, ltb}
use Rattle.std.proofs.Math.Option.{Option, none, some}
use Rattle.errors.specs.declared.Refusal.TheVariants.{OutOfTurn}
use Rattle.framing.specs.Frames.{ack}
use Rattle.exchange.specs.Packets.{command_frame, Reply}
use Rattle.exchange.specs.Exchange.{Order, write, read, drain, pause, Event, unfit, pending, ended, first_read_time}
use Rattle.protocol.specs.Scripts.{Byte, Answer, Script, finish, command, reset, field_pause}
use Rattle.protocol.specs.Names.{command_clock, reset_pause_time, field_pause_time}
use Rattle.protocol.specs.Calls.{Call, reset_mode_code, reset_mode_data}
use Rattle.protocol.specs.Starts.{starts, start_of}
use Rattle.protocol.specs.Session.{Phase, CallResult, progress, Running, idle, busy, Books, last_caller, book_order, book_answer, packet_limit, without_zeros, Session, Entry, call, event}
use Rattle.protocol.specs.Session.{Output, orders, answers, rejects, effect, after_effect, given, buffer_need, packet_length, StepResult, step_result, step, outputs}
use Rattle.protocol.specs.Record.{Item, ordered, Record, Note, note, Observed, observed, observe, lines_of, seen_item}

-- ---- a session

abbrev pub session_at : Running → Books → Session
session_at r b = record { running = r; books = b }

-- with no call, or a call in its phase
abbrev pub idle_with : Books → Session
idle_with b = session_at idle b

abbrev pub busy_in : Call → Phase → Books → Session
busy_in c phase b = session_at (busy c phase) b

abbrev pub is_idle : Running → Bool
is_idle idle = true
is_idle (busy c phase) = false

-- ---- one step

-- a call that is not refused at once, and its script
pub record Accepts (is_admitted : Bool) (caller : ℕ) (c : Call) (room : ℕ) (s : Script) : Type 0 where
  pub admitted : is_admitted ≡ true
  pub roomy : ltb room buffer_need ≡ false
  pub known : leb caller last_caller ≡ true
  pub begins : start_of c ≡ starts s

-- an event that both modes take as it is, no longer than a packet
pub record Plain (e : Event) : Type 0 where
  pub same : without_zeros e ≡ e
  pub short : ltb packet_limit (packet_length e) ≡ false

-- a call behind what it did last, on the books b
abbrev pub settled : Call → Books → CallResult → StepResult Session Byte
settled c b unfit = step_result (idle_with b) (rejects OutOfTurn)
settled c b (pending x phase) = step_result (busy_in c phase (book_order x b)) (orders x)
settled c b (ended a) = step_result (idle_with (book_answer c a b)) (answers a)

abbrev pub is_fit : CallResult → Bool
is_fit unfit = false
is_fit (pending x phase) = true
is_fit (ended a) = true

-- ---- a script along replies

-- what replies to each command
pub record Peer : Type 1 where
  pub State : Type 0
  pub reply : State → ℕ → List ℕ → Reply
  pub after : State → ℕ → List ℕ → State

-- the books behind an exchange whose reply comes in a packet behind ACK
abbrev pub exchange_books : ℕ → ℕ → List ℕ → Books → Books
exchange_books code clock bytes b = book_order (read clock) (book_order (read first_read_time) (book_order (write (command_frame code bytes)) b))

-- the answer, the peer's state then, the events and m more, the books then
module _ (C : Peer) where
  abbrev pub run_answer : Script → C.State → Answer Byte
  run_answer (finish a) s = a
  run_answer (command code clock bytes k) s = run_answer (k (C.reply s code bytes)) (C.after s code bytes)
  run_answer (reset x) s = run_answer x (C.after s reset_mode_code reset_mode_data)
  run_answer (field_pause x) s = run_answer x s

  abbrev pub run_state : Script → C.State → C.State
  run_state (finish a) s = s
  run_state (command code clock bytes k) s = run_state (k (C.reply s code bytes)) (C.after s code bytes)
  run_state (reset x) s = run_state x (C.after s reset_mode_code reset_mode_data)
  run_state (field_pause x) s = run_state x s

  abbrev pub run_events : ℕ → Script → C.State → ℕ
  run_events m (finish a) s = m
  run_events m (command code clock bytes k) s = suc (suc (suc (run_events m (k (C.reply s code bytes)) (C.after s code bytes))))
  run_events m (reset x) s = suc (suc (suc (suc (suc (run_events m x (C.after s reset_mode_code reset_mode_data))))))
  run_events m (field_pause x) s = suc (run_events m x s)

  abbrev pub run_books : Script → C.State → Books → Books
  run_books (finish a) s b = b
  run_books (command code clock bytes k) s b = run_books (k (C.reply s code bytes)) (C.after s code bytes) (exchange_books code clock bytes b)
  run_books (reset x) s b =
      run_books x (C.after s reset_mode_code reset_mode_data)
      (book_order (pause reset_pause_time) (book_order (write ack) (exchange_books reset_mode_code command_clock reset_mode_data b)))
  run_books (field_pause x) s b = run_books x s (book_order (pause field_pause_time) b)

-- ---- the events of a call

-- an event, and the length of the engine's buffer
pub record EventAndRoom : Type 0 where
  pub event : Event
  pub room : ℕ

abbrev pub event_with : Event → ℕ → EventAndRoom
event_with e room = record { event = e; room = room }

abbrev pub event_entry : EventAndRoom → Entry
event_entry e = event e.event e.room

abbrev pub call_entries : ℕ → Call → ℕ → List EventAndRoom → List Entry
call_entries caller c room es = call caller c room ∷ map event_entry es

-- what an observer has seen behind events
abbrev pub seen_behind : Observed → Session → List EventAndRoom → Observed
seen_behind w s es = observe w (map event_entry es) (outputs s (map event_entry es))

-- what an observer starts with: the call that runs, which then refuses any other
abbrev pub watching : ℕ → Running → Observed
watching caller idle = observed [] []
watching caller (busy c phase) = observed [] (note caller c none ∷ [])

-- a call's lines as a mode sees them
abbrev pub seen_of : Bool → Record → List Item
seen_of mode l = map (seen_item mode) (lines_of 0 l)

-- the lines of a call from any session, as the mode sees them that the session has behind the call's entry
abbrev pub lines_from : Session → ℕ → Call → ℕ → List EventAndRoom → List Item
lines_from s caller c room es =
    let is = call_entries caller c room es in
    seen_of (step s (call caller c room)).state.books.padded (observe (watching s.books.caller s.running) is (outputs s is)).lines

-- ---- what holds of a call by its lines: `End` once it has ended, `Go` in a phase

module _ (End : List Item → Type 0) (Go : List Item → Phase → Type 0) where
  -- of what an event, or the call's beginning, leads to: an order is a line more
  abbrev pub LeadsTo : List Item → CallResult → Type 0
  LeadsTo xs unfit = Unit {0}
  LeadsTo xs (pending x phase) = Go (ordered x ∷ xs) phase
  LeadsTo xs (ended a) = End xs

  -- of a session with one observed call
  abbrev pub InCall : Bool → Running → Record → List Note → Type 0
  InCall mode idle l ns = End (seen_of mode l)
  InCall mode (busy c phase) l [] = ⊥
  InCall mode (busy c phase) l (y ∷ []) = Go (seen_of mode l) phase
  InCall mode (busy c phase) l (y ∷ (z ∷ ns)) = ⊥

  abbrev pub HoldsIn : Bool → Session → Observed → Type 0
  HoldsIn mode s w = (s.books.padded ≡ mode) × InCall mode s.running w.lines w.notes

-- ---- what is given out

abbrev pub cons_if : {X : Type 0} → Option X → List X → List X
cons_if none xs = xs
cons_if (some x) xs = x ∷ xs

abbrev pub picked : {B X : Type 0} → (Output B → Option X) → List (Output B) → List X
picked f [] = []
picked f (out ∷ outs) = cons_if (f out) (picked f outs)

abbrev pub answer_of : {B : Type 0} → Output B → Option (Answer B)
answer_of (orders x) = none
answer_of (answers a) = some a
answer_of (rejects r) = none

abbrev pub bytes_in : Order → Option (List ℕ)
bytes_in (write bytes) = some bytes
bytes_in (read ms) = none
bytes_in drain = none
bytes_in (pause us) = none

abbrev pub write_of : {B : Type 0} → Output B → Option (List ℕ)
write_of (orders x) = bytes_in x
write_of (answers a) = none
write_of (rejects r) = none

-- the call's answer once it has ended; the bytes to write
abbrev pub answers_in : {B : Type 0} → List (Output B) → List (Answer B)
answers_in outs = picked answer_of outs

abbrev pub writes_in : {B : Type 0} → List (Output B) → List (List ℕ)
writes_in outs = picked write_of outs

-- ---- the events that a call accepts, each as its mode sees it

-- a session, and what was given out, the newest first
pub record Trace : Type 0 where
  pub session : Session
  pub outs : List (Output Byte)

abbrev pub trace : Session → List (Output Byte) → Trace
trace s outs = record { session = s; outs = outs }

abbrev next_by : Event → Running → Books → List (Output Byte) → Trace
next_by e idle b outs = trace (idle_with b) outs
next_by e (busy c phase) b outs =
    let o = effect c (progress phase e) in
    trace (after_effect (busy_in c phase b) (event e buffer_need) o) (given o ∷ outs)

abbrev pub next : Event → Trace → Trace
next e t = next_by e t.session.running t.session.books t.outs

-- events on a trace, the newest first
abbrev pub replay : Trace → List Event → Trace
replay t [] = t
replay t (e ∷ es) = next e (replay t es)
