-- The slowest call (document 02, N13): what a run of a call is, and the most accepted events that it can have, as a weight over scripts.
-- Bound has the proof that none is longer, Runs one that is as long.
use Rattle.std.specs.Prelude.{◌≡◌, Bool, true, false, ◌||◌, List, [], ◌∷◌, ◌++◌, map, ℕ, zero, suc, ◌+◌, ◌-◌, ◌≤◌, T, eqb, leb}
use Rattle.errors.specs.Refusals.{fault_numbered}
use Rattle.errors.specs.declared.Fault.{Fault}
use Rattle.exchange.specs.Packets.{response, failed}
use Rattle.framing.specs.Frames.{ack}
use Rattle.exchange.specs.Exchange.{Order, Event, pkt}
use Rattle.protocol.specs.Scripts.{Script, finish, command, reset, field_pause}
use Rattle.protocol.specs.Calls.{Call, is_opening}
use Rattle.protocol.specs.Starts.{Start, refuses, starts, start_of}
use Rattle.protocol.specs.Session.{Session, Entry, call, Output, orders, answers, rejects, buffer_need, step, outputs}
use Rattle.protocol.specs.Record.{events, idle_reads}
use Rattle.protocol.specs.Runs.{EventAndRoom, event_with, event_entry, call_entries, lines_from}

-- ---- the question

-- an order is given for the call
pub record Accepted (s : Session) (caller : ℕ) (c : Call) (room : ℕ) : Type 0 where
  pub order : Order
  pub given : (step s (call caller c room)).output ≡ orders order

abbrev pub is_order : {B : Type 0} → Output B → Bool
is_order (orders x) = true
is_order (answers a) = false
is_order (rejects r) = false

-- every entry is answered with an order, the last one with the call's end
abbrev pub ends_at_last : {B : Type 0} → List (Output B) → Bool
ends_at_last [] = false
ends_at_last (orders x ∷ outs) = ends_at_last outs
ends_at_last (answers a ∷ []) = true
ends_at_last (answers a ∷ (out ∷ outs)) = false
ends_at_last (rejects r ∷ outs) = false

-- a run of a call from a session: accepted entry by entry, ended by its last event, with so many idle reads and accepted events
pub record EndedRun (s : Session) (caller : ℕ) (c : Call) (room : ℕ) (es : List EventAndRoom) (idle long : ℕ) : Type 0 where
  pub accepted : Accepted s caller c room
  pub ended : ends_at_last (outputs s (call_entries caller c room es)) ≡ true
  pub idle_reads : idle_reads (lines_from s caller c room es) ≡ idle
  pub length : events (lines_from s caller c room es) ≡ long

-- none is longer: of any events, refused ones among them, whether they end the call or not
abbrev pub NoneLonger : Call → ℕ → Type 0
NoneLonger c n = (s : Session) (caller room : ℕ) (es : List EventAndRoom) → Accepted s caller c room
    → events (lines_from s caller c room es) ≤ n + idle_reads (lines_from s caller c room es)

-- ---- a weight over scripts

-- The most events of an exchange that are no idle reads. A time-out (8) can take a deadline's: ok, ACK, late, and the ok of the ACK that is then written.
-- A false start (9) takes as many: ok, the packet, the ok of its ACK, and the end of the drain. All other ends take at most ok, ACK, and the packet or failure.
abbrev pub is_slow : Fault → Bool
is_slow r = eqb (fault_numbered r).number 8 || eqb (fault_numbered r).number 9

abbrev pub most_slow : ℕ
most_slow = 4

abbrev pub most_other : ℕ
most_other = 3

-- a reset has 2 more, for its ACK and its pause, whatever its exchange comes to
abbrev pub most_reset : ℕ
most_reset = 6

-- at most n events that are no idle reads, on every path
abbrev pub Most : Script → ℕ → Type 0
Most (finish a) n = Unit {0}
Most (command code clock bytes k) n =
    T (leb most_slow n) × ((bs : List ℕ) → Most (k (response bs)) (n - most_other))
    × ((r : Fault) → is_slow r ≡ true → Most (k (failed r)) (n - most_slow)) × ((r : Fault) → is_slow r ≡ false → Most (k (failed r)) (n - most_other))
Most (reset s) n = T (leb most_reset n) × Most s (n - most_reset)
Most (field_pause s) n = T (leb 1 n) × Most s (n - 1)

-- of a call: 2 more for the opening's ACK and the end of its reads
abbrev pub MostBegun : Bool → Script → ℕ → Type 0
MostBegun true s n = T (leb 2 n) × Most s (n - 2)
MostBegun false s n = Most s n

abbrev pub MostStarted : Bool → Start → ℕ → Type 0
MostStarted b (refuses r) n = Unit {0}
MostStarted b (starts s) n = MostBegun b s n

abbrev pub MostOf : Call → ℕ → Type 0
MostOf c n = MostStarted (is_opening c) (start_of c) n

-- ---- runs with any number of idle reads: those are ACK-led packets in the wait of the call's last command

-- the call, the events up to the wait and those behind it
pub record Slow : Type 0 where
  pub call : Call
  pub before : List Event
  pub behind : List Event

abbrev pub slow : Call → List Event → List Event → Slow
slow c before behind = record { call = c; before = before; behind = behind }

-- events with a buffer that is long enough
abbrev pub roomy : List Event → List EventAndRoom
roomy es = map (λ e. event_with e buffer_need) es

abbrev pub entries_of : List Event → List Entry
entries_of es = map event_entry (roomy es)

abbrev pub with_acks : ℕ → List Event → List Event
with_acks zero es = es
with_acks (suc k) es = pkt ack ∷ with_acks k es

abbrev pub events_of : Slow → ℕ → List Event
events_of w k = w.before ++ with_acks k w.behind

-- the run of caller 0 from s
abbrev pub IsRun : Session → Slow → ℕ → ℕ → Type 0
IsRun s w k long = EndedRun s 0 w.call buffer_need (roomy (events_of w k)) k long
