-- The record of a list, made of its entries and of what was given out for each, and the counts of demand 3.
-- Nothing here looks into the session.
use Rattle.std.specs.Prelude.{Bool, true, false, not, cond, ◌&&◌, ◌||◌, List, [], ◌∷◌, ℕ, ◌+◌, ◌*◌, eqb, length}
use Rattle.std.proofs.Math.Option.{Option, none, some}
use Rattle.errors.specs.Choice.{same}
use Rattle.exchange.specs.Packets.{command_frame, is_ack, ack_led, is_empty}
use Rattle.exchange.specs.Exchange.{Order, write, read, drain, pause, Event, on_read}
use Rattle.protocol.specs.Scripts.{Byte, Answer}
use Rattle.protocol.specs.Calls.{Call, opening, reader, is_opening, is_padded_mode, reset_mode_code, reset_mode_data}
use Rattle.protocol.specs.Session.{seen, Entry, call, event, Output, orders, answers, rejects}
use Rattle.protocol.specs.Names.{field_pause_time}

-- ---- the record

-- what a line says: an order, or an accepted event
pub data Item : Type 0 where
  ordered : Order → Item
  accepted : Event → Item

-- a line, under its call's number
pub record RecordLine : Type 0 where
  pub number : ℕ
  pub item : Item

abbrev pub line : ℕ → Item → RecordLine
line n i = record { number = n; item = i }

-- the "record": every order and every accepted event, the newest first
abbrev pub Record : Type 0
Record = List RecordLine

-- of an accepted call: whose it is, which one it is, and its answer once it has ended
pub record Note : Type 0 where
  pub caller : ℕ
  pub call : Call
  pub answer : Option (Answer Byte)

abbrev pub note : ℕ → Call → Option (Answer Byte) → Note
note caller c a = record { caller = caller; call = c; answer = a }

-- the record and the accepted calls, the newest first; a call's number is that of the calls before it
pub record Observed : Type 0 where
  pub lines : Record
  pub notes : List Note

abbrev pub observed : Record → List Note → Observed
observed lines notes = record { lines = lines; notes = notes }

-- a call that is refused at once leaves no trace
abbrev pub add_call : ℕ → Call → Record → List Note → Output Byte → Observed
add_call caller c l ns (orders x) = observed (line (length ns) (ordered x) ∷ l) (note caller c none ∷ ns)
add_call caller c l ns (answers a) = observed l (note caller c (some a) ∷ ns)
add_call caller c l ns (rejects r) = observed l ns

-- an event is accepted if it is not refused at once: of refusals at once an event gets 1, 2 and 3 alone
abbrev pub add_event : Event → Record → List Note → Output Byte → Observed
add_event e l [] out = observed l []
add_event e l (x ∷ ns) (orders o) = observed (line (length ns) (ordered o) ∷ line (length ns) (accepted e) ∷ l) (x ∷ ns)
add_event e l (x ∷ ns) (answers a) = observed (line (length ns) (accepted e) ∷ l) (note x.caller x.call (some a) ∷ ns)
add_event e l (x ∷ ns) (rejects r) = observed l (x ∷ ns)

abbrev pub add : Observed → Entry → Output Byte → Observed
add w (call caller c room) out = add_call caller c w.lines w.notes out
add w (event e room) out = add_event e w.lines w.notes out

abbrev pub observe : Observed → List Entry → List (Output Byte) → Observed
observe w [] outs = w
observe w (e ∷ es) [] = w
observe w (e ∷ es) (out ∷ outs) = observe (add w e out) es outs

abbrev pub record_of : List Entry → List (Output Byte) → Observed
record_of es outs = observe (observed [] []) es outs

-- the lines of call n
abbrev pub lines_of : ℕ → Record → List Item
lines_of n [] = []
lines_of n (x ∷ l) = cond (eqb n x.number) (x.item ∷ lines_of n l) (lines_of n l)

-- ---- packets as the mode sees them

-- the mode of the newest opening, whether it has ended or not
abbrev pub mode_by : Call → Bool → Bool
mode_by (opening mode) t = is_padded_mode mode
mode_by (reader c) t = t

abbrev pub mode_at : List Note → Bool
mode_at [] = false
mode_at (x ∷ ns) = mode_by x.call (mode_at ns)

-- the same for call n
abbrev pub mode_of : ℕ → List Note → Bool
mode_of n [] = false
mode_of n (x ∷ ns) = cond (eqb n (length ns)) (mode_at (x ∷ ns)) (mode_of n ns)

abbrev pub seen_item : Bool → Item → Item
seen_item t (ordered x) = ordered x
seen_item t (accepted e) = accepted (seen t e)

-- the record, each packet as the mode of its call sees it: "ACK-led", "intact" and "idle reads" are said of this one
abbrev pub seen_lines : Record → List Note → Record
seen_lines [] ns = []
seen_lines (x ∷ l) ns = line x.number (seen_item (mode_of x.number ns) x.item) ∷ seen_lines l ns

abbrev pub as_seen : Observed → Observed
as_seen w = observed (seen_lines w.lines w.notes) w.notes

-- ---- counts, over the lines of a call

abbrev pub one_if : Bool → ℕ
one_if true = 1
one_if false = 0

abbrev pub count : (Item → Bool) → List Item → ℕ
count f [] = 0
count f (x ∷ xs) = one_if (f x) + count f xs

abbrev pub is_write : (List ℕ → Bool) → Item → Bool
is_write f (ordered (write bytes)) = f bytes
is_write f (ordered (read ms)) = false
is_write f (ordered drain) = false
is_write f (ordered (pause us)) = false
is_write f (accepted e) = false

abbrev pub is_field_pause : Item → Bool
is_field_pause (ordered (write bytes)) = false
is_field_pause (ordered (read ms)) = false
is_field_pause (ordered drain) = false
is_field_pause (ordered (pause us)) = eqb us field_pause_time
is_field_pause (accepted e) = false

abbrev pub is_event : Item → Bool
is_event (ordered x) = false
is_event (accepted e) = true

-- a "command frame" is a write order other than the bare ACK
abbrev pub is_command : Item → Bool
is_command x = is_write (λ bytes. not (is_ack bytes)) x

abbrev pub frames : List Item → ℕ
frames xs = count is_command xs

-- a reset counts from its command frame on, a field pause from its order
abbrev pub resets : List Item → ℕ
resets xs = count (is_write (λ bytes. same (command_frame reset_mode_code reset_mode_data) bytes)) xs

abbrev pub field_pauses : List Item → ℕ
field_pauses xs = count is_field_pause xs

abbrev pub events : List Item → ℕ
events xs = count is_event xs

-- the order that the next event answers
abbrev pub pending_order : List Item → Option Order
pending_order [] = none
pending_order (ordered x ∷ xs) = some x
pending_order (accepted e ∷ xs) = none

-- a packet that passes f, or a failed read if b
abbrev pub read_is : (List ℕ → Bool) → Bool → Event → Bool
read_is f b e = on_read false f false b false e

-- an ACK-led packet has come since the last command frame
abbrev pub is_ack_led : Item → Bool
is_ack_led (ordered x) = false
is_ack_led (accepted e) = read_is ack_led false e

abbrev pub acked : List Item → Bool
acked [] = false
acked (x ∷ xs) = cond (is_command x) false (is_ack_led x || acked xs)

-- "idle reads": the packets in the opening's drain, which come before any command frame, and the ACK-led packets after a
-- command's first one; packets and failures over which a drain goes on
abbrev pub idle_under : Option Order → List Item → Event → Bool
idle_under none xs e = false
idle_under (some (write bytes)) xs e = false
idle_under (some (read ms)) xs e = read_is (λ packet. eqb (frames xs) 0 || (acked xs && ack_led packet)) false e
idle_under (some drain) xs e = read_is (λ packet. not (is_empty packet)) true e
idle_under (some (pause us)) xs e = false

abbrev pub idle_reads : List Item → ℕ
idle_reads [] = 0
idle_reads (ordered x ∷ xs) = idle_reads xs
idle_reads (accepted e ∷ xs) = one_if (idle_under (pending_order xs) xs e) + idle_reads xs

-- the most accepted events: 4 × frames + 2 × resets + field pauses + 2 for an opening + idle reads
abbrev pub allowed : Call → List Item → ℕ
allowed c xs = 4 * frames xs + 2 * resets xs + field_pauses xs + 2 * one_if (is_opening c) + idle_reads xs

-- the record's command frames since the last opening began, its own included
abbrev pub frames_since_opening : Record → List Note → ℕ
frames_since_opening l [] = 0
frames_since_opening l (x ∷ ns) = frames (lines_of (length ns) l) + cond (is_opening x.call) 0 (frames_since_opening l ns)

-- of these, those that calls of this caller ordered
abbrev pub frames_by : ℕ → Record → List Note → ℕ
frames_by k l [] = 0
frames_by k l (x ∷ ns) = cond (eqb k x.caller) (frames (lines_of (length ns) l)) 0 + cond (is_opening x.call) 0 (frames_by k l ns)
