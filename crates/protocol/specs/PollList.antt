-- A list of system codes in one call, and the single calls in its place: what it means that they are equal. PollEqual has the proof.
use Rattle.std.specs.Prelude.{◌≡◌, Bool, true, false, cond, List, [], ◌∷◌, ◌++◌, map, ℕ, ◌+◌, eqb, length}
use Rattle.std.proofs.Math.Option.{Option, none, some}
use Rattle.errors.specs.declared.Refusal.{Refusal}
use Rattle.protocol.specs.Scripts.{Byte, commands_later, Answer, done, type1, uid_and_ats, nothing, refused, refused_after}
use Rattle.protocol.specs.Discovery.{by_no_card, card_met, no_card_met}
use Rattle.protocol.specs.Calls.{Call, reader, device, detect_type_f_of, poll_type_f}
use Rattle.protocol.specs.Arguments.{words_in}
use Rattle.protocol.specs.Session.{Session, Entry, call, Output, orders, answers, rejects, step, outputs, session_after}
use Rattle.protocol.specs.Record.{Item, Record, Note, Observed, record_of, lines_of, frames, RecordLine}
use Rattle.protocol.specs.Runs.{EventAndRoom, event_entry, is_idle, call_entries}
use Rattle.protocol.specs.Names.{system_code_request, one_time_slot}

-- ---- the two lists of entries

-- the one call, and the events
abbrev pub one_call : ℕ → List ℕ → List ℕ → ℕ → List EventAndRoom → List Entry
one_call caller text words room es = call_entries caller (reader (device (poll_type_f text words))) room es

-- the single call of a code
abbrev pub single : List ℕ → ℕ → Call
single text code = reader (device (detect_type_f_of text code system_code_request one_time_slot))

-- a single call's end after which the next one is made: an answer, or 17
abbrev pub goes_on_of : Answer Byte → Bool
goes_on_of (done bytes) = true
goes_on_of (type1 bytes) = true
goes_on_of (uid_and_ats bytes uid ats) = true
goes_on_of nothing = true
goes_on_of (refused r) = by_no_card true false r
goes_on_of (refused_after r n) = false

abbrev pub ends_code : Output Byte → Bool
ends_code (orders x) = false
ends_code (answers a) = goes_on_of a
ends_code (rejects r) = false

-- the next of the calls, if there is one, of the same caller, and then the rest
abbrev pub with_next : ℕ → ℕ → List Call → Session → (Session → List Call → List Entry) → List Entry
with_next caller room [] s rest = rest s []
with_next caller room (c ∷ cs) s rest = call caller c room ∷ rest (step s (call caller c room)).state cs

-- the events, and each of the calls as soon as the one before has ended so
abbrev pub hand_on : ℕ → ℕ → List EventAndRoom → Session → List Call → List Entry
hand_on caller room [] s cs = []
hand_on caller room (e ∷ es) s cs =
    event_entry e
    ∷ cond (ends_code (step s (event_entry e)).output) (with_next caller room cs (step s (event_entry e)).state (hand_on caller room es)) (hand_on caller room es (step s (event_entry e)).state cs)

-- the single calls in list order, and the events
abbrev pub single_calls : ℕ → List ℕ → List ℕ → ℕ → List EventAndRoom → Session → List Entry
single_calls caller text words room es s = with_next caller room (map (single text) (words_in words)) s (hand_on caller room es)

-- ---- what comes of a list of entries

-- the refusals at once, the newest first
abbrev pub add_refusal : Output Byte → List Refusal → List Refusal
add_refusal (orders x) rs = rs
add_refusal (answers a) rs = rs
add_refusal (rejects r) rs = r ∷ rs

abbrev pub refusals_in : List (Output Byte) → List Refusal → List Refusal
refusals_in [] rs = rs
refusals_in (out ∷ outs) rs = refusals_in outs (add_refusal out rs)

pub record Run : Type 0 where
  pub seen : Observed
  pub refusals : List Refusal
  pub session : Session

abbrev pub run : Session → List Entry → Run
run s es = record { seen = record_of es (outputs s es); refusals = refusals_in (outputs s es) []; session = session_after s es }

-- ---- the answer of the one call, made of those of the single calls

-- the command frames of these calls, the newest first, whose lines are in the record
abbrev pub frames_of : Record → List Note → ℕ
frames_of l [] = 0
frames_of l (x ∷ ns) = frames_of l ns + frames (lines_of (length ns) l)

-- what a single call adds: 01, IDm and PMm without the optional bytes; 00 where no card was met
abbrev pub code_bytes : Option (Answer Byte) → List Byte
code_bytes none = []
code_bytes (some (done bytes)) = card_met bytes
code_bytes (some (type1 bytes)) = card_met bytes
code_bytes (some (uid_and_ats bytes uid ats)) = card_met bytes
code_bytes (some nothing) = no_card_met
code_bytes (some (refused r)) = no_card_met
code_bytes (some (refused_after r n)) = []

-- what they all add. A card byte's command has the frames of the calls before it, too.
abbrev pub all_bytes : Record → List Note → List Byte
all_bytes l [] = []
all_bytes l (x ∷ ns) = all_bytes l ns ++ map (commands_later (frames_of l ns)) (code_bytes x.answer)

-- of n codes: all are finished, and the answer is what they add
abbrev pub all_finished : ℕ → Record → List Note → Option (Answer Byte)
all_finished n l ns = cond (eqb (length ns) n) (some (done (all_bytes l ns))) none

-- by the newest answer: `all` where the list goes on with it, or the refusal that ends the list, behind so many codes that are finished
abbrev pub by_newest : Option (Answer Byte) → ℕ → Option (Answer Byte) → Option (Answer Byte)
by_newest all finished none = none
by_newest all finished (some (done bytes)) = all
by_newest all finished (some (type1 bytes)) = all
by_newest all finished (some (uid_and_ats bytes uid ats)) = all
by_newest all finished (some nothing) = all
by_newest all finished (some (refused r)) = by_no_card all (some (refused_after r finished)) r
by_newest all finished (some (refused_after r n)) = some (refused_after r finished)

-- `none` while there is no answer yet, or no call
abbrev pub made_of : ℕ → Record → List Note → Option (Answer Byte)
made_of n l [] = none
made_of n l (x ∷ ns) = by_newest (all_finished n l (x ∷ ns)) (length ns) x.answer

-- the one call's answer
abbrev pub answer_in : List Note → Option (Answer Byte)
answer_in [] = none
answer_in (x ∷ ns) = x.answer

-- ---- equal

-- orders and accepted events, the newest first, whichever call they belong to
abbrev pub items : Record → List Item
items l = map (λ (x : RecordLine). x.item) l

-- One call for n codes, and the single calls. The orders and the accepted events are the same, in their order. The refusals at once are
-- the same. The answer is made of theirs, its card bytes at the places of theirs. Afterwards the books are the same: the frame count, and
-- whether the reader is open. And the session is idle, or busy, alike.
pub record Equal (n : ℕ) (one many : Run) : Type 0 where
  pub lines : items one.seen.lines ≡ items many.seen.lines
  pub refusals : one.refusals ≡ many.refusals
  pub answer : answer_in one.seen.notes ≡ made_of n many.seen.lines many.seen.notes
  pub books : one.session.books ≡ many.session.books
  pub free : is_idle one.session.running ≡ is_idle many.session.running
