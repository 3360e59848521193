-- Further ACK-led packets cannot matter (document 02, N11), for every session, every call and any events.
use Rattle.std.specs.Prelude.{◌≡◌, refl, Bool, true, ◌&&◌, ℕ}
use Rattle.std.proofs.Common.{sym, ap, ◌∙◌, subst}
use mathlib.Core.List.{List, [], ◌∷◌, map, reverse, reverse_aux}
use Rattle.exchange.specs.Exchange.{Event, unfit, pending, ended}
use Rattle.protocol.specs.Scripts.{Byte}
use Rattle.protocol.specs.Calls.{Call, is_opening}
use Rattle.protocol.specs.Session.{Phase, CallResult, progress, Running, idle, busy, Books, admits, Session, seen, event, call, Output, buffer_need}
use Rattle.protocol.specs.Session.{Effect, effect, event_effect, after_effect, given, StepResult, step, outputs, session_after}
use Rattle.protocol.specs.Record.{accepted, Record, Note, Observed, observed, add_call, add_event, add}
use Rattle.protocol.specs.Laws.{split}
use Rattle.protocol.specs.Runs.{session_at, idle_with, busy_in, EventAndRoom, event_entry, call_entries, seen_behind, watching, seen_of, lines_from, HoldsIn, cons_if, answer_of, write_of, answers_in, writes_in, Trace, trace, next, replay}
use Rattle.protocol.proofs.RunLaws.{event_cases, call_cases, kept_along, same-picked}
use Rattle.protocol.specs.Chatter.{waits, is_further, events_but, Alike, SameFor}
use Rattle.protocol.specs.ChatterLaws.{NoWait, Placed, PlacedBy, Proper}
use Rattle.protocol.proofs.ChatterLaws.{proper_begin, result-placed, and_left, and_right, read_books, event_placed, placed-waits, waits_again}

-- ---- a run and its replay: from the trace t, in this mode

module _ (t : Trace) (mode : Bool) where
  -- without the further packets
  abbrev behind : Record → Trace
  behind l = replay t (events_but waits (seen_of mode l))

  abbrev AsReplayed : Session → Trace → List (Output Byte) → Type 0
  AsReplayed s r outs = (s ≡ r.session) × (answers_in outs ≡ answers_in r.outs) × (writes_in outs ≡ writes_in r.outs)

  -- the session, its record, and what was given out, the newest first
  abbrev pub Follows : Session → Observed → List (Output Byte) → Type 0
  Follows s w outs = AsReplayed s (behind w.lines) outs × HoldsIn NoWait Placed mode s w

  -- an event
  module _ (c : Call) (phase : Phase) (b : Books) (l : Record) (y : Note) (outs : List (Output Byte)) (e : EventAndRoom)
      (h : Follows (busy_in c phase b) (observed l (y ∷ [])) outs) where
    abbrev d : Event
    d = seen mode e.event

    abbrev Goal : Effect → Type 0
    Goal o = Follows (after_effect (busy_in c phase b) (event_entry e) o) (add_event e.event l (y ∷ []) (given o)) (given o ∷ outs)

    -- it is a further one, or it is replayed
    abbrev After : Effect → List Event → Type 0
    After o es = AsReplayed (after_effect (busy_in c phase b) (event_entry e) o) (replay t es) (given o ∷ outs)

    abbrev before : Trace
    before = behind l

    abbrev Taken : CallResult → CallResult → Type 0
    Taken r q =
        AsReplayed (after_effect (busy_in c phase b) (event_entry e) (effect c r)) (trace (after_effect (busy_in c phase b) (event d buffer_need) (effect c q)) (given (effect c q) ∷ before.outs)) (given (effect c r) ∷ outs)

    same_after : (r : CallResult) → after_effect (busy_in c phase b) (event_entry e) (effect c r) ≡ after_effect (busy_in c phase b) (event d buffer_need) (effect c r)
    same_after unfit = refl
    same_after (pending x new) = refl
    same_after (ended a) = refl

    taken : (r : CallResult) → progress phase d ≡ r → After (effect c r) (d ∷ events_but waits (seen_of mode l))
    taken r p =
        subst (λ s. AsReplayed (after_effect (busy_in c phase b) (event_entry e) (effect c r)) (next d (trace s before.outs)) (given (effect c r) ∷ outs)) h.0.0
        (subst (Taken r) (sym p) (same_after r, ap (cons_if (answer_of (given (effect c r)))) h.0.1, ap (cons_if (write_of (given (effect c r)))) h.0.2))

    stays : (waits (seen_of mode l) && is_further d) ≡ true → (r : CallResult) → progress phase d ≡ r → After (effect c r) (events_but waits (seen_of mode l))
    stays f r p =
        let w = placed-waits (seen_of mode l) phase h.1.1 (and_left (waits (seen_of mode l)) (is_further d) f) in
        let again = waits_again (seen_of mode l) phase d w (and_right (waits (seen_of mode l)) (is_further d) f) in
        subst (λ r. After (effect c r) (events_but waits (seen_of mode l))) (sym again ∙ p)
        (ap (busy_in c phase) (read_books w.clock b) ∙ h.0.0, h.0.1, h.0.2)

    replayed : (r : CallResult) → progress phase d ≡ r → After (effect c r) (events_but waits (accepted d ∷ seen_of mode l))
    replayed r p = split (After (effect c r)) (waits (seen_of mode l) && is_further d) _ _ (λ f. stays f r p) (λ _. taken r p)

    event-follows : Goal (event_effect c d e.room (progress phase d))
    event-follows =
        event_cases Goal (λ r. (progress phase d ≡ r) × PlacedBy (accepted d ∷ seen_of mode l) r) c
        (λ _. h)
        (λ x new k. (replayed (pending x new) k.0, (h.1.0, k.1)))
        (λ a k. (replayed (ended a) k.0, (h.1.0, k.1)))
        d e.room (progress phase d) (refl, event_placed (seen_of mode l) phase d h.1.1)

  step_follows : (r : Running) (b : Books) (l : Record) (ns : List Note) (outs : List (Output Byte)) (e : EventAndRoom) → Follows (session_at r b) (observed l ns) outs
      → (let s = step (session_at r b) (event_entry e) in Follows s.state (add (observed l ns) (event_entry e) s.output) (s.output ∷ outs))
  step_follows idle b l [] outs e h = h
  step_follows idle b l (y ∷ ns) outs e h = h
  step_follows (busy c phase) b l [] outs e h = absurd h.1.1
  step_follows (busy c phase) b l (y ∷ []) outs e h =
      subst (λ m. Goal c phase b l y outs e h (event_effect c (seen m e.event) e.room (progress phase (seen m e.event)))) (sym h.1.0) (event-follows c phase b l y outs e h)
  step_follows (busy c phase) b l (y ∷ (z ∷ ns)) outs e h = absurd h.1.1

  pub follows : (es : List EventAndRoom) (s : Session) (w : Observed) (outs : List (Output Byte)) → Follows s w outs
      → Follows (session_after s (map event_entry es)) (seen_behind w s es) (reverse_aux (outputs s (map event_entry es)) outs)
  follows = kept_along Follows (λ s w. step_follows s.running s.books w.lines w.notes)

-- ---- a call's beginning

module _ (caller : ℕ) (c : Call) (room : ℕ) where
  -- the entry leaves and gives out what it does: nothing is replayed yet
  begins : (r : Running) (b : Books)
      → (let s = step (session_at r b) (call caller c room) in
      Follows (trace s.state (s.output ∷ [])) s.state.books.padded s.state (add (watching b.caller r) (call caller c room) s.output) (s.output ∷ []))
  begins idle b =
      call_cases (λ o. let s = after_effect (idle_with b) (call caller c room) o in Follows (trace s (given o ∷ [])) s.books.padded s (add_call caller c [] [] (given o)) (given o ∷ [])) Proper c
      (λ _. ((refl, refl, refl), (refl, refl)))
      (λ x phase q. ((refl, refl, refl), (refl, result-placed [] (pending x phase) refl q)))
      (λ a q. ((refl, refl, refl), (refl, refl)))
      (admits b c) caller room (λ s _. proper_begin (is_opening c) s)
  begins (busy d phase) b = ((refl, refl, refl), (refl, tt))

module _ (s : Session) (caller : ℕ) (c : Call) (room : ℕ) where
  -- what the call's entry leaves, and what an observer has then seen
  abbrev pub begun_with : StepResult Session Byte
  begun_with = step s (call caller c room)

  abbrev pub seen_first : Observed
  seen_first = add (watching s.books.caller s.running) (call caller c room) begun_with.output

  abbrev begun_trace : Trace
  begun_trace = trace begun_with.state (begun_with.output ∷ [])

  -- behind any events
  pub call_follows : (es : List EventAndRoom)
      → Follows begun_trace begun_with.state.books.padded (session_after begun_with.state (map event_entry es)) (seen_behind seen_first begun_with.state es) (reverse (outputs s (call_entries caller c room es)))
  call_follows es = follows begun_trace begun_with.state.books.padded es begun_with.state seen_first (begun_with.output ∷ []) (begins caller c room s.running s.books)

-- the theorem: two runs from one beginning, with the same replay
pub chatter_same : (s : Session) (caller : ℕ) (c : Call) (room : ℕ) (es ds : List EventAndRoom)
    → Alike waits (lines_from s caller c room es) (lines_from s caller c room ds)
    → SameFor s (call_entries caller c room es) (call_entries caller c room ds)
chatter_same s caller c room es ds alike =
    let f = (call_follows s caller c room es).0 in
    let g = (call_follows s caller c room ds).0 in
    let xs = outputs s (call_entries caller c room es) in
    let ys = outputs s (call_entries caller c room ds) in
    let same = ap (replay (begun_trace s caller c room)) alike in
    let after = f.0 ∙ ap (λ z. z.session) same ∙ sym g.0 in
    record {
      result = same-picked answer_of xs ys (f.1 ∙ ap (λ z. answers_in z.outs) same ∙ sym g.1);
      written = same-picked write_of xs ys (f.2 ∙ ap (λ z. writes_in z.outs) same ∙ sym g.2);
      counted = ap (λ z. z.books.counts) after;
      after = after;
    }
