-- The claims on every call hold after any list of entries.
use Rattle.std.specs.Prelude.{◌≡◌, refl, Bool, true, false, List, [], ◌∷◌, ℕ, suc, ◌≤◌, ◌<◌, length}
use Rattle.std.proofs.Common.{sym, subst, arith}
use Rattle.std.proofs.Math.Option.{Option, none, some}
use Rattle.framing.specs.Frames.{ack}
use Rattle.exchange.specs.Exchange.{write, Event}
use Rattle.protocol.specs.Scripts.{Byte, Answer, Script}
use Rattle.protocol.specs.Calls.{Call, is_opening, limit}
use Rattle.protocol.specs.Session.{Phase, begin, progress, Running, idle, busy, Books, admits, Session, fresh, Entry, call, event}
use Rattle.protocol.specs.Session.{Effect, seen, seen_entry, event_effect, call_effect, effect_of, running_after, given, step, outputs, session_after}
use Rattle.protocol.specs.Record.{Item, ordered, accepted, Record, Note, Observed, observed, add_call, add_event, add, record_of, lines_of, mode_at, as_seen, frames, allowed, line}
use Rattle.protocol.specs.Claim.{RunningCall, CardByte, Claim, Claims}
use Rattle.protocol.specs.Own.{form_of}
use Rattle.protocol.specs.Sound.{Sound}
use Rattle.protocol.proofs.CallsSound.{sound}
use Rattle.protocol.specs.Laws.{lines_own, lines_other}
use Rattle.protocol.proofs.RunLaws.{event_cases, call_cases, kept-after}
use Rattle.protocol.specs.Invariant.{phase_due, RestSound, Sourced, Invariant, Preserved, later-card, later_sourced, form_by, bare, script-started}
use Rattle.protocol.proofs.Preserved.{PreservedBy, preserved}
use Rattle.protocol.specs.Seen.{Unused}
use Rattle.protocol.proofs.Seen.{no_lines, more_unused, unused_seen, add-seen, books-after}
use Rattle.protocol.specs.Theorem.{RunningAgrees, AgreesAt, AgreesWith}

-- ---- lines of a later call

claim_later : (l : Record) (m n : ℕ) (x : Item) (c : Call) (a : Option (Answer Byte)) → m < n → Claim l m c a → Claim (line n x ∷ l) m c a
claim_later l m n x c none h k =
    let e : lines_of m (line n x ∷ l) ≡ lines_of m l = lines_other m n l x (λ q. omega arith) in
    record { frames_within = rw e k.frames_within; events_below = rw e k.events_below }
claim_later l m n x c (some a) h k =
    let e : lines_of m (line n x ∷ l) ≡ lines_of m l = lines_other m n l x (λ q. omega arith) in
    record {
      frames_within = rw e k.frames_within;
      events_within = rw e k.events_within;
      card_bytes = λ i p b q. later-card n c (k.card_bytes i p b q);
      form = form_by (CardByte l m) (CardByte (line n x ∷ l) m) (λ i p b q. later-card n c q) (form_of c) a k.form;
    }

claims_later : (l : Record) (n : ℕ) (x : Item) (ns : List Note) → length ns ≤ n → Claims l ns → Claims (line n x ∷ l) ns
claims_later l n x [] h k = tt
claims_later l n x (y ∷ ns) h k =
    (claim_later l (length ns) n x y.call y.answer (omega arith) k.0, claims_later l n x ns (omega arith) k.1)

none_unused : (p : Running) (l : Record) (ns : List Note) → RunningAgrees p l ns → Unused l (length ns)
none_unused idle l ns i = i.1
none_unused (busy c phase) l [] i = absurd i
none_unused (busy c phase) l (y ∷ ns) i = i.2

pub unused : (s : Session) (w : Observed) → AgreesWith s w → Unused w.lines (length w.notes)
unused s w i = unused_seen w.lines w.notes _ (none_unused s.running _ w.notes i.running)

-- a call goes on or ends
event_agrees : (c : Call) (phase : Phase) (l : Record) (ns : List Note) (e : Event) (room : ℕ) → RunningAgrees (busy c phase) l ns
    → AgreesAt
    (running_after (busy c phase) (event_effect c e room (progress phase e)))
    (add_event e l ns (given (event_effect c e room (progress phase e))))
event_agrees c phase l [] e room i = absurd i
event_agrees c phase l (y ∷ ns) e room i =
    let n : ℕ = length ns in
    let xs : List Item = i.0.own_lines in
    let one_later : Claims (line n (accepted e) ∷ l) ns = claims_later l n (accepted e) ns (omega arith) i.1 in
    let none-used : Unused (line n (accepted e) ∷ l) (suc n) = (omega arith, i.2) in
    event_cases (λ o. AgreesAt (running_after (busy c phase) o) (add_event e l (y ∷ ns) (given o))) (PreservedBy n c l xs e) c
    (λ _. i)
    (λ x new q. (
      record { same_call = i.0.same_call; unanswered = i.0.unanswered; own_lines = ordered x ∷ accepted e ∷ xs; invariant = q },
      claims_later (line n (accepted e) ∷ l) n (ordered x) ns (omega arith) one_later,
      (omega arith, none-used),
    ))
    (λ a q. ((rw i.0.same_call q, one_later), none-used))
    e room (progress phase e) (preserved n c l xs phase i.0.invariant e)

-- ---- a call

module _ (caller : ℕ) (l : Record) (ns : List Note) (c : Call) (i : RunningAgrees idle l ns) where
  abbrev Starts : Effect → Type 0
  Starts o = AgreesAt (running_after idle o) (add_call caller c l ns (given o))

  no_source : Sourced (length ns) c l []
  no_source k p b e = absurd (let z : ◌≡◌ {A = ℕ} 0 1 = cc in omega arith)

  no_line : lines_of (length ns) l ≡ []
  no_line = no_lines l (length ns) (length ns) i.1 (omega arith)

  begin-preserved : (b : Bool) (s : Script) → is_opening c ≡ b → RestSound (form_of c) s (limit c) [] → Preserved (length ns) c l [] (begin b s)
  begin-preserved true s e h =
      let f : frames (ordered (write ack) ∷ []) ≡ 0 = bare (length ns) c [] in
      let a : 2 ≤ allowed c (ordered (write ack) ∷ []) = rw e (omega arith) in
      record {
        lines = lines_own (length ns) l (ordered (write ack)) [] no_line;
        responses = [];
        budget = omega arith;
        left = limit c;
        room = omega arith;
        script = h;
        place = (f, refl);
        source = later_sourced (length ns) c [] no_source;
      }
  begin-preserved false s e h =
      script-started (length ns) c l [] [] no_line s (limit c) (omega arith) (omega arith) h refl no_source

  call-agrees : (is_admitted : Bool) (room : ℕ) → Starts (call_effect is_admitted caller c room)
  call-agrees is_admitted room =
      call_cases Starts (Preserved (length ns) c l []) c
      (λ _. i)
      (λ x phase q. (
        record { same_call = refl; unanswered = refl; own_lines = ordered x ∷ []; invariant = q },
        claims_later l (length ns) (ordered x) ns (omega arith) i.0,
        (omega arith, more_unused l (length ns) i.1),
      ))
      (λ a q. ((q, i.0), more_unused l (length ns) i.1))
      is_admitted caller room (λ s h. begin-preserved (is_opening c) s refl (subst (λ x. Sound (form_of c) x (limit c)) h.begins (sound c)))

-- ---- any list

step_agrees : (p : Running) (b : Books) (l : Record) (ns : List Note) (e : Entry) → RunningAgrees p l ns
    → AgreesAt (running_after p (effect_of p b e)) (add (observed l ns) (seen_entry b.padded e) (given (effect_of p b e)))
step_agrees idle b l ns (call caller c room) i = call-agrees caller l ns c i (admits b c) room
step_agrees idle b l [] (event e room) i = i
step_agrees idle b l (y ∷ ns) (event e room) i = i
step_agrees (busy d phase) b l ns (call caller c room) i = i
step_agrees (busy c phase) b l ns (event e room) i = event_agrees c phase l ns (seen b.padded e) room i

pub agrees : (s : Session) (w : Observed) (e : Entry) → AgreesWith s w → AgreesWith (step s e).state (add w e (step s e).output)
agrees s w e i =
    let out = (step s e).output in
    let p = (step s e).state.running in
    let seen_step : AgreesAt p (add (as_seen w) (seen_entry s.books.padded e) out) = step_agrees s.running s.books _ w.notes e i.running in
    let by-notes : AgreesAt p (add (as_seen w) (seen_entry (mode_at w.notes) e) out) = subst (λ t. AgreesAt p (add (as_seen w) (seen_entry t e) out)) i.mode seen_step in
    let books = books-after s.books w.lines w.notes e (effect_of s.running s.books e) (i.mode, i.caller) in
    record { running = subst (AgreesAt p) (sym (add-seen w.lines w.notes e out (unused s w i))) by-notes; mode = books.0; caller = books.1 }

-- what the invariant says of the running call
still_runs : (n : ℕ) (c : Call) (l : Record) (xs : List Item) (phase : Phase) → Invariant n c l xs phase → RunningCall l n c
still_runs n c l xs phase g =
    let e : lines_of n l ≡ xs = g.lines in
    record { frames_within = rw e (omega arith); events_below = rw e (omega (arith, phase_due phase)) }

claims : (p : Running) (l : Record) (ns : List Note) → RunningAgrees p l ns → Claims l ns
claims idle l ns i = i.0
claims (busy c phase) l [] i = absurd i
claims (busy c phase) l (y ∷ ns) i =
    let r : RunningCall l (length ns) c = still_runs (length ns) c l i.0.own_lines phase i.0.invariant in
    let s : RunningCall l (length ns) y.call = rw i.0.same_call r in
    (rw i.0.unanswered s, i.1)

pub fresh_agrees : AgreesWith fresh (observed [] [])
fresh_agrees = record { running = (tt, tt); mode = refl; caller = refl }

pub all_claims : (es : List Entry) → Claims (as_seen (record_of es (outputs fresh es))).lines (record_of es (outputs fresh es)).notes
all_claims es =
    claims (session_after fresh es).running _ (record_of es (outputs fresh es)).notes (kept-after AgreesWith agrees fresh (observed [] []) es fresh_agrees).running
