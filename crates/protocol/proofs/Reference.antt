-- The padded mode against its reference (document 02, N2): the same list with the mode off and each packet without its extra zeros. What
-- is given out and what is counted is the same. A packet over the limit is refused in any mode, and may be left out.
use Rattle.std.specs.Prelude.{◌≡◌, refl, Bool, true, false, cond, List, [], ◌∷◌, map, ℕ, leb, ltb, length}
use Rattle.std.proofs.Common.{sym, ap, ◌∙◌, subst}
use Rattle.std.proofs.lemmas.Bool.{false≢true}
use Rattle.errors.specs.declared.Refusal.TheVariants.{OutOfTurn, ShortBuffer, OverLong, BadArgument}
use Rattle.framing.specs.Unpadded.{unpadded_none}
use Rattle.exchange.specs.Exchange.{Event, ok, bad, pkt, time, fail, late, slept, unfit, pending, ended}
use Rattle.protocol.specs.Calls.{Call, opening, reader, is_opening}
use Rattle.protocol.specs.Starts.{Start, refuses, starts, start_of, reader_start}
use Rattle.protocol.specs.Session.{CallResult, start_script, progress, Running, idle, busy, Books, last_caller, admits, Session, fresh, packet_limit, seen, Entry, call, event, seen_entry, step_result}
use Rattle.protocol.specs.Session.{Effect, unchanged, runs, ends, effect, buffer_need, with_room, with_caller, packet_length, admitted, event_effect, started, call_effect, effect_of, running_after, books_after, after_effect, given, step, outputs, session_after}
use Rattle.protocol.specs.Laws.{split}
use Rattle.protocol.proofs.RunLaws.{call_cases}
use Rattle.protocol.specs.Machine.{output_values, Machine, given_out, state_after, entries}
use Rattle.protocol.proofs.Machine.{same-given, same-counts}
use Rattle.protocol.specs.Reference.{off_call, off_running, off_books, off, off_effect, off_entry, HasMode, off_seen, Off, Same, NoZeros, Plain, PaddedEntry, Padded, plain_entry, is_long_of, without_long, given_others, Refuses, LeavesOut, reference_of, AsReference, MachineSame}

-- ---- one entry

same_opening : (c : Call) → is_opening (off_call c) ≡ is_opening c
same_opening (opening mode) = refl
same_opening (reader c) = refl

off-effect : (c : Call) (r : CallResult) → effect (off_call c) r ≡ off_effect (effect c r)
off-effect c unfit = refl
off-effect c (pending x phase) = refl
off-effect c (ended a) = refl

off_if : (t : Bool) (o w : Effect) → cond t (off_effect o) (off_effect w) ≡ off_effect (cond t o w)
off_if true o w = refl
off_if false o w = refl

off-admitted : (e : Event) (room : ℕ) (o : Effect) → admitted e room (off_effect o) ≡ off_effect (admitted e room o)
off-admitted e room o = rw (off_if (ltb packet_limit (packet_length e)) (unchanged _) o) (off_if (ltb room buffer_need) (unchanged _) _)

off_event : (c : Call) (e : Event) (room : ℕ) (r : CallResult) → event_effect (off_call c) e room r ≡ off_effect (event_effect c e room r)
off_event c e room unfit = refl
off_event c e room (pending x phase) = off-admitted e room (runs c x phase)
off_event c e room (ended a) = off-admitted e room (ends c a)

off-started : (k : ℕ) (c : Call) (room : ℕ) → HasMode (call k c room) → started (off_call c) (start_of (off_call c)) ≡ off_effect (started c (start_of c))
off-started k (opening mode) room h = rw h
off-started k (reader c) room h = go (reader_start c)
  where
    go : (s : Start) → started (reader c) s ≡ off_effect (started (reader c) s)
    go (refuses r) = refl
    go (starts s) = off-effect (reader c) (start_script s)

off_call_lem : (t : Bool) (k : ℕ) (c : Call) (room : ℕ) → HasMode (call k c room) → call_effect t k (off_call c) room ≡ off_effect (call_effect t k c room)
off_call_lem t k c room h =
    let off-caller : with_caller k (started (off_call c) (start_of (off_call c))) ≡ off_effect (with_caller k (started c (start_of c))) =
    ap (with_caller k) (off-started k c room h) ∙ off_if (leb k last_caller) (started c (start_of c)) (unchanged BadArgument) in
    ap (λ o. cond t (with_room room o) (unchanged OutOfTurn)) off-caller
    ∙ ap (λ o. cond t o (unchanged OutOfTurn)) (off_if (ltb room buffer_need) (unchanged ShortBuffer) (with_caller k (started c (start_of c))))
    ∙ off_if t (with_room room (with_caller k (started c (start_of c)))) (unchanged OutOfTurn)

off-effect_of : (p : Running) (b : Books) (e : Entry) → HasMode e
    → effect_of (off_running p) (off_books b) (off_entry (seen_entry b.padded e)) ≡ off_effect (effect_of p b e)
off-effect_of idle b (call k c room) h = rw (same_opening c) (off_call_lem (admits b c) k c room h)
off-effect_of idle b (event e room) h = refl
off-effect_of (busy c phase) b (call k d room) h = refl
off-effect_of (busy c phase) b (event e room) h = off_event c (seen b.padded e) room (progress phase (seen b.padded e))

off-running : (p : Running) (o : Effect) → running_after (off_running p) (off_effect o) ≡ off_running (running_after p o)
off-running p (unchanged r) = refl
off-running p (runs c x phase) = refl
off-running p (ends c a) = refl

off-books : (b : Books) (t : Bool) (e : Entry) (o : Effect) → books_after (off_books b) (off_entry (seen_entry t e)) (off_effect o) ≡ off_books (books_after b e o)
off-books b t (call k c room) (unchanged r) = refl
off-books b t (call k (opening mode) room) (runs c x phase) = refl
off-books b t (call k (opening mode) room) (ends c a) = rw (same_opening c)
off-books b t (call k (reader d) room) (runs c x phase) = refl
off-books b t (call k (reader d) room) (ends c a) = rw (same_opening c)
off-books b t (event e room) (unchanged r) = refl
off-books b t (event e room) (runs c x phase) = refl
off-books b t (event e room) (ends c a) = rw (same_opening c)

off-given : (o : Effect) → given (off_effect o) ≡ given o
off-given (unchanged r) = refl
off-given (runs c x phase) = refl
off-given (ends c a) = refl

off-step : (s : Session) (e : Entry) → HasMode e → step (off s) (off_seen s e) ≡ step_result (off (step s e).state) (step s e).output
off-step s e h =
    let o : Effect = effect_of s.running s.books e in
    let is : effect_of (off_running s.running) (off_books s.books) (off_seen s e) ≡ off_effect o = off-effect_of s.running s.books e h in
    ap (λ x. step_result (after_effect (off s) (off_seen s e) x) (given x)) is
    ∙ (λ i. step_result (record { running = off-running s.running o i; books = off-books s.books s.books.padded e o i }) (off-given o i))

off_list : (s : Session) (es ds : List Entry) → Off s es ds → (outputs (off s) ds ≡ outputs s es) × (session_after (off s) ds ≡ off (session_after s es))
off_list s [] [] h = (refl, refl)
off_list s [] (d ∷ ds) h = absurd h
off_list s (e ∷ es) [] h = absurd h
off_list s (e ∷ es) (d ∷ ds) h =
    let is : step (off s) d ≡ step_result (off (step s e).state) (step s e).output = h.1 ∙ off-step s e h.0 in
    let l = off_list (step s e).state es ds h.2 in
    (ap (λ x. x.output ∷ outputs x.state ds) is ∙ ap (λ os. (step s e).output ∷ os) l.0, ap (λ x. session_after x.state ds) is ∙ l.1)

off-same : (es ds : List Entry) → Off fresh es ds → Same es ds
off-same es ds h = let l = off_list fresh es ds h in record { given = l.0; counted = ap (λ s. s.books.counts) l.1 }

seen_same : (t : Bool) (e : Event) → NoZeros e → seen t e ≡ e
seen_same false e h = refl
seen_same true ok h = refl
seen_same true bad h = refl
seen_same true (pkt packet) h = split (λ p. pkt p ≡ pkt packet) (ltb packet_limit (length packet)) _ _ (λ _. refl) (λ _. ap pkt (unpadded_none packet h))
seen_same true time h = refl
seen_same true fail h = refl
seen_same true late h = refl
seen_same true slept h = refl

plain-off : (s : Session) (es : List Entry) → Plain es → Off s es (map off_entry es)
plain-off s [] h = tt
plain-off s (call k c room ∷ es) h = (h.0, refl, plain-off (step s (call k c room)).state es h.1)
plain-off s (event e room ∷ es) h =
    (tt, ap (λ d. step (off s) (event d room)) (sym (seen_same s.books.padded e h.0)), plain-off (step s (event e room)).state es h.1)

-- a list with no padded packet gives the same in any mode
pub plain-same : (es : List Entry) → Plain es → Same es (map off_entry es)
plain-same es h = off-same es (map off_entry es) (plain-off fresh es h)

padded-fits : (e : Entry) → PaddedEntry e → HasMode e
padded-fits (call k (opening mode) room) h = rw h
padded-fits (call k (reader c) room) h = tt
padded-fits (event e room) h = tt

padded-after : (b : Books) (e : Entry) (o : Effect) → b.padded ≡ true → PaddedEntry e → (books_after b e o).padded ≡ true
padded-after b e (unchanged r) p h = p
padded-after b (call k (opening mode) room) (runs c x phase) p h = rw h
padded-after b (call k (opening mode) room) (ends c a) p h = rw h
padded-after b (call k (reader d) room) (runs c x phase) p h = p
padded-after b (call k (reader d) room) (ends c a) p h = p
padded-after b (event e room) (runs c x phase) p h = p
padded-after b (event e room) (ends c a) p h = p

padded-off : (s : Session) (es : List Entry) → s.books.padded ≡ true → Padded es → Off s es (map plain_entry es)
padded-off s [] p h = tt
padded-off s (e ∷ es) p h = (
  padded-fits e h.0,
  ap (λ t. step (off s) (off_entry (seen_entry t e))) (sym p),
  padded-off (step s e).state es (padded-after s.books e (effect_of s.running s.books e) p h.0) h.1,
)

-- before the first opening is accepted every event is out of turn
fresh-off : (es : List Entry) → Padded es → Off fresh es (map plain_entry es)
fresh-off [] h = tt
fresh-off (call k (opening mode) room ∷ es) h = (
  padded-fits (call k (opening mode) room) h.0,
  refl,
  subst (λ m. Off (step fresh (call k (opening m) room)).state es (map plain_entry es)) (sym h.0)
      (call_cases (λ o. Off (after_effect fresh (call k (opening 1) room) o) es (map plain_entry es)) (λ _. Unit {0}) (opening 1)
      (λ _. fresh-off es h.1) (λ x phase _. padded-off _ es refl h.1) (λ a _. padded-off _ es refl h.1) true k room (λ _ _. tt)),
)
fresh-off (call k (reader c) room ∷ es) h = (tt, refl, fresh-off es h.1)
fresh-off (event e room ∷ es) h = (tt, refl, fresh-off es h.1)

pub padded-same : (es : List Entry) → Padded es → Same es (map plain_entry es)
padded-same es h = off-same es (map plain_entry es) (fresh-off es h)

long_seen : (t : Bool) (e : Event) → ltb packet_limit (packet_length e) ≡ true → seen t e ≡ e
long_seen false e h = refl
long_seen true ok h = refl
long_seen true bad h = refl
long_seen true (pkt packet) h = rw h
long_seen true time h = refl
long_seen true fail h = refl
long_seen true late h = refl
long_seen true slept h = refl

long_admitted : (e : Event) (room : ℕ) (o : Effect) → ltb packet_limit (packet_length e) ≡ true → Refuses (admitted e room o)
long_admitted e room o h = rw h (split Refuses (ltb room buffer_need) _ _ (λ _. (ShortBuffer, refl)) (λ _. (OverLong, refl)))

long_refused : (c : Call) (e : Event) (room : ℕ) (r : CallResult) → ltb packet_limit (packet_length e) ≡ true → Refuses (event_effect c e room r)
long_refused c e room unfit h = (OutOfTurn, refl)
long_refused c e room (pending x phase) h = long_admitted e room (runs c x phase) h
long_refused c e room (ended a) h = long_admitted e room (ends c a) h

long_effect : (p : Running) (b : Books) (e : Entry) → is_long_of e ≡ true → Refuses (effect_of p b e)
long_effect p b (call k c room) h = absurd (false≢true h)
long_effect idle b (event e room) h = (OutOfTurn, refl)
long_effect (busy c phase) b (event e room) h = rw (long_seen b.padded e h) (long_refused c e room (progress phase e) h)

pub leaves_out : (s : Session) (es : List Entry) → LeavesOut s es
leaves_out s [] = record { given = refl; after = refl }
leaves_out s (e ∷ es) = go (is_long_of e) refl (leaves_out (step s e).state es)
  where
    stays : is_long_of e ≡ true → (step s e).state ≡ s
    stays h = ap (after_effect s e) (long_effect s.running s.books e h).1

    go : (t : Bool) → is_long_of e ≡ t → LeavesOut (step s e).state es → LeavesOut s (e ∷ es)
    go true h next = record {
      given = rw h (ap (λ r. outputs r (without_long es)) (sym (stays h)) ∙ next.given);
      after = rw h (ap (λ r. session_after r (without_long es)) (sym (stays h)) ∙ next.after);
    }
    go false h next = record { given = rw h (ap (λ os. (step s e).output ∷ os) next.given); after = rw h next.after }

padded-others : (es : List Entry) → Padded es → Padded (without_long es)
padded-others [] h = tt
padded-others (e ∷ es) h = split Padded (is_long_of e) _ _ (λ _. padded-others es h.1) (λ _. (h.0, padded-others es h.1))

pub as_reference : (es : List Entry) → Padded es → AsReference es
as_reference es h =
    let l = leaves_out fresh es in
    let p = padded-same (without_long es) (padded-others es h) in
    record { given = sym (p.given ∙ l.given); counted = sym (p.counted ∙ ap (λ s. s.books.counts) l.after) }

-- ---- the same of a machine that simulates the definitions

others-map : {X Y : Type 0} (f : X → Y) (es : List Entry) (outs : List X) → given_others es (map f outs) ≡ map f (given_others es outs)
others-map f [] outs = refl
others-map f (e ∷ es) [] = refl
others-map f (e ∷ es) (o ∷ outs) = go (is_long_of e) (others-map f es outs)
  where
    go : (t : Bool) → given_others es (map f outs) ≡ map f (given_others es outs)
        → cond t (given_others es (map f outs)) (f o ∷ given_others es (map f outs)) ≡ map f (cond t (given_others es outs) (o ∷ given_others es outs))
    go true h = h
    go false h = ap (λ os. f o ∷ os) h

module _ (M : Machine) (is js : List M.Input) where
  pub machine_reference : Padded (entries M is) → entries M js ≡ reference_of (entries M is) → MachineSame M is js
  machine_reference h e =
      let r = as_reference (entries M is) h in
      record {
        given =
            ap (given_others (entries M is)) (same-given M is) ∙ others-map output_values (entries M is) (outputs fresh (entries M is))
            ∙ ap (map output_values) (r.given ∙ ap (outputs fresh) (sym e)) ∙ sym (same-given M js);
        counted = same-counts M is ∙ r.counted ∙ ap (λ es. (session_after fresh es).books.counts) (sym e) ∙ sym (same-counts M js);
      }

  -- with no padded packet, in any mode
  pub machine_plain : Plain (entries M is) → entries M js ≡ map off_entry (entries M is)
      → (given_out M M.new is ≡ given_out M M.new js) × (M.frames (state_after M M.new is) ≡ M.frames (state_after M M.new js))
  machine_plain h e =
      let p = plain-same (entries M is) h in (
        same-given M is ∙ ap (map output_values) (sym p.given ∙ ap (outputs fresh) (sym e)) ∙ sym (same-given M js),
        same-counts M is ∙ sym p.counted ∙ ap (λ es. (session_after fresh es).books.counts) (sym e) ∙ sym (same-counts M js),
      )
