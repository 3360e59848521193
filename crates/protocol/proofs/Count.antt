-- The session's frame counts are those of the record since the last opening began, each caller's own, up to the ceiling.
use Rattle.std.specs.Prelude.{◌≡◌, refl, Bool, true, false, not, cond, List, [], ◌∷◌, ℕ, zero, suc, ◌+◌, ◌≤◌, ◌<◌, min, eqb, length, get_or}
use Rattle.std.proofs.Common.{ap, ◌∙◌, subst, arith, zero-add, eqb-true}
use Rattle.std.proofs.Math.Option.{Option, none, some}
use Rattle.std.proofs.lemmas.Bool.{eqb-false}
use Rattle.exchange.specs.Packets.{is_ack}
use Rattle.exchange.specs.Exchange.{Order, write, read, drain, pause, Event}
use Rattle.protocol.specs.Scripts.{Byte, Answer}
use Rattle.protocol.specs.Calls.{Call, opening, reader, is_opening}
use Rattle.protocol.specs.Session.{Phase, CallResult, progress, Running, idle, busy, Books, last_caller, no_counts, admits, books_for, ceiling, add_frame, counted, counted_for, Session, fresh, Entry, call, event, caller_count}
use Rattle.protocol.specs.Session.{Effect, runs, seen, event_effect, call_effect, effect_of, books_after, given, step, outputs, session_after}
use Rattle.protocol.specs.Record.{Item, ordered, accepted, Record, Note, note, Observed, observed, add_call, add_event, add, record_of, lines_of, seen_lines, one_if, frames, frames_by, line}
use Rattle.protocol.specs.Laws.{split, lines_own, lines_other}
use Rattle.protocol.proofs.RunLaws.{event_cases, call_cases, kept-after}
use Rattle.protocol.specs.Theorem.{RunningAgrees, AgreesWith}
use Rattle.protocol.proofs.Theorem.{unused, agrees, fresh_agrees}
use Rattle.protocol.specs.Seen.{Unused, caller_at}
use Rattle.protocol.proofs.Seen.{no_lines}
use Rattle.protocol.specs.Count.{AllZero}

-- ---- one count among those of the callers

pub length-counted : (j : ℕ) (x : Order) (ns : List ℕ) → length (counted_for j x ns) ≡ length ns
length-counted j x [] = refl
length-counted zero x (n ∷ ns) = refl
length-counted (suc j) x (n ∷ ns) = ap suc (length-counted j x ns)

-- the count of k, where an order of j is counted
count_own : (k : ℕ) (x : Order) (ns : List ℕ) → k < length ns → get_or (counted_for k x ns) k 0 ≡ counted x (get_or ns k 0)
count_own k x [] h = absurd (omega arith)
count_own zero x (n ∷ ns) h = refl
count_own (suc k) x (n ∷ ns) h = count_own k x ns (omega arith)

count-other : (k j : ℕ) (x : Order) (ns : List ℕ) → (k ≡ j → ⊥) → get_or (counted_for j x ns) k 0 ≡ get_or ns k 0
count-other k j x [] h = refl
count-other zero zero x (n ∷ ns) h = absurd (h refl)
count-other zero (suc j) x (n ∷ ns) h = refl
count-other (suc k) zero x (n ∷ ns) h = refl
count-other (suc k) (suc j) x (n ∷ ns) h = count-other k j x ns (λ e. h (ap suc e))

count_of : (k j : ℕ) (x : Order) (ns : List ℕ) → k < length ns
    → get_or (counted_for j x ns) k 0 ≡ cond (eqb k j) (counted x (get_or ns k 0)) (get_or ns k 0)
count_of k j x ns h =
    split (λ n. get_or (counted_for j x ns) k 0 ≡ n) (eqb k j) _ _
    (λ e. subst (λ i. get_or (counted_for i x ns) k 0 ≡ counted x (get_or ns k 0)) (eqb-true k j e) (count_own k x ns h))
    (λ e. count-other k j x ns (eqb-false k j e))

all_zero : AllZero no_counts
all_zero = (refl, (refl, (refl, (refl, (refl, (refl, (refl, (refl, tt))))))))

no_counts_lem : (k : ℕ) (ns : List ℕ) → AllZero ns → get_or ns k 0 ≡ 0
no_counts_lem k [] h = refl
no_counts_lem zero (n ∷ ns) h = h.0
no_counts_lem (suc k) (n ∷ ns) h = no_counts_lem k ns h.1

-- an order, on top of m frames of other calls
counted_right : (n : ℕ) (xs : List Item) (x : Order) (m : ℕ) → n ≡ min (frames xs + m) ceiling → counted x n ≡ min (frames (ordered x ∷ xs) + m) ceiling
counted_right n xs (write bytes) m e = go (is_ack bytes)
  where
    go : (b : Bool) → add_frame b n ≡ min (one_if (not b) + frames xs + m) ceiling
    go true = omega arith
    go false = omega arith
counted_right n xs (read ms) m e = omega arith
counted_right n xs drain m e = omega arith
counted_right n xs (pause us) m e = omega arith

-- the same where it is an order of this caller, or not
mine_right : (mine : Bool) (n : ℕ) (xs : List Item) (x : Order) (m : ℕ) → n ≡ min (cond mine (frames xs) 0 + m) ceiling
    → cond mine (counted x n) n ≡ min (cond mine (frames (ordered x ∷ xs)) 0 + m) ceiling
mine_right true n xs x m e = counted_right n xs x m e
mine_right false n xs x m e = e

-- ---- the counts of a caller k

module _ (k : ℕ) (few : k ≤ last_caller) where
  -- lines of a later call do not count
  older : (l : Record) (n : ℕ) (x : Item) (ns : List Note) → length ns ≤ n → frames_by k (line n x ∷ l) ns ≡ frames_by k l ns
  older l n x [] h = refl
  older l n x (y ∷ ns) h = rw (lines_other (length ns) n l x (λ q. omega arith), older l n x ns (omega arith))

  -- the count of k is the record's
  abbrev Right : Books → Observed → Type 0
  Right b w = (length b.counts ≡ caller_count) × (get_or b.counts k 0 ≡ min (frames_by k w.lines w.notes) ceiling)

  -- ---- a call

  module _ (b : Books) (l : Record) (ns : List Note) (caller : ℕ) (c : Call) (room : ℕ) (u : Unused l (length ns)) (right : Right b (observed l ns)) where
    abbrev n : ℕ
    n = length ns

    abbrev mine : Bool
    mine = eqb k caller

    abbrev Starts : Effect → Type 0
    Starts o = Right (books_after b (call caller c room) o) (add_call caller c l ns (given o))

    -- the counts from which the call starts, and its first order
    none_yet : (t : Bool) (m : ℕ) → cond t 0 0 + m ≡ m
    none_yet true m = omega arith
    none_yet false m = omega arith

    eight : (d : Call) → length (books_for caller d b).counts ≡ caller_count
    eight (opening mode) = refl
    eight (reader d) = right.0

    base : (d : Call) → get_or (books_for caller d b).counts k 0 ≡ min (cond mine 0 0 + cond (is_opening d) 0 (frames_by k l ns)) ceiling
    base (opening mode) = no_counts_lem k no_counts all_zero ∙ rw (none_yet mine 0) refl
    base (reader d) = rw (none_yet mine (frames_by k l ns)) right.1

    no_line : lines_of n l ≡ []
    no_line = no_lines l n n u (omega arith)

    ordered-right : (x : Order) → get_or (counted_for caller x (books_for caller c b).counts) k 0
        ≡ min (frames_by k (line n (ordered x) ∷ l) (note caller c none ∷ ns)) ceiling
    ordered-right x =
        count_of k caller x (books_for caller c b).counts (let e : length (books_for caller c b).counts ≡ caller_count = eight c in omega arith)
        ∙ rw (lines_own n l (ordered x) [] no_line, older l n (ordered x) ns (omega arith))
        (mine_right mine (get_or (books_for caller c b).counts k 0) [] x (cond (is_opening c) 0 (frames_by k l ns)) (base c))

    caller-of : (d : Call) → (books_for caller d b).caller ≡ caller
    caller-of (opening mode) = refl
    caller-of (reader d) = refl

    call-right : (is_admitted : Bool) → Starts (call_effect is_admitted caller c room)
    call-right is_admitted =
        call_cases Starts (λ _. Unit {0}) c (λ _. right)
        (λ x phase _. rw (caller-of c) (length-counted caller x (books_for caller c b).counts ∙ eight c, ordered-right x))
        (λ a _. (eight c, rw no_line (base c)))
        is_admitted caller room (λ _ _. tt)

  -- ---- an event

  module _ (c : Call) (b : Books) (l : Record) (y : Note) (ns : List Note) (e : Event) (room : ℕ) (whose : b.caller ≡ y.caller) (right : Right b (observed l (y ∷ ns))) where
    abbrev Goes : Effect → Type 0
    Goes o = Right (books_after b (event e room) o) (add_event e l (y ∷ ns) (given o))

    accepted-right : (a : Option (Answer Byte)) → get_or b.counts k 0 ≡ min (frames_by k (line (length ns) (accepted e) ∷ l) (note y.caller y.call a ∷ ns)) ceiling
    accepted-right a =
        rw (lines_own (length ns) l (accepted e) (lines_of (length ns) l) refl, older l (length ns) (accepted e) ns (omega arith), zero-add (frames (lines_of (length ns) l))) right.1

    goes-right : (x : Order) (phase : Phase) → Goes (runs c x phase)
    goes-right x phase =
        let n : ℕ = length ns in
        let l₁ : Record = line n (accepted e) ∷ l in
        let own : lines_of n (line n (ordered x) ∷ l₁) ≡ ordered x ∷ accepted e ∷ lines_of n l =
        lines_own n l₁ (ordered x) (accepted e ∷ lines_of n l) (lines_own n l (accepted e) (lines_of n l) refl) in
        let old : frames_by k (line n (ordered x) ∷ l₁) ns ≡ frames_by k l ns =
        older l₁ n (ordered x) ns (omega arith) ∙ older l n (accepted e) ns (omega arith) in
        let before : get_or b.counts k 0 ≡ min (cond (eqb k y.caller) (frames (accepted e ∷ lines_of n l)) 0 + cond (is_opening y.call) 0 (frames_by k l ns)) ceiling =
        rw (zero-add (frames (lines_of n l))) right.1 in (
          length-counted b.caller x b.counts ∙ right.0,
          count_of k b.caller x b.counts (omega (arith, right.0))
              ∙ rw (whose, own, old)
              (mine_right (eqb k y.caller) (get_or b.counts k 0) (accepted e ∷ lines_of n l) x (cond (is_opening y.call) 0 (frames_by k l ns)) before),
        )

    -- d: the event as it is seen
    event-right : (d : Event) (r : CallResult) → Goes (event_effect c d room r)
    event-right d r = event_cases Goes (λ _. Unit {0}) c (λ _. right) (λ x phase _. goes-right x phase) (λ a _. (right.0, accepted-right (some a))) d room r tt

  -- ---- any list

  entry-right : (p : Running) (b : Books) (l : Record) (ns : List Note) (e : Entry) → RunningAgrees p (seen_lines l ns) ns → Unused l (length ns) → b.caller ≡ caller_at ns
      → Right b (observed l ns) → Right (books_after b e (effect_of p b e)) (add (observed l ns) e (given (effect_of p b e)))
  entry-right idle b l ns (call caller c room) i u w r = call-right b l ns caller c room u r (admits b c)
  entry-right idle b l [] (event e room) i u w r = r
  entry-right idle b l (y ∷ ns) (event e room) i u w r = r
  entry-right (busy d phase) b l ns (call caller c room) i u w r = r
  entry-right (busy c phase) b l [] (event e room) i u w r = absurd i
  entry-right (busy c phase) b l (y ∷ ns) (event e room) i u w r =
      event-right c b l y ns e room w r (seen b.padded e) (progress phase (seen b.padded e))

  -- with what the record agrees on
  abbrev AgreesRight : Session → Observed → Type 0
  AgreesRight s w = AgreesWith s w × Right s.books w

  step_right : (s : Session) (w : Observed) (e : Entry) → AgreesRight s w → AgreesRight (step s e).state (add w e (step s e).output)
  step_right s w e (i, r) = (agrees s w e i, entry-right s.running s.books w.lines w.notes e i.running (unused s w i) i.caller r)

  right_after : (es : List Entry) → Right (session_after fresh es).books (record_of es (outputs fresh es))
  right_after es = (kept-after AgreesRight step_right fresh (observed [] []) es (fresh_agrees, (refl, no_counts_lem k no_counts all_zero))).1

pub eight_counts : (es : List Entry) → length (session_after fresh es).books.counts ≡ caller_count
eight_counts es = (right_after 0 (omega arith) es).0

pub counts_right : (es : List Entry) (k : ℕ) → k ≤ last_caller
    → get_or (session_after fresh es).books.counts k 0 ≡ min (frames_by k (record_of es (outputs fresh es)).lines (record_of es (outputs fresh es)).notes) ceiling
counts_right es k few = (right_after k few es).1
