-- Laws of runs: what a step does, by cases; what every step keeps; runs one behind the other; a run of one exchange.
use Rattle.std.specs.Prelude.{◌≡◌, refl, Bool, true, false, ℕ, ◌≤◌, leb, ltb, length}
use Rattle.std.proofs.Common.{sym, ap, ◌∙◌, subst, arith, le-ltb}
use Rattle.std.proofs.lemmas.Bool.{false≢true}
use mathlib.Core.List.{List, [], ◌∷◌, ◌++◌, map, reverse, reverse_aux, reverse-reverse}
use Rattle.std.proofs.Math.Option.{Option, none, some}
use Rattle.errors.specs.declared.Fault.{Fault}
use Rattle.errors.specs.declared.Fault.TheVariants.{Transport, TimeOut, FalseStart}
use Rattle.errors.specs.declared.Refusal.{Refusal}
use Rattle.errors.specs.declared.Refusal.TheVariants.{OutOfTurn, ShortBuffer, OverLong, BadArgument}
use Rattle.framing.specs.Frames.{ack}
use Rattle.framing.specs.Lists.{starts as starts_with}
use Rattle.framing.specs.Padded.{unpadded}
use Rattle.framing.specs.Unpadded.{unpadded-start}
use Rattle.exchange.specs.Packets.{has_start, ack_led, is_empty, Reply, failed, reply_of}
use Rattle.exchange.specs.Exchange.{Order, write, read, drain, Event, ok, bad, pkt, time, fail, late, slept, unfit, pending, ended, first_read_time}
use Rattle.exchange.specs.Exchange.{sending, reading, waiting, cancelling, rejecting, draining, ExchangeResult, after_ack, on_packet, on_first_packet, on_later_packet, on_drained, advance}
use Rattle.protocol.specs.Scripts.{Byte, Answer, Script, finish, command, reset, field_pause}
use Rattle.protocol.specs.Calls.{Call, is_opening}
use Rattle.protocol.specs.Starts.{Start, refuses, starts, start_of}
use Rattle.protocol.specs.Session.{Rest, by_reply, of_reset, Phase, CallResult, start_script, after_reply, begin, books_for, StepResult, step_result, progress, Running, idle, busy, last_caller, admits, Books, seen, Session, Entry, call, event, Output, rejects, packet_limit}
use Rattle.protocol.specs.Session.{Effect, unchanged, runs, ends, effect, buffer_need, packet_length, admitted, event_effect, started, call_effect, after_effect, given, step, outputs, session_after}
use Rattle.protocol.specs.Record.{Item, accepted, add_call, add_event, Record, Note, Observed, observed, add, observe}
use Rattle.protocol.specs.Laws.{split, split₂, by_write, by_read}
use Rattle.protocol.specs.Runs.{session_at, idle_with, busy_in, seen_of, lines_from, LeadsTo, InCall, HoldsIn, Accepts, Plain, settled, is_fit, EventAndRoom, event_entry, seen_behind, cons_if, picked}

-- ---- one exchange, by cases

-- P of an event and of what it does: most do not fit
module _ (P : Event → ExchangeResult → Type 0) (others : (e : Event) → P e unfit) where
  pub sending_cases : (code clock : ℕ) → P ok (pending (read first_read_time) (reading code clock)) → P bad (pending (write ack) (cancelling Transport))
      → (e : Event) → P e (advance (sending code clock) e)
  sending_cases code clock = by_write P unfit others _ _

  -- nothing has come, or a failure; an ACK-led packet; one that is interpreted; one without the start bytes
  module _ (code clock : ℕ) (slow : (e : Event) → P e (ended (failed TimeOut))) (broken : P fail (ended (failed Transport)))
      (led : (packet : List ℕ) → ack_led packet ≡ true → P (pkt packet) (after_ack code clock)) (replied : (packet : List ℕ) → P (pkt packet) (ended (reply_of code packet))) where
    on-packet : (packet : List ℕ) → P (pkt packet) (on_packet code clock packet)
    on-packet packet = split (P (pkt packet)) (ack_led packet) _ _ (led packet) (λ _. replied packet)

    pub reading_cases : ((packet : List ℕ) → P (pkt packet) (pending (write ack) rejecting)) → (e : Event) → P e (advance (reading code clock) e)
    reading_cases falsely =
        by_read P unfit others (on_first_packet code clock) _ _ _
        (λ p. split (P (pkt p)) (is_empty p) _ _ (λ _. slow (pkt p)) (λ _. split (P (pkt p)) (has_start p) _ _ (λ _. on-packet p) (λ _. falsely p)))
        (slow time) broken (others late)

    pub waiting_cases : P late (pending (write ack) (cancelling TimeOut)) → (e : Event) → P e (advance (waiting code clock) e)
    waiting_cases passed =
        by_read P unfit others (on_later_packet code clock) _ _ _ (λ p. split (P (pkt p)) (is_empty p) _ _ (λ _. slow (pkt p)) (λ _. on-packet p)) (slow time) broken passed

  pub cancelling_cases : (r : Fault) → ((e : Event) → P e (ended (failed r))) → (e : Event) → P e (advance (cancelling r) e)
  cancelling_cases r over = by_write P unfit others _ _ (over ok) (over bad)

  pub rejecting_cases : ((e : Event) → P e (pending drain draining)) → (e : Event) → P e (advance rejecting e)
  rejecting_cases on = by_write P unfit others _ _ (on ok) (on bad)

  pub draining_cases : ((e : Event) → P e (ended (failed FalseStart))) → ((packet : List ℕ) → is_empty packet ≡ false → P (pkt packet) (pending drain draining)) → P fail (pending drain draining)
      → (e : Event) → P e (advance draining e)
  draining_cases over on broken = by_read P unfit others on_drained _ _ _ (λ p. split (P (pkt p)) (is_empty p) _ _ (λ _. over (pkt p)) (on p)) (over time) broken (over late)

-- ---- one step, by cases

-- P of an effect: of a refusal, which changes nothing; of an order; of an end. Q: what is known of the result.
module _ {ℓ} (P : Effect → Type ℓ) (Q : CallResult → Type 0) (c : Call) (refuse : (r : Refusal) → P (unchanged r)) (go_on : (x : Order) (phase : Phase) → Q (pending x phase) → P (runs c x phase))
    (end : (a : Answer Byte) → Q (ended a) → P (ends c a)) where
  pub effect_cases : (r : CallResult) → Q r → P (effect c r)
  effect_cases unfit q = refuse OutOfTurn
  effect_cases (pending x phase) q = go_on x phase q
  effect_cases (ended a) q = end a q

  -- an event
  admitted-cases : (e : Event) (room : ℕ) (o : Effect) → P o → P (admitted e room o)
  admitted-cases e room o h =
      split P (ltb room buffer_need) _ _ (λ _. refuse ShortBuffer) (λ _. split P (ltb packet_limit (packet_length e)) _ _ (λ _. refuse OverLong) (λ _. h))

  pub event_cases : (e : Event) (room : ℕ) (r : CallResult) → Q r → P (event_effect c e room r)
  event_cases e room unfit q = refuse OutOfTurn
  event_cases e room (pending x phase) q = admitted-cases e room (runs c x phase) (go_on x phase q)
  event_cases e room (ended a) q = admitted-cases e room (ends c a) (end a q)

  -- a call
  pub call_cases : (is_admitted : Bool) (caller room : ℕ) → ((s : Script) → Accepts is_admitted caller c room s → Q (begin (is_opening c) s))
      → P (call_effect is_admitted caller c room)
  call_cases is_admitted caller room begun =
      split P is_admitted _ _
      (λ p. split P (ltb room buffer_need) _ _ (λ _. refuse ShortBuffer)
      (λ q. split P (leb caller last_caller) _ _ (λ k. by-start (start_of c) (λ s e. record { admitted = p; roomy = q; known = k; begins = e })) (λ _. refuse BadArgument)))
      (λ _. refuse OutOfTurn)
    where
      by-start : (x : Start) → ((s : Script) → x ≡ starts s → Accepts is_admitted caller c room s) → P (started c x)
      by-start (refuses r) h = refuse r
      by-start (starts s) h = effect_cases (begin (is_opening c) s) (begun s (h s refl))

-- two side by side that are refused alike
module _ (P : Effect → Effect → Type 0) (refuse : (r : Refusal) → P (unchanged r) (unchanged r)) where
  pub both-admitted : (e : Event) (room : ℕ) (o u : Effect) → P o u → P (admitted e room o) (admitted e room u)
  both-admitted e room o u h =
      split₂ P (ltb room buffer_need) _ _ _ _ (λ _. refuse ShortBuffer) (λ _. split₂ P (ltb packet_limit (packet_length e)) _ _ _ _ (λ _. refuse OverLong) (λ _. h))

  pub both_called : (is_admitted : Bool) (caller room : ℕ) (c d : Call) → (ltb room buffer_need ≡ false → leb caller last_caller ≡ true → P (started c (start_of c)) (started d (start_of d)))
      → P (call_effect is_admitted caller c room) (call_effect is_admitted caller d room)
  both_called is_admitted caller room c d h =
      split₂ P is_admitted _ _ _ _
      (λ _. split₂ P (ltb room buffer_need) _ _ _ _ (λ _. refuse ShortBuffer) (λ q. split₂ P (leb caller last_caller) _ _ _ _ (h q) (λ _. refuse BadArgument)))
      (λ _. refuse OutOfTurn)

-- what a script does first fits
pub fit-start : (x : Script) → is_fit (start_script x) ≡ true
fit-start (finish a) = refl
fit-start (command code clock bytes k) = refl
fit-start (reset x) = refl
fit-start (field_pause x) = refl

pub fit-reply : (rest : Rest) (r : Reply) → is_fit (after_reply rest r) ≡ true
fit-reply (by_reply k) r = fit-start (k r)
fit-reply (of_reset x) r = refl

fit-begin : (t : Bool) (x : Script) → is_fit (begin t x) ≡ true
fit-begin true x = refl
fit-begin false x = fit-start x

-- an accepted call begins
pub call_begins : (x : Script) (caller : ℕ) (c : Call) (room : ℕ) (b : Books) → Accepts (admits b c) caller c room x
    → step (idle_with b) (call caller c room) ≡ settled c (books_for caller c b) (begin (is_opening c) x)
call_begins x caller c room b h = rw (h.admitted, h.roomy, h.known, h.begins) (go (begin (is_opening c) x) (fit-begin (is_opening c) x))
  where
    go : (r : CallResult) → is_fit r ≡ true
        → ◌≡◌ {A = StepResult Session Byte} (step_result (after_effect (idle_with b) (call caller c room) (effect c r)) (given (effect c r))) (settled c (books_for caller c b) r)
    go unfit f = absurd (false≢true f)
    go (pending y phase) f = refl
    go (ended a) f = refl

-- an event of a packet's length that fits
pub stepped : (c : Call) (phase : Phase) (b : Books) (e : Event) (room : ℕ) (r : CallResult) → ltb room buffer_need ≡ false
    → ltb packet_limit (packet_length (seen b.padded e)) ≡ false → progress phase (seen b.padded e) ≡ r → is_fit r ≡ true → step (busy_in c phase b) (event e room) ≡ settled c b r
stepped c phase b e room unfit roomy short p f = absurd (false≢true f)
stepped c phase b e room (pending x new) roomy short p f = rw (p, roomy, short)
stepped c phase b e room (ended a) roomy short p f = rw (p, roomy, short)

-- one that both modes take as it is
seen_plain : (t : Bool) (e : Event) → Plain e → seen t e ≡ e
seen_plain true e h = h.same
seen_plain false e h = refl

pub stepped-plain : (c : Call) (phase : Phase) (b : Books) (e : Event) (room : ℕ) (r : CallResult) → ltb room buffer_need ≡ false → Plain e → progress phase e ≡ r → is_fit r ≡ true
    → step (busy_in c phase b) (event e room) ≡ settled c b r
stepped-plain c phase b e room r roomy h p f =
    let q = seen_plain b.padded e h in
    stepped c phase b e room r roomy (ap (λ d. ltb packet_limit (packet_length d)) q ∙ h.short) (ap (progress phase) q ∙ p) f

pub plain_ok : Plain ok
plain_ok = record { same = refl; short = refl }

pub plain_slept : Plain slept
plain_slept = record { same = refl; short = refl }

pub plain_time : Plain time
plain_time = record { same = refl; short = refl }

pub plain-packet : (p : List ℕ) → length p ≤ packet_limit → unpadded p ≡ p → Plain (pkt p)
plain-packet p h u = let s : ltb packet_limit (length p) ≡ false = le-ltb packet_limit (length p) h in record { same = rw (s, u); short = s }

pub plain-ack : Plain (pkt ack)
unfolding starts_with
plain-ack = plain-packet ack (omega arith) (unpadded-start ack refl)

-- ---- any list

-- a refusal at once leaves no trace
pub not_added : (w : Observed) (e : Entry) (r : Refusal) → add w e (rejects r) ≡ w
not_added w e r = go e w.lines w.notes
  where
    go : (e : Entry) (l : Record) (ns : List Note) → add (observed l ns) e (rejects r) ≡ observed l ns
    go (call caller c room) l ns = refl
    go (event d room) l [] = refl
    go (event d room) l (x ∷ ns) = refl

-- what every step keeps, of the session and of its record, holds behind any list
pub kept-after : (K : Session → Observed → Type 0) → ((s : Session) (w : Observed) (e : Entry) → K s w → K (step s e).state (add w e (step s e).output))
    → (s : Session) (w : Observed) (es : List Entry) → K s w → K (session_after s es) (observe w es (outputs s es))
kept-after K keeps s w [] h = h
kept-after K keeps s w (e ∷ es) h = kept-after K keeps (step s e).state (add w e (step s e).output) es (keeps s w e h)

-- the same of events, and of what was given out, the newest first
pub kept_along : (K : Session → Observed → List (Output Byte) → Type 0)
    → ((s : Session) (w : Observed) (outs : List (Output Byte)) (e : EventAndRoom) → K s w outs
    → (let r = step s (event_entry e) in K r.state (add w (event_entry e) r.output) (r.output ∷ outs)))
    → (es : List EventAndRoom) (s : Session) (w : Observed) (outs : List (Output Byte)) → K s w outs
    → K (session_after s (map event_entry es)) (seen_behind w s es) (reverse_aux (outputs s (map event_entry es)) outs)
kept_along K keeps [] s w outs h = h
kept_along K keeps (e ∷ es) s w outs h = kept_along K keeps es _ _ _ (keeps s w outs e h)

-- what every event keeps of a call by its lines holds along its run
module _ (End : List Item → Type 0) (Go : List Item → Phase → Type 0)
    (keeps : (xs : List Item) (phase : Phase) → Go xs phase → (e : Event) → LeadsTo End Go (accepted e ∷ xs) (progress phase e)) where
  step-holds : (mode : Bool) (r : Running) (b : Books) (l : Record) (ns : List Note) (e : EventAndRoom) → HoldsIn End Go mode (session_at r b) (observed l ns)
      → (let s = step (session_at r b) (event_entry e) in HoldsIn End Go mode s.state (add (observed l ns) (event_entry e) s.output))
  step-holds mode idle b l [] e h = h
  step-holds mode idle b l (y ∷ ns) e h = h
  step-holds mode (busy c phase) b l [] e h = absurd h.1
  step-holds mode (busy c phase) b l (y ∷ []) e h =
      let Goal : Effect → Type 0 = λ o. HoldsIn End Go mode (after_effect (busy_in c phase b) (event_entry e) o) (add_event e.event l (y ∷ []) (given o)) in
      let d : Event = seen mode e.event in
      subst (λ m. Goal (event_effect c (seen m e.event) e.room (progress phase (seen m e.event)))) (sym h.0)
      (event_cases Goal (LeadsTo End Go (accepted d ∷ seen_of mode l)) c (λ _. h) (λ x new q. (h.0, q)) (λ a q. (h.0, q))
      d e.room (progress phase d) (keeps (seen_of mode l) phase h.1 d))
  step-holds mode (busy c phase) b l (y ∷ (z ∷ ns)) e h = absurd h.1

  -- whether the call has ended or not
  module _ (P : List Item → Type 0) (over : (xs : List Item) → End xs → P xs) (on : (xs : List Item) (phase : Phase) → Go xs phase → P xs) where
    in-call : (mode : Bool) (r : Running) (l : Record) (ns : List Note) → InCall End Go mode r l ns → P (seen_of mode l)
    in-call mode idle l ns h = over (seen_of mode l) h
    in-call mode (busy c phase) l [] h = absurd h
    in-call mode (busy c phase) l (y ∷ []) h = on (seen_of mode l) phase h
    in-call mode (busy c phase) l (y ∷ (z ∷ ns)) h = absurd h

    -- the lines of a call from an idle session
    pub call_lines : (caller : ℕ) (c : Call) (room : ℕ) → End [] → ((s : Script) → start_of c ≡ starts s → LeadsTo End Go [] (begin (is_opening c) s))
        → (b : Books) (es : List EventAndRoom) → P (lines_from (idle_with b) caller c room es)
    call_lines caller c room none_yet begun b es =
        let r = step (idle_with b) (call caller c room) in
        let mode = r.state.books.padded in
        let w = add_call caller c [] [] r.output in
        let first : HoldsIn End Go mode r.state w =
        call_cases (λ o. let s = after_effect (idle_with b) (call caller c room) o in HoldsIn End Go s.books.padded s (add_call caller c [] [] (given o))) (LeadsTo End Go []) c
        (λ _. (refl, none_yet)) (λ x phase q. (refl, q)) (λ a q. (refl, q)) (admits b c) caller room (λ s h. begun s h.begins) in
        let last = kept_along (λ s w outs. HoldsIn End Go mode s w) (λ s w outs e. step-holds mode s.running s.books w.lines w.notes e) es r.state w [] first in
        let v = seen_behind w r.state es in
        in-call mode (session_after r.state (map event_entry es)).running v.lines v.notes last.1

-- events behind events
pub seen-append : (es ds : List EventAndRoom) (w : Observed) (s : Session) → seen_behind w s (es ++ ds) ≡ seen_behind (seen_behind w s es) (session_after s (map event_entry es)) ds
seen-append [] ds w s = refl
seen-append (e ∷ es) ds w s = seen-append es ds (add w (event_entry e) (step s (event_entry e)).output) (step s (event_entry e)).state

pub outputs-append : (es ds : List EventAndRoom) (s : Session)
    → outputs s (map event_entry (es ++ ds)) ≡ outputs s (map event_entry es) ++ outputs (session_after s (map event_entry es)) (map event_entry ds)
outputs-append [] ds s = refl
outputs-append (e ∷ es) ds s = ap (λ outs. (step s (event_entry e)).output ∷ outs) (outputs-append es ds (step s (event_entry e)).state)

-- ---- what is given out

module _ {B X : Type 0} (f : Output B → Option X) where
  picked-reversed : (xs ys : List (Output B)) → picked f (reverse_aux xs ys) ≡ reverse_aux (picked f xs) (picked f ys)
  picked-reversed [] ys = refl
  picked-reversed (out ∷ xs) ys = picked-reversed xs (out ∷ ys) ∙ go (f out)
    where
      go : (o : Option X) → reverse_aux (picked f xs) (cons_if o (picked f ys)) ≡ reverse_aux (cons_if o (picked f xs)) (picked f ys)
      go none = refl
      go (some x) = refl

  -- where the same is picked of both with the newest first
  pub same-picked : (xs ys : List (Output B)) → picked f (reverse xs) ≡ picked f (reverse ys) → picked f xs ≡ picked f ys
  same-picked xs ys e =
      sym (reverse-reverse (picked f xs)) ∙ ap reverse (sym (picked-reversed xs []) ∙ e ∙ picked-reversed ys []) ∙ reverse-reverse (picked f ys)
