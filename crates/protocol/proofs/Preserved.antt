-- Every event keeps the invariant of a running call.
use Rattle.std.specs.Prelude.{◌≡◌, refl, true, false, List, ◌∷◌, ℕ, ◌+◌, ◌≤◌, eqb, length}
use Rattle.std.proofs.Common.{arith, ne_eqb}
use Rattle.errors.specs.declared.Fault.{Fault}
use Rattle.errors.specs.declared.Fault.TheVariants.{Transport, TimeOut, FalseStart}
use Rattle.framing.specs.Frames.{ack}
use Rattle.exchange.specs.Packets.{ack_led, Reply, failed, reply_of}
use Rattle.exchange.specs.Exchange.{Order, write, read, drain, pause, Event, ok, bad, pkt, time, fail, late, slept, first_read_time}
use Rattle.exchange.specs.Exchange.{unfit, pending, ended, ExchangePhase, sending, reading, waiting, cancelling, rejecting, draining}
use Rattle.exchange.specs.Exchange.{ExchangeResult, after_ack, advance}
use Rattle.protocol.specs.Scripts.{refused, Script}
use Rattle.protocol.specs.Calls.{Call}
use Rattle.protocol.specs.Session.{Rest, by_reply, of_reset, Phase, exchange, reset_ack, reset_pause, field_pausing, opening_ack, opening_reads}
use Rattle.protocol.specs.Session.{CallResult, start_script, after_exchange, progress}
use Rattle.protocol.specs.Record.{Item, ordered, accepted, Record, lines_of, one_if, frames, events, pending_order, idle_under, allowed, line}
use Rattle.protocol.specs.Own.{form_of}
use Rattle.protocol.specs.Sound.{response_in, OfExchange}
use Rattle.protocol.proofs.RunLaws.{sending_cases, reading_cases, waiting_cases, cancelling_cases, rejecting_cases, draining_cases}
use Rattle.protocol.specs.Laws.{split, of_exchange, by_write, by_read, by_pause, lines_own}
use Rattle.protocol.specs.Invariant.{due_step, step-due, due, phase_due, RestSound, PhaseSound, Asked, At, Invariant, Preserved}
use Rattle.protocol.specs.Invariant.{later_sourced, asked-later, closed, script-started, bare, Brought, sourced_more, nothing_brought, brought}
use Rattle.protocol.specs.Names.{reset_pause_time, opening_read_time}

-- n: the call's number. c: the call. l: the record before the event. xs: the call's lines in it.
module _ (n : ℕ) (c : Call) (l : Record) (xs : List Item) where
  -- of what the event leads to, and of what it does to the exchange
  abbrev pub PreservedBy : Event → CallResult → Type 0
  PreservedBy e r = Preserved n c (line n (accepted e) ∷ l) (accepted e ∷ xs) r

  abbrev PreservedIn : Rest → Event → ExchangeResult → Type 0
  PreservedIn rest e r = PreservedBy e (after_exchange rest r)

  -- ---- ways on

  own-lines : {phase : Phase} (e : Event) → Invariant n c l xs phase → lines_of n (line n (accepted e) ∷ l) ≡ accepted e ∷ xs
  own-lines e g = lines_own n l (accepted e) xs g.lines

  -- an order follows that is no command frame
  goes_on : {phase : Phase} (new : Phase) (e : Event) (x : Order) (g : Invariant n c l xs phase)
      → events (ordered x ∷ accepted e ∷ xs) + due new ≤ allowed c (ordered x ∷ accepted e ∷ xs)
      → frames (ordered x ∷ accepted e ∷ xs) ≡ frames xs
      → PhaseSound (form_of c) new g.left g.responses
      → At n c new (line n (ordered x) ∷ line n (accepted e) ∷ l) (ordered x ∷ accepted e ∷ xs) (length g.responses)
      → PreservedBy e (pending x new)
  goes_on new e x g b q w s = record {
    lines = lines_own n (line n (accepted e) ∷ l) (ordered x) (accepted e ∷ xs) (own-lines e g);
    responses = g.responses;
    budget = b;
    left = g.left;
    room = omega arith;
    script = w;
    place = s;
    source = later_sourced n c g.responses (later_sourced n c g.responses g.source);
  }

  -- the call ends with a refusal
  stops : {phase : Phase} (e : Event) (r : Fault) → Invariant n c l xs phase → PreservedBy e (ended (refused r))
  stops {phase} e r g =
      closed n c _ _ g.responses (refused r) (own-lines e g) (omega arith) (omega (arith, phase_due phase)) tt
      (later_sourced n c g.responses g.source)

  -- the script goes on
  resumes : {phase : Phase} (s : Script) (e : Event) (g : Invariant n c l xs phase) → RestSound (form_of c) s g.left g.responses → frames xs ≡ length g.responses
      → PreservedBy e (start_script s)
  resumes {phase} s e g w q =
      script-started n c _ _ g.responses (own-lines e g) s g.left (omega (arith, phase_due phase)) (omega arith) w (omega arith)
      (later_sourced n c g.responses g.source)

  -- the exchange ends with a reply
  replies : {step : ExchangePhase} (rest : Rest) (e : Event) (r : Reply) (g : Invariant n c l xs (exchange step rest)) → OfExchange r
      → Brought n c (line n (accepted e) ∷ l) (length g.responses) (response_in r) → PreservedIn rest e (ended r)
  replies {step} (by_reply k) e r g q f =
      script-started n c _ _ (response_in r ∷ g.responses) (own-lines e g) (k r) g.left (omega (arith, step-due step)) (omega arith)
      (g.script.0 r, g.script.1 r q) (omega arith)
      (sourced_more n c _ g.responses (response_in r) (later_sourced n c g.responses g.source) f)
  replies {step} (of_reset s) e r g q f =
      let h : frames (ordered (write ack) ∷ xs) ≡ frames xs = bare n c xs in
      record {
        lines = lines_own n (line n (accepted e) ∷ l) (ordered (write ack)) (accepted e ∷ xs) (own-lines e g);
        responses = response_in r ∷ g.responses;
        budget = omega (arith, step-due step);
        left = g.left;
        room = omega arith;
        script = (g.script.0, g.script.1 (response_in r));
        place = omega arith;
        source =
            later_sourced n c (response_in r ∷ g.responses)
            (sourced_more n c _ g.responses (response_in r) (later_sourced n c g.responses g.source) f);
      }

  -- with a refusal; with what step 5 makes of the packet
  fails : {step : ExchangePhase} {rest : Rest} (e : Event) (r : Fault) → OfExchange (failed r) → Invariant n c l xs (exchange step rest) → PreservedIn rest e (ended (failed r))
  fails {rest = rest} e r q g = replies rest e (failed r) g q (nothing_brought n c _ (length g.responses))

  replies-to : {step : ExchangePhase} {rest : Rest} (code : ℕ) (packet : List ℕ) (g : Invariant n c l xs (exchange step rest))
      → Asked n c l (length g.responses) code → PreservedIn rest (pkt packet) (ended (reply_of code packet))
  replies-to {rest = rest} code packet g a =
      replies rest (pkt packet) (reply_of code packet) g (of_exchange code packet) (brought n c l (length g.responses) code packet (reply_of code packet) a refl)

  -- ACK is written, and the exchange then ends with a refusal
  cancels : {step : ExchangePhase} {rest : Rest} (e : Event) (r : Fault) → OfExchange (failed r) → Invariant n c l xs (exchange step rest) → 2 ≤ due_step step
      → PreservedIn rest e (pending (write ack) (cancelling r))
  cancels {rest = rest} e r q g d =
      let b : frames (ordered (write ack) ∷ xs) ≡ frames xs = bare n c xs in
      goes_on (exchange (cancelling r) rest) e (write ack) g (omega arith) (omega arith) g.script (omega arith, q)

  -- an ACK-led packet comes: the first, or an idle read
  reads_on : {step : ExchangePhase} {rest : Rest} (code clock : ℕ) (packet : List ℕ) (g : Invariant n c l xs (exchange step rest)) → 2 ≤ due_step step
      → 3 ≤ due_step step + one_if (idle_under (pending_order xs) xs (pkt packet)) → Asked n c l (length g.responses) code → ack_led packet ≡ true
      → PreservedIn rest (pkt packet) (after_ack code clock)
  reads_on {rest = rest} code clock packet g d b a v =
      split (PreservedIn rest (pkt packet)) (eqb clock 0) _ _
      (λ _. cancels (pkt packet) TimeOut refl g d)
      (λ _. goes_on (exchange (waiting code clock) rest) (pkt packet) (read clock) g (omega arith) (omega arith) g.script
      (omega arith, (asked-later n c (ordered (read clock)) (asked-later n c (accepted (pkt packet)) a v) refl, refl, rw v)))

  idle-ack : {rest : Rest} {code clock : ℕ} (packet : List ℕ) → Invariant n c l xs (exchange (waiting code clock) rest) → ack_led packet ≡ true
      → one_if (idle_under (pending_order xs) xs (pkt packet)) ≡ 1
  idle-ack packet g v =
      let z : eqb (frames xs) 0 ≡ false = ne_eqb (frames xs) 0 (λ e. omega arith) in rw (g.place.1.1, z, g.place.1.2, v)

  -- the drain goes on
  drains : {step : ExchangePhase} {rest : Rest} (e : Event) → Invariant n c l xs (exchange step rest)
      → 2 ≤ due_step step + one_if (idle_under (pending_order xs) xs e) → PreservedIn rest e (pending drain draining)
  drains {rest = rest} e g i = goes_on (exchange draining rest) e drain g (omega arith) (omega arith) g.script (omega arith, refl)

  -- ---- every event

  -- in the exchange
  advance-preserved : (step : ExchangePhase) (rest : Rest) → Invariant n c l xs (exchange step rest) → (e : Event) → PreservedIn rest e (advance step e)
  advance-preserved (sending code clock) rest g =
      sending_cases (PreservedIn rest) (λ _. tt) code clock
      (goes_on (exchange (reading code clock) rest) ok (read first_read_time) g (omega arith) (omega arith) g.script
      (omega arith, asked-later n c (ordered (read first_read_time)) (asked-later n c (accepted ok) g.place.1 refl) refl))
      (cancels bad Transport refl g (omega arith))
  advance-preserved (reading code clock) rest g =
      reading_cases (PreservedIn rest) (λ _. tt) code clock
      (λ e. fails e TimeOut refl g)
      (fails fail Transport refl g)
      (λ p v. reads_on code clock p g (omega arith) (omega arith) g.place.1 v)
      (λ p. replies-to code p g g.place.1)
      (λ p. let b : frames (ordered (write ack) ∷ xs) ≡ frames xs = bare n c xs in
      goes_on (exchange rejecting rest) (pkt p) (write ack) g (omega arith) (omega arith) g.script (omega arith, tt))
  advance-preserved (waiting code clock) rest g =
      waiting_cases (PreservedIn rest) (λ _. tt) code clock
      (λ e. fails e TimeOut refl g)
      (fails fail Transport refl g)
      (λ p v. reads_on code clock p g (omega arith) (omega (arith, idle-ack p g v)) g.place.1.0 v)
      (λ p. replies-to code p g g.place.1.0)
      (cancels late TimeOut refl g (omega arith))
  advance-preserved (cancelling r) rest g = cancelling_cases (PreservedIn rest) (λ _. tt) r (λ e. fails e r g.place.1 g)
  advance-preserved rejecting rest g = rejecting_cases (PreservedIn rest) (λ _. tt) (λ e. drains e g (omega arith))
  advance-preserved draining rest g =
      draining_cases (PreservedIn rest) (λ _. tt)
      (λ e. fails e FalseStart refl g)
      (λ p z. let i : one_if (idle_under (pending_order xs) xs (pkt p)) ≡ 1 = rw (g.place.1, z) in drains (pkt p) g (omega arith))
      (let i : one_if (idle_under (pending_order xs) xs fail) ≡ 1 = rw g.place.1 in drains fail g (omega arith))

  -- in the call
  pub preserved : (phase : Phase) → Invariant n c l xs phase → (e : Event) → PreservedBy e (progress phase e)
  preserved (exchange step rest) g = advance-preserved step rest g
  preserved (reset_ack s) g =
      by_write PreservedBy unfit (λ _. tt) _ _
      (goes_on (reset_pause s) ok (pause reset_pause_time) g (omega arith) (omega arith) g.script (omega arith))
      (stops bad Transport g)
  preserved (reset_pause s) g = by_pause PreservedBy unfit (λ _. tt) _ (resumes s slept g g.script g.place)
  preserved (field_pausing s) g = by_pause PreservedBy unfit (λ _. tt) _ (resumes s slept g g.script g.place)
  preserved (opening_ack s) g =
      by_write PreservedBy unfit (λ _. tt) _ _
      (goes_on (opening_reads s) ok (read opening_read_time) g (omega arith) (omega arith) g.script (omega arith, g.place.1, refl))
      (stops bad Transport g)
  preserved (opening_reads s) g =
      by_read PreservedBy unfit (λ _. tt) (λ p. pending (read opening_read_time) (opening_reads s)) _ _ _
      (λ p. let z : frames xs ≡ 0 = omega arith in
      let i : one_if (idle_under (pending_order xs) xs (pkt p)) ≡ 1 = rw (g.place.2, z) in
      goes_on (opening_reads s) (pkt p) (read opening_read_time) g (omega arith) (omega arith) g.script (omega arith, g.place.1, refl))
      (resumes s time g g.script g.place.0)
      (resumes s fail g g.script g.place.0)
      tt
