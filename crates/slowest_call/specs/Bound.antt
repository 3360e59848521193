-- No run of a call is longer than its weight and its idle reads.
use Rattle.std.specs.Prelude.{◌≡◌, refl, Bool, true, false, cond, ◌||◌, List, [], ◌∷◌, ℕ, suc, ◌+◌, ◌-◌, ◌≤◌, eqb}
use Rattle.std.proofs.Common.{ap, subst, arith, leb→le}
use Rattle.std.proofs.lemmas.Bool.{false≢true}
use Rattle.std.proofs.Math.Option.{some}
use Rattle.errors.specs.declared.Fault.{Fault}
use Rattle.errors.specs.declared.Fault.TheVariants.{Transport, TimeOut, FalseStart}
use Rattle.framing.specs.Frames.{ack}
use Rattle.exchange.specs.Packets.{ack_led, Reply, response, failed, reply_of}
use Rattle.exchange.specs.Exchange.{Order, write, read, drain, pause, Event, ok, bad, pkt, time, fail, late, slept, first_read_time}
use Rattle.exchange.specs.Exchange.{unfit, pending, ended, ExchangePhase, sending, reading, waiting, cancelling, rejecting, draining}
use Rattle.exchange.specs.Exchange.{ExchangeResult, after_ack, advance}
use Rattle.protocol.specs.Scripts.{Script, finish, command, reset, field_pause}
use Rattle.protocol.specs.Calls.{Call, is_opening}
use Rattle.protocol.specs.Session.{Rest, by_reply, of_reset, Phase, exchange, reset_ack, reset_pause, field_pausing, opening_ack, opening_reads}
use Rattle.protocol.specs.Session.{CallResult, start_script, after_exchange, progress, begin, Running, idle, busy, Books, call, orders}
use Rattle.protocol.specs.Session.{step}
use Rattle.protocol.specs.Record.{Item, ordered, accepted, one_if, frames, events, pending_order, acked, idle_under, idle_reads}
use Rattle.protocol.specs.Laws.{split, by_write, by_read, by_pause, ack_is_ack}
use Rattle.protocol.specs.Invariant.{due_rest, due_step, due}
use Rattle.protocol.specs.Runs.{session_at, LeadsTo, lines_from}
use Rattle.protocol.proofs.RunLaws.{sending_cases, reading_cases, waiting_cases, cancelling_cases, rejecting_cases, draining_cases, call_lines}
use Rattle.slowest_call.specs.Question.{is_order, NoneLonger, is_slow, most_slow, most_other, Most, MostBegun, MostStarted, MostOf}
use Rattle.protocol.specs.Names.{opening_read_time, reset_pause_time}

-- ---- what is left of a call

-- m events behind an exchange of the most; one that ends with one less leaves one more, a reset's always the same
abbrev left_behind : Rest → Fault → ℕ → ℕ
left_behind (by_reply k) r m = cond (is_slow r) m (suc m)
left_behind (of_reset s) r m = m

abbrev LeftFailed : Fault → Rest → ℕ → Type 0
LeftFailed r (by_reply k) m = Most (k (failed r)) m
LeftFailed r (of_reset s) m = Most s m

abbrev LeftRest : Rest → ℕ → Type 0
LeftRest (by_reply k) m = ((bs : List ℕ) → Most (k (response bs)) (suc m)) × ((r : Fault) → Most (k (failed r)) (left_behind (by_reply k) r m))
LeftRest (of_reset s) m = Most s m

-- m events behind the phase's own; of an exchange that is given up the fault is known
abbrev LeftStep : ExchangePhase → Rest → ℕ → Type 0
LeftStep (sending code clock) rest m = LeftRest rest m
LeftStep (reading code clock) rest m = LeftRest rest m
LeftStep (waiting code clock) rest m = LeftRest rest m
LeftStep (cancelling r) rest m = LeftFailed r rest m
LeftStep rejecting rest m = LeftFailed FalseStart rest m
LeftStep draining rest m = LeftFailed FalseStart rest m

abbrev LeftPhase : Phase → ℕ → Type 0
LeftPhase (exchange step rest) m = LeftStep step rest m
LeftPhase (reset_ack s) m = Most s m
LeftPhase (reset_pause s) m = Most s m
LeftPhase (field_pausing s) m = Most s m
LeftPhase (opening_ack s) m = Most s m
LeftPhase (opening_reads s) m = Most s m

-- the record is as the phase says, where an event may be an idle read
abbrev PlaceStep : ExchangePhase → List Item → Type 0
PlaceStep (sending code clock) xs = Unit {0}
PlaceStep (reading code clock) xs = Unit {0}
PlaceStep (waiting code clock) xs = (pending_order xs ≡ some (read clock)) × (acked xs ≡ true)
PlaceStep (cancelling r) xs = Unit {0}
PlaceStep rejecting xs = Unit {0}
PlaceStep draining xs = pending_order xs ≡ some drain

abbrev Place : Phase → List Item → Type 0
Place (exchange step rest) xs = PlaceStep step xs
Place (reset_ack s) xs = Unit {0}
Place (reset_pause s) xs = Unit {0}
Place (field_pausing s) xs = Unit {0}
Place (opening_ack s) xs = frames xs ≡ 0
Place (opening_reads s) xs = (frames xs ≡ 0) × (pending_order xs ≡ some (read opening_read_time))

-- ---- what a fault leaves

failed_left : (rest : Rest) (r : Fault) (m : ℕ) → LeftRest rest m → LeftFailed r rest (left_behind rest r m)
failed_left (by_reply k) r m w = w.1 r
failed_left (of_reset s) r m w = w

left-most : (rest : Rest) (r : Fault) (m : ℕ) → left_behind rest r m ≤ suc m
left-most (by_reply k) r m = go (is_slow r)
  where
    go : (t : Bool) → cond t m (suc m) ≤ suc m
    go true = omega arith
    go false = omega arith
left-most (of_reset s) r m = omega arith

left-slow : (rest : Rest) (r : Fault) (m : ℕ) → is_slow r ≡ true → left_behind rest r m ≡ m
left-slow (by_reply k) r m e = rw e
left-slow (of_reset s) r m e = refl

-- of a command's weight m
left-started : (k : Reply → Script) (m : ℕ) → 4 ≤ m → ((r : Fault) → is_slow r ≡ true → Most (k (failed r)) (m - most_slow))
    → ((r : Fault) → is_slow r ≡ false → Most (k (failed r)) (m - most_other)) → (r : Fault) → Most (k (failed r)) (left_behind (by_reply k) r (m - most_slow))
left-started k m h slow other r = go (is_slow r) refl
  where
    go : (t : Bool) → is_slow r ≡ t → Most (k (failed r)) (cond t (m - most_slow) (suc (m - most_slow)))
    go true e = slow r e
    go false e = let one : m - most_other ≡ suc (m - most_slow) = omega arith in subst (Most (k (failed r))) one (other r e)

-- n: the weight
module _ (n : ℕ) where
  abbrev pub Bounded : List Item → Type 0
  Bounded xs = events xs ≤ n + idle_reads xs

  -- of the running call whose lines are xs
  record Kept (xs : List Item) (phase : Phase) : Type 0 where
    left : ℕ
    budget : events xs + (due phase + left) ≤ n + idle_reads xs
    script : LeftPhase phase left
    place : Place phase xs

  abbrev KeptBy : List Item → CallResult → Type 0
  KeptBy xs r = LeadsTo Bounded Kept xs r

  still-bounded : (xs : List Item) (phase : Phase) → Kept xs phase → Bounded xs
  still-bounded xs phase g = omega (arith, g.budget)

  -- ---- a script starts, with m events left

  kept-start : (xs : List Item) (s : Script) (m : ℕ) → events xs + m ≤ n + idle_reads xs → Most s m → KeptBy xs (start_script s)
  kept-start xs (finish a) m b w = omega arith
  kept-start xs (command code clock bytes k) m b w =
      let four : 4 ≤ m = leb→le 4 m w.0 in
      let more : m - most_other ≡ suc (m - most_slow) = omega arith in
      record {
        left = m - most_slow;
        budget = omega arith;
        script = ((λ bs. subst (Most (k (response bs))) more (w.1 bs)), left-started k m four w.2 w.3);
        place = tt;
      }
  kept-start xs (reset s) m b w =
      let six : 6 ≤ m = leb→le 6 m w.0 in
      record { left = m - 6; budget = omega arith; script = w.1; place = tt }
  kept-start xs (field_pause s) m b w =
      let one : 1 ≤ m = leb→le 1 m w.0 in
      record { left = m - 1; budget = omega arith; script = w.1; place = tt }

  -- ---- an event; xs are the lines before it

  module _ (xs : List Item) where
    abbrev By : Event → CallResult → Type 0
    By e r = KeptBy (accepted e ∷ xs) r

    abbrev In : Rest → Event → ExchangeResult → Type 0
    In rest e r = By e (after_exchange rest r)

    -- it is an idle read, or the phase has one less to come; m events are left behind the new phase
    goes_to : {phase : Phase} (new : Phase) (e : Event) (x : Order) (g : Kept xs phase) (m : ℕ) → suc (due new + m) ≤ due phase + g.left + one_if (idle_under (pending_order xs) xs e)
        → LeftPhase new m → Place new (ordered x ∷ accepted e ∷ xs) → By e (pending x new)
    goes_to new e x g m d w s = record { left = m; budget = omega (arith, g.budget); script = w; place = s }

    goes_on : {phase : Phase} (new : Phase) (e : Event) (x : Order) (g : Kept xs phase) → suc (due new) ≤ due phase + one_if (idle_under (pending_order xs) xs e)
        → LeftPhase new g.left → Place new (ordered x ∷ accepted e ∷ xs) → By e (pending x new)
    goes_on new e x g d w s = goes_to new e x g g.left (omega arith) w s

    -- the exchange is over with a fault, behind which m events are left
    over : (rest : Rest) (e : Event) (r : Fault) (m : ℕ) → suc (events xs) + (due_rest rest + m) ≤ n + idle_reads xs → LeftFailed r rest m → In rest e (ended (failed r))
    over (by_reply k) e r m b w = kept-start (accepted e ∷ xs) (k (failed r)) m (omega arith) w
    over (of_reset s) e r m b w = record { left = m; budget = omega arith; script = w; place = tt }

    -- it fails, or ends with a packet, with an event less than the most
    module _ {step : ExchangePhase} (rest : Rest) (g : Kept xs (exchange step rest)) (w : LeftRest rest g.left) (d : 2 ≤ due_step step) where
      fails : (e : Event) (r : Fault) → In rest e (ended (failed r))
      fails e r = over rest e r (left_behind rest r g.left) (omega (arith, g.budget, left-most rest r g.left)) (failed_left rest r g.left w)

    responds : {step : ExchangePhase} (rest : Rest) (e : Event) (bs : List ℕ) (g : Kept xs (exchange step rest)) → LeftRest rest g.left → 2 ≤ due_step step → In rest e (ended (response bs))
    responds (by_reply k) e bs g w d = kept-start (accepted e ∷ xs) (k (response bs)) (suc g.left) (omega (arith, g.budget)) (w.0 bs)
    responds (of_reset s) e bs g w d = goes_on (reset_ack s) e (write ack) g (omega arith) w tt

    replies : {step : ExchangePhase} (rest : Rest) (e : Event) (r : Reply) (g : Kept xs (exchange step rest)) → LeftRest rest g.left → 2 ≤ due_step step → In rest e (ended r)
    replies rest e (response bs) g w d = responds rest e bs g w d
    replies rest e (failed r) g w d = fails rest g w d e r

    -- ACK is written, and the exchange then ends with the fault: by a step that leaves enough for it
    gives_up : {step : ExchangePhase} (rest : Rest) (e : Event) (r : Fault) (new : ExchangePhase) (g : Kept xs (exchange step rest)) → LeftRest rest g.left
        → suc (due_step new + left_behind rest r g.left) ≤ due_step step + g.left + one_if (idle_under (pending_order xs) xs e)
        → (LeftFailed r rest (left_behind rest r g.left) → LeftStep new rest (left_behind rest r g.left)) → PlaceStep new (ordered (write ack) ∷ accepted e ∷ xs)
        → In rest e (pending (write ack) new)
    gives_up rest e r new g w d f s = goes_to (exchange new rest) e (write ack) g (left_behind rest r g.left) (omega arith) (f (failed_left rest r g.left w)) s

    cancels : {step : ExchangePhase} (rest : Rest) (e : Event) (g : Kept xs (exchange step rest)) → LeftRest rest g.left
        → 2 ≤ due_step step + one_if (idle_under (pending_order xs) xs e) → In rest e (pending (write ack) (cancelling TimeOut))
    cancels rest e g w d = gives_up rest e TimeOut (cancelling TimeOut) g w (omega (arith, left-slow rest TimeOut g.left refl)) (λ h. h) tt

    -- an ACK-led packet: the first, or an idle read
    reads_on : {step : ExchangePhase} (rest : Rest) (code clock : ℕ) (packet : List ℕ) (g : Kept xs (exchange step rest)) → LeftRest rest g.left → 2 ≤ due_step step
        → 3 ≤ due_step step + one_if (idle_under (pending_order xs) xs (pkt packet)) → ack_led packet ≡ true → In rest (pkt packet) (after_ack code clock)
    reads_on rest code clock packet g w d i v =
        split (In rest (pkt packet)) (eqb clock 0) _ _
        (λ _. cancels rest (pkt packet) g w (omega arith))
        (λ _. goes_on (exchange (waiting code clock) rest) (pkt packet) (read clock) g (omega arith) w (refl, rw v))

    idle-ack : {rest : Rest} {code clock : ℕ} (packet : List ℕ) → Kept xs (exchange (waiting code clock) rest) → ack_led packet ≡ true
        → one_if (idle_under (pending_order xs) xs (pkt packet)) ≡ 1
    idle-ack packet g v = rw (g.place.0, g.place.1, v) (either_way (eqb (frames xs) 0))
      where
        either_way : (t : Bool) → one_if (t || true) ≡ 1
        either_way true = refl
        either_way false = refl

    -- a false start's drain goes on
    drains : {step : ExchangePhase} (rest : Rest) (e : Event) (g : Kept xs (exchange step rest)) → LeftFailed FalseStart rest g.left
        → 2 ≤ due_step step + one_if (idle_under (pending_order xs) xs e) → In rest e (pending drain draining)
    drains rest e g w i = goes_on (exchange draining rest) e drain g (omega arith) w refl

    advance-kept : (step : ExchangePhase) (rest : Rest) → Kept xs (exchange step rest) → (e : Event) → In rest e (advance step e)
    advance-kept (sending code clock) rest g =
        sending_cases (In rest) (λ _. tt) code clock
        (goes_on (exchange (reading code clock) rest) ok (read first_read_time) g (omega arith) g.script tt)
        (gives_up rest bad Transport (cancelling Transport) g g.script (omega (arith, left-most rest Transport g.left)) (λ h. h) tt)
    advance-kept (reading code clock) rest g =
        reading_cases (In rest) (λ _. tt) code clock
        (λ e. fails rest g g.script (omega arith) e TimeOut)
        (fails rest g g.script (omega arith) fail Transport)
        (λ p v. reads_on rest code clock p g g.script (omega arith) (omega arith) v)
        (λ p. replies rest (pkt p) (reply_of code p) g g.script (omega arith))
        (λ p. gives_up rest (pkt p) FalseStart rejecting g g.script (omega (arith, left-slow rest FalseStart g.left refl)) (λ h. h) tt)
    advance-kept (waiting code clock) rest g =
        waiting_cases (In rest) (λ _. tt) code clock
        (λ e. fails rest g g.script (omega arith) e TimeOut)
        (fails rest g g.script (omega arith) fail Transport)
        (λ p v. reads_on rest code clock p g g.script (omega arith) (omega (arith, idle-ack p g v)) v)
        (λ p. replies rest (pkt p) (reply_of code p) g g.script (omega arith))
        (cancels rest late g g.script (omega arith))
    advance-kept (cancelling r) rest g = cancelling_cases (In rest) (λ _. tt) r (λ e. over rest e r g.left (omega (arith, g.budget)) g.script)
    advance-kept rejecting rest g = rejecting_cases (In rest) (λ _. tt) (λ e. drains rest e g g.script (omega arith))
    advance-kept draining rest g =
        draining_cases (In rest) (λ _. tt)
        (λ e. over rest e FalseStart g.left (omega (arith, g.budget)) g.script)
        (λ p z. let i : one_if (idle_under (pending_order xs) xs (pkt p)) ≡ 1 = rw (g.place, z) in drains rest (pkt p) g g.script (omega arith))
        (let i : one_if (idle_under (pending_order xs) xs fail) ≡ 1 = rw g.place in drains rest fail g g.script (omega arith))

    -- the script goes on behind a phase that has one event to come
    resumes : {phase : Phase} (s : Script) (e : Event) (g : Kept xs phase) → 1 ≤ due phase → Most s g.left → By e (start_script s)
    resumes s e g d w = kept-start (accepted e ∷ xs) s g.left (omega (arith, g.budget)) w

    kept : (phase : Phase) → Kept xs phase → (e : Event) → By e (progress phase e)
    kept (exchange step rest) g = advance-kept step rest g
    kept (reset_ack s) g =
        by_write By unfit (λ _. tt) _ _ (goes_on (reset_pause s) ok (pause reset_pause_time) g (omega arith) g.script tt) (omega (arith, g.budget))
    kept (reset_pause s) g = by_pause By unfit (λ _. tt) _ (resumes s slept g (omega arith) g.script)
    kept (field_pausing s) g = by_pause By unfit (λ _. tt) _ (resumes s slept g (omega arith) g.script)
    kept (opening_ack s) g =
        by_write By unfit (λ _. tt) _ _
        (goes_on (opening_reads s) ok (read opening_read_time) g (omega arith) g.script (omega (arith, g.place), refl))
        (omega (arith, g.budget))
    kept (opening_reads s) g =
        by_read By unfit (λ _. tt) (λ p. pending (read opening_read_time) (opening_reads s)) _ _ _
        (λ p. let i : one_if (idle_under (pending_order xs) xs (pkt p)) ≡ 1 = rw (g.place.1, g.place.0) in
        goes_on (opening_reads s) (pkt p) (read opening_read_time) g (omega arith) g.script (omega (arith, g.place.0), refl))
        (resumes s time g (omega arith) g.script)
        (resumes s fail g (omega arith) g.script)
        tt

  -- ---- any events

  kept-begin : (o : Bool) (s : Script) → MostBegun o s n → KeptBy [] (begin o s)
  kept-begin true s w =
      let two : 2 ≤ n = leb→le 2 n w.0 in
      record { left = n - 2; budget = omega arith; script = w.1; place = rw ack_is_ack }
  kept-begin false s w = kept-start [] s n (omega arith) w

  -- the theorem
  pub none_longer : (c : Call) → MostOf c n → NoneLonger c n
  none_longer c w s caller room es a = go s.running s.books a.order a.given
    where
      go : (r : Running) (b : Books) (x : Order) → (step (session_at r b) (call caller c room)).output ≡ orders x → Bounded (lines_from (session_at r b) caller c room es)
      go idle b x q =
          call_lines Bounded Kept kept Bounded (λ xs h. h) still-bounded caller c room (omega arith)
          (λ s e. kept-begin (is_opening c) s (subst (λ x. MostStarted (is_opening c) x n) e w)) b es
      go (busy d phase) b x q = absurd (false≢true (ap is_order q))
