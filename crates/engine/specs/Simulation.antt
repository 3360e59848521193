-- What it is for the engine's step to do what the definitions say, and the ways in which a call goes on.
use Rattle.std.specs.Prelude.{◌≡◌, ℕ, ◌≤◌, Bool, true, false, cond, leb, List, map, length, take, drop, nat_le, nat_lt}
use Rattle.std.proofs.Math.Path.{refl, ap, subst}
use Rattle.std.proofs.Common.{sym, ◌∙◌, arith}
use borrow.Author.Tests.{ltb-false, le-leb}
use Rattle.std.proofs.Math.Seq.{take-append_seam}
use Rattle.errors.specs.Choice.{pick}
use Rattle.errors.specs.declared.Refusal.{Refusal}
use Rattle.errors.specs.declared.Refusal.TheVariants.{OutOfTurn, ShortBuffer, OverLong}
use Rattle.framing.specs.Frames.{ack}
use Rattle.exchange.specs.Packets.{command_frame, Reply}
use Rattle.exchange.specs.Exchange.{Order, write, read, drain, pause, Event, ok, bad, pkt, time, fail, late, slept, unfit, pending, ended, on_write, on_read, on_pause, ExchangeResult}
use Rattle.exchange.specs.Steps.{phase_in, exchange_at, draining_phase, sending_phase}
use Rattle.exchange.specs.declared.Exchange.{Exchange}
use Rattle.protocol.specs.Scripts.{Byte, value, Answer, done, type1, uid_and_ats, nothing, refused, refused_after, Script, finish, command, reset, field_pause}
use Rattle.protocol.specs.Calls.{Call as CallOf, is_opening, reset_mode_code, reset_mode_data}
use Rattle.protocol.specs.Session.{exchange, Rest, CallResult, start_script, after_reply, after_exchange, Running, busy, packet_length, admitted, event_effect, Effect, effect, running_after, packet_limit, buffer_need}
use Rattle.protocol.specs.Session.{orders, answers, given, unchanged as unchanged_of, runs as runs_of, ends as ends_in}
use Rattle.protocol.specs.Session as Spec
use Rattle.protocol.specs.Machine.{output_values, plain_answer}
use Rattle.stages.specs.Put.{put, take_put}
use Rattle.stages.specs.Stages.{cmd, Decision, send}
use Rattle.calls.specs.Tables.{command_of}
use Rattle.calls.specs.Refines.{Refines, refines_end, refines_send, refines_reset, refines_keep, refines_next, refines_put, refines_pause}
use Rattle.stages.specs.Decided.{found_limit}
use Rattle.engine.specs.Books.{booked as booked_by}
use Rattle.engine.specs.Booking.{book_numbers, Bounded, book_by, quiet_booked, ack-counts, frame-booked, end-booked}
use Rattle.engine.specs.Core.{Arrays, After, unchanged, running, orders_of, sends_of, stage_of, ends_of, answers_of, performs_of, admitted_of, is_long_of, transitioned_of}
use Rattle.engine.specs.Transitions.{Transitioned, unfitting, orders as goes_on_of, fits, reply_length, ended_transition, exchange_transition, exchange_in}
use Rattle.engine.specs.Inputs.{output_of}
use Rattle.engine.specs.Relation.{Position, Wait, reply, reset_reply, pausing, call_at, phase_at, Fields, core_with, arrays_at, PositionAgrees, core_at, running_at, Represents, free, runs}
use Rattle.engine.specs.Exchanges.{NoCommand, Good}
use Rattle.engine.specs.declared.call.Call.{Call}
use Rattle.engine.specs.declared.running.Core.{Core}
use Rattle.engine.specs.declared.running.Output.{Output}
use Rattle.engine.specs.declared.running.Output.TheVariants as out
use Rattle.protocol.specs.Names.{field_pause_time, command_clock}
use Rattle.protocol.specs.Starts.{data_limit}
use Rattle.calls.specs.Kinds.{last_stage}
use Rattle.framing.specs.Names.{ack_size}

-- What an entry leaves, beside what the definitions say; the running call is m before it. What is booked of the output, of the call of any
-- caller k, is what the definitions book of the effect.
pub record Simulates (opens : Bool) (m : Running) (a : After Core) (o : Effect) : Type 0 where
  pub represents : Represents a.state a.arrays (running_after m o)
  pub output : output_of a.output a.buffer ≡ output_values (given o)
  pub booked : (k : ℕ) (b : Spec.Books) → Bounded b → booked_by k opens a.output (book_numbers b) ≡ book_numbers (book_by k o b)

module _ {t : Bool} {m : Running} where
  pub sim_unchanged : {s : Core} {f : Arrays} (r : Refusal) (b : List ℕ) → Represents s f m → Simulates t m (unchanged s f r b) (unchanged_of r)
  sim_unchanged r b h = record { represents = h; output = refl; booked = λ k b h. refl }

  pub sim_pick : (u : Bool) {x y : After Core} {o w : Effect} → Simulates t m x o → (u ≡ false → Simulates t m y w) → Simulates t m (pick u x y) (cond u o w)
  unfolding pick
  sim_pick true h k = h
  sim_pick false h k = k refl

-- ---- the call goes on, or ends, whatever the numbers of the call were

module _ (v : Fields) (c : Call) (t : Bool) (m : Running) where
  -- with an order that is no command
  pub sim_orders : (p : Position) (w : Wait p) (x : Exchange) (o : Order) (b : List ℕ) → nat_le x.phase draining_phase ≡ true → PositionAgrees p v → NoCommand o
      → Simulates t m (orders_of (core_with v c) (arrays_at v) o (call_at p w) x b) (runs_of p.call o (phase_at w x))
  sim_orders p w x o b small agrees e = go o e
    where
      here : Represents (running (core_with v c) (call_at p w) x) (arrays_at v) (busy p.call (phase_at w x))
      here =
          let u : Fields = record {
            command = v.command;
            found = v.found;
            pending = v.pending;
            kept = v.kept;
            exchange = x;
            pending_fits = v.pending_fits;
            kept_fits = v.kept_fits;
            phase_fits = small;
          } in
          runs p w u record { pending = agrees.pending; found = agrees.found } refl refl refl

      go : (o : Order) → NoCommand o → Simulates t m (orders_of (core_with v c) (arrays_at v) o (call_at p w) x b) (runs_of p.call o (phase_at w x))
      go (write bytes) e = record {
        represents = here;
        output = rw e (ap (λ l. orders (write l)) (take-append_seam ack (drop ack_size b)));
        booked = λ k n h. rw e (quiet_booked k (write ack) n ack-counts);
      }
      go (read ms) e = record { represents = here; output = refl; booked = λ k n h. quiet_booked k (read ms) n (λ _. refl) }
      go drain e = record { represents = here; output = refl; booked = λ k n h. quiet_booked k drain n (λ _. refl) }
      go (pause us) e = record { represents = here; output = refl; booked = λ k n h. quiet_booked k (pause us) n (λ _. refl) }

  -- with a command
  pub sim_sends : (p : Position) (w : Wait p) (code clock : ℕ) (bytes b : List ℕ) → PositionAgrees p v
      → Simulates t m (sends_of (core_with v c) (arrays_at v) (call_at p w) (cmd code clock bytes) b)
      (runs_of p.call (write (command_frame code bytes)) (phase_at w (exchange_at sending_phase code clock)))
  sim_sends p w code clock bytes b agrees =
      let u : Fields = record {
        command = v.command;
        found = v.found;
        pending = v.pending;
        kept = v.kept;
        exchange = exchange_at sending_phase code clock;
        pending_fits = v.pending_fits;
        kept_fits = v.kept_fits;
        phase_fits = refl;
      } in
      record {
        represents = runs p w u record { pending = agrees.pending; found = agrees.found } refl refl refl;
        output = ap (λ l. orders (write l)) (take-append_seam (command_frame code bytes) _);
        booked = λ k. frame-booked k t (length (command_frame code bytes)) code bytes;
      }

-- the call ends
module _ (v : Fields) (c : Call) (q : CallOf) (m : Running) where
  sim-ends : (a : Answer Byte) (o : Output) (b : List ℕ) → output_of o b ≡ answers (plain_answer a)
      → ((k : ℕ) (n : Spec.Books) → booked_by k (is_opening q) o (book_numbers n) ≡ book_numbers (book_by k (ends_in q a) n))
      → Simulates (is_opening q) m (ends_of (core_with v c) (arrays_at v) o b) (ends_in q a)
  sim-ends a o b given k = record { represents = free v refl refl refl; output = given; booked = λ i n h. k i n }

  pub sim_answer : (a : Answer ℕ) (d : Answer Byte) (b : List ℕ) → plain_answer d ≡ a → Simulates (is_opening q) m (answers_of (core_with v c) (arrays_at v) a b) (ends_in q d)
  sim_answer a d b e = subst (λ x. Simulates (is_opening q) m (answers_of (core_with v c) (arrays_at v) x b) (ends_in q d)) e (go d)
    where
      go : (d : Answer Byte) → Simulates (is_opening q) m (answers_of (core_with v c) (arrays_at v) (plain_answer d) b) (ends_in q d)
      go (done bytes) =
          sim-ends (done bytes) (out.Done (length (map value bytes))) _ (ap (λ l. answers (done l)) (take-append_seam (map value bytes) _))
          (end-booked q (done bytes))
      go (type1 bytes) =
          sim-ends (type1 bytes) (out.Type1 (length (map value bytes))) _ (ap (λ l. answers (type1 l)) (take-append_seam (map value bytes) _))
          (end-booked q (type1 bytes))
      go (uid_and_ats bytes uid ats) =
          sim-ends (uid_and_ats bytes uid ats) (out.UidAndAts (length (map value bytes)) uid ats) _ (ap (λ l. answers (uid_and_ats l uid ats)) (take-append_seam (map value bytes) _))
          (end-booked q (uid_and_ats bytes uid ats))
      go nothing = sim-ends nothing out.Nothing b refl (end-booked q nothing)
      go (refused r) = sim-ends (refused r) (out.Failed r) b refl (end-booked q (refused r))
      go (refused_after r n) = sim-ends (refused_after r n) (out.FailedAfter r n) b refl (end-booked q (refused_after r n))

-- ---- what a call decided leads to what its script has

abbrev pub at_stage : (p : Position) (stage cursor : ℕ) (later found : List ℕ) → nat_le stage last_stage ≡ true → Position
at_stage p stage cursor later found h =
    record {
      call = p.call;
      kind = p.kind;
      stage = stage;
      cursor = cursor;
      pending = later;
      found = found;
      running = p.running;
      opens = p.opens;
      kind_fits = p.kind_fits;
      stage_fits = h;
    }

abbrev pub with_found : (v : Fields) (l : List ℕ) → length l ≤ found_limit → Fields
with_found v l h =
    record {
      command = v.command;
      found = put l v.found;
      pending = v.pending;
      kept = length l;
      exchange = v.exchange;
      pending_fits = v.pending_fits;
      kept_fits = le-leb (length l) found_limit h;
      phase_fits = v.phase_fits;
    }

abbrev pub with_command : (v : Fields) (l : List ℕ) → length l ≤ data_limit → Fields
with_command v l h =
    record {
      command = put l v.command;
      found = v.found;
      pending = length l;
      kept = v.kept;
      exchange = v.exchange;
      pending_fits = le-leb (length l) data_limit h;
      kept_fits = v.kept_fits;
      phase_fits = v.phase_fits;
    }

-- a call of the place's kind, at any of its stages
abbrev call_of : Position → ℕ → ℕ → ℕ → Call
call_of p stage cursor phase = record { kind = p.kind; stage = stage; cursor = cursor; phase = phase }

-- the numbers that a call had are of no account to its next command
same_stage : (v : Fields) (c d k : Call) (b : List ℕ) → stage_of (core_with v c) (arrays_at v) k b ≡ stage_of (core_with v d) (arrays_at v) k b
unfolding stage_of
same_stage v c d k b = refl

module _ (p : Position) (m : Running) where
  -- the command of a stage, from a call at any stage and cursor
  pub stage_sims : (v : Fields) (later found : List ℕ) (n i : ℕ) (h : leb n last_stage ≡ true) (w : Wait (at_stage p n i later found h)) (c : Call) (code clock : ℕ) (bytes b : List ℕ)
      → take v.pending v.command ≡ later → take v.kept v.found ≡ found → command_of p.kind n i later ≡ cmd code clock bytes → call_at _ w ≡ call_of p n i 0
      → Simulates (is_opening p.call) m (stage_of (core_with v c) (arrays_at v) (call_of p n i 0) b)
      (runs_of p.call (write (command_frame code bytes)) (phase_at w (exchange_at sending_phase code clock)))
  unfolding stage_of
  stage_sims v later found n i h w c code clock bytes b e f is-command is =
      let sent : command_of p.kind n i (take v.pending v.command) ≡ cmd code clock bytes = ap (command_of p.kind n i) e ∙ is-command in
      subst (λ k. Simulates (is_opening p.call) m (sends_of (core_with v c) (arrays_at v) k (command_of p.kind n i (take v.pending v.command)) b)
      (runs_of p.call (write (command_frame code bytes)) (phase_at w (exchange_at sending_phase code clock)))) is
      (rw sent (sim_sends v c (is_opening p.call) m _ w code clock bytes b record { pending = e; found = f }))

  pub decision_sims : {later found : List ℕ} {i : ℕ} (v : Fields) (stage phase : ℕ) (d : Decision) (s : Script) (b : List ℕ)
      → take v.pending v.command ≡ later → take v.kept v.found ≡ found → Refines p.kind i later found d s
      → Simulates (is_opening p.call) m (performs_of (core_with v (call_of p stage i phase)) (arrays_at v) d b) (effect p.call (start_script s))
  unfolding performs_of phase_in
  decision_sims {i = i} v stage phase d s b e f (refines_end a c h) = sim_answer v (call_of p stage i phase) p.call m c a b h
  decision_sims v stage phase d s b e f (refines_send n code clock bytes k h q is-command answered failing) =
      stage_sims v _ _ n _ h (reply k q record { answered = answered; failing = failing }) (call_of p stage _ phase) code clock bytes b e f is-command refl
  decision_sims v stage phase d s b e f (refines_reset n r h q is-command l) = stage_sims v _ _ n _ h (reset_reply r q l) (call_of p stage _ phase) reset_mode_code command_clock reset_mode_data b e f is-command refl
  decision_sims v stage phase d s b e f (refines_keep n l s' few k) = decision_sims (with_found v l few) stage phase (send n) s b e (take_put l v.found) k
  decision_sims v stage phase d s b e f (refines_next n j l s' few k) =
      subst (λ a. Simulates (is_opening p.call) m a (effect p.call (start_script s))) (same_stage (with_found v l few) (call_of p stage j phase) (call_of p stage _ phase) (call_of p n j 0) b)
      (decision_sims (with_found v l few) stage phase (send n) s b e (take_put l v.found) k)
  decision_sims v stage phase d s b e f (refines_put n l s' few k) = decision_sims (with_command v l few) stage phase (send n) s b (take_put l v.command) f k
  decision_sims v stage phase d s b e f (refines_pause n r h k) =
      sim_orders v (call_of p stage 0 phase) (is_opening p.call) m (at_stage p n _ _ _ h) (pausing r k) v.exchange (pause field_pause_time) b v.phase_fits
      record { pending = e; found = f } tt

-- ---- an event that a running call meets

module _ (p : Position) (w : Wait p) (v : Fields) (agrees : PositionAgrees p v) where
  abbrev pub SimulatesHere : After Core → Effect → Type 0
  SimulatesHere = Simulates (is_opening p.call) (running_at p w v)

  -- of an event with a packet that is long enough for the response
  abbrev pub Advances : Transitioned → CallResult → Type 0
  Advances mv r =
      (e : Event) (b : List ℕ) → reply_length mv ≤ packet_length e
      → SimulatesHere (admitted_of (core_at p w v) (arrays_at v) mv e b) (event_effect p.call e (length b) r)

  stays : (r : Refusal) (b : List ℕ) → SimulatesHere (unchanged (core_at p w v) (arrays_at v) r b) (unchanged_of r)
  stays r b = sim_unchanged r b (runs p w v agrees refl refl refl)

  pub advances_none : Advances unfitting unfit
  unfolding admitted_of pick
  advances_none e b l = stays OutOfTurn b

  -- buffer and packet are looked at first
  pub advances : (mv : Transitioned) (o : Effect) → fits mv ≡ true → ((b : List ℕ) → reply_length mv ≤ packet_limit → SimulatesHere (transitioned_of (core_at p w v) (arrays_at v) mv b) o)
      → (e : Event) (b : List ℕ) → reply_length mv ≤ packet_length e → SimulatesHere (admitted_of (core_at p w v) (arrays_at v) mv e b) (admitted e (length b) o)
  unfolding admitted_of is_long_of pick
  advances mv o h k e b l =
      rw h
      (sim_pick (nat_lt (length b) buffer_need) (stays ShortBuffer b)
      (λ _. sim_pick (nat_lt packet_limit (packet_length e)) (stays OverLong b) (λ n. k b (omega (arith, l, ltb-false packet_limit (packet_length e) n)))))

  -- a script starts
  pub advances_start : (mv : Transitioned) (s : Script) → fits mv ≡ true → ((b : List ℕ) → reply_length mv ≤ packet_limit → SimulatesHere (transitioned_of (core_at p w v) (arrays_at v) mv b) (effect p.call (start_script s)))
      → Advances mv (start_script s)
  advances_start mv (finish a) h k = advances mv _ h k
  advances_start mv (command code clock bytes n) h k = advances mv _ h k
  advances_start mv (reset s) h k = advances mv _ h k
  advances_start mv (field_pause s) h k = advances mv _ h k

  -- the exchange goes on or ends
  pub advances_exchange : (rest : Rest) → ((x : Exchange) → phase_at w x ≡ exchange (phase_in x) rest)
      → ((r : Reply) → Advances (ended_transition (call_at p w) v.exchange r) (after_reply rest r))
      → (r : ExchangeResult) (n : ℕ) → Good n v.exchange.code v.exchange.clock r → Advances (exchange_transition (call_at p w) v.exchange r) (after_exchange rest r)
  unfolding exchange_transition transitioned_of
  advances_exchange rest is k unfit n g = advances_none
  advances_exchange rest is k (pending o to) n g =
      advances (goes_on_of o (call_at p w) (exchange_in v.exchange to)) _ refl
      (λ b _. rw (sym (is (exchange_in v.exchange to) ∙ ap (λ s. exchange s rest) g.0))
      (sim_orders v (call_at p w) _ _ p w (exchange_in v.exchange to) o b g.1 agrees g.2))
  advances_exchange rest is k (ended r) n g = k r

-- an event, by the kind of order that it answers, of two sides at once
module _ {X Y : Type 0} (P : X → Y → Type 0) {u : X} {v : Y} (none : P u v) where
  pub two_write : {a b : X} {c d : Y} → P a c → P b d → (e : Event) → P (on_write u a b e) (on_write v c d e)
  two_write h k ok = h
  two_write h k bad = k
  two_write h k (pkt p) = none
  two_write h k time = none
  two_write h k fail = none
  two_write h k late = none
  two_write h k slept = none

  pub two_read : {a : List ℕ → X} {t f : X} {b : List ℕ → Y} {y z : Y} → ((p : List ℕ) → P (a p) (b p)) → P t y → P f z → (e : Event)
      → P (on_read u a t f u e) (on_read v b y z v e)
  two_read h k l ok = none
  two_read h k l bad = none
  two_read h k l (pkt p) = h p
  two_read h k l time = k
  two_read h k l fail = l
  two_read h k l late = none
  two_read h k l slept = none

  pub two_pause : {a : X} {b : Y} → P a b → (e : Event) → P (on_pause u a e) (on_pause v b e)
  two_pause h ok = none
  two_pause h bad = none
  two_pause h (pkt p) = none
  two_pause h time = none
  two_pause h fail = none
  two_pause h late = none
  two_pause h slept = h
