-- Each event that a running call meets, and each call that begins: the engine does what the definitions say.
use Rattle.std.specs.Prelude.{◌≡◌, ℕ, ◌≤◌, true, false, List, [], length, take, nat_le}
use Rattle.std.proofs.Math.Path.{refl}
use Rattle.std.proofs.Common.{arith}
use Rattle.errors.specs.Choice.{pick}
use Rattle.errors.specs.declared.Fault.{Fault}
use Rattle.errors.specs.declared.Fault.TheVariants.{Transport}
use Rattle.framing.specs.Frames.{ack}
use Rattle.exchange.specs.Packets.{Reply, response, failed}
use Rattle.exchange.specs.Exchange.{Order, write, read, pause, Event, ended, advance}
use Rattle.exchange.specs.Steps.{phase_in}
use Rattle.protocol.specs.Scripts.{Script, refused}
use Rattle.protocol.specs.Device.{device_new}
use Rattle.protocol.specs.Calls.{ReaderCall, opening, reader}
use Rattle.protocol.specs.Starts.{Start, starts, reader_start}
use Rattle.protocol.specs.Session.{by_reply, of_reset, start_script, after_reply, progress, idle, packet_length, admitted, event_effect, started, packet_limit}
use Rattle.protocol.specs.Session.{runs as runs_of}
use Rattle.stages.specs.Stages.{Decision, send, refuse}
use Rattle.stages.specs.Put.{take_put}
use Rattle.stages.specs.Starts as stages
use Rattle.calls.specs.Tables.{is_reset_of, decided_of, failed_of}
use Rattle.calls.specs.Refines.{Refines}
use Rattle.calls.specs.Opening.{opening_script_refines, opening_fails, reset_fails}
use Rattle.calls.specs.Firsts.{start_for}
use Rattle.calls.specs.Starts.{Kind, Starting, refused_now, first, from_stage, reader_begins}
use Rattle.stages.specs.Decided.{response_limit}
use Rattle.engine.specs.Transitions.{exchange_phase, reset_ack_phase, pause_phase, no_call_of, Transitioned, orders as goes_on_of, sends, reset_done, replies, refuses, fits, reply_length, transition_of, over_transition, ended_transition, valid_call}
use Rattle.engine.specs.Core.{stage_of, admitted_of, transitioned_of, performs_of, fails_of, replies_of, event_core, open_core, start_on}
use Rattle.engine.specs.Relation.{Position, Wait, reply, reset_reply, reset_ack, reset_pause, opening_ack, opening_reads, pausing, phase_number, call_at, phase_at, Fields, core_with, arrays_at, PositionAgrees, core_at, free}
use Rattle.engine.specs.Exchanges.{NoCommand, good, reply_short_lem}
use Rattle.engine.specs.Simulation.{Simulates, sim_unchanged, sim_orders, sim_sends, sim_answer, with_command, decision_sims, SimulatesHere, Advances, advances_none, advances, advances_start, advances_exchange, two_write, two_read, two_pause}
use Rattle.protocol.specs.Names.{opening_read_time, reset_pause_time}
use Rattle.calls.specs.Kinds.{first_stage}
use Rattle.device.specs.Kinds.{opening_kind, reset_stage}

-- ---- an event, by what the call waits for

module _ (p : Position) (w : Wait p) (v : Fields) (agrees : PositionAgrees p v) where
  -- an order follows that is no command
  advances-order : (u : Wait p) (o : Order) → NoCommand o
      → (e : Event) (b : List ℕ) → reply_length (goes_on_of o (call_at p u) v.exchange) ≤ packet_length e
      → SimulatesHere p w v agrees (admitted_of (core_at p w v) (arrays_at v) (goes_on_of o (call_at p u) v.exchange) e b)
      (admitted e (length b) (runs_of p.call o (phase_at u v.exchange)))
  unfolding transitioned_of
  advances-order u o k =
      advances p w v agrees (goes_on_of o (call_at p u) v.exchange) _ refl (λ b _. sim_orders v (call_at p w) _ _ p u v.exchange o b v.phase_fits agrees k)

  -- what is decided leads to the script
  advances-decision : (mv : Transitioned) (d : Decision) (s : Script) → fits mv ≡ true
      → ((b : List ℕ) → transitioned_of (core_at p w v) (arrays_at v) mv b ≡ performs_of (core_at p w v) (arrays_at v) d b)
      → (reply_length mv ≤ packet_limit → Refines p.kind p.cursor p.pending p.found d s) → Advances p w v agrees mv (start_script s)
  advances-decision mv d s h is l =
      advances_start p w v agrees mv s h (λ b few. rw (is b) (decision_sims p _ v p.stage _ d s b agrees.pending agrees.found (l few)))

  -- the command of the call's stage follows
  advances-send : (s : Script) → Refines p.kind p.cursor p.pending p.found (send p.stage) s
      → Advances p w v agrees (sends (record { kind = p.kind; stage = p.stage; cursor = p.cursor; phase = exchange_phase })) (start_script s)
  unfolding transitioned_of performs_of
  advances-send s l = advances-decision (sends _) (send p.stage) s refl (λ b. refl) (λ _. l)

  -- a write failed, and the call ends
  advances-failed : (r : Fault) → failed_of p.kind p.stage p.cursor p.pending p.found r ≡ refuse r → Advances p w v agrees (refuses r) (ended (refused r))
  unfolding transitioned_of fails_of performs_of
  advances-failed r h =
      advances p w v agrees (refuses r) _ refl (λ b _. rw (agrees.pending, agrees.found) (rw h (sim_answer v (call_at p w) p.call _ (refused r) (refused r) b refl)))

  -- the reply to a command
  reply-ends : (k : Reply → Script) → is_reset_of p.kind p.stage ≡ false
      → ((cs : List ℕ) → length cs ≤ response_limit → Refines p.kind p.cursor p.pending p.found (decided_of p.kind p.stage p.cursor p.pending p.found cs) (k (response cs)))
      → ((r : Fault) → Refines p.kind p.cursor p.pending p.found (failed_of p.kind p.stage p.cursor p.pending p.found r) (k (failed r)))
      → (r : Reply) → Advances p w v agrees (ended_transition (call_at p w) v.exchange r) (after_reply (by_reply k) r)
  unfolding over_transition transitioned_of replies_of fails_of pick
  reply-ends k h answered failing (response cs) =
      rw h (advances-decision (replies cs) (decided_of p.kind p.stage p.cursor p.pending p.found cs) _ refl (λ b. rw (agrees.pending, agrees.found)) (λ few. answered cs (omega arith)))
  reply-ends k h answered failing (failed r) =
      rw h (advances-decision (refuses r) (failed_of p.kind p.stage p.cursor p.pending p.found r) _ refl (λ b. rw (agrees.pending, agrees.found)) (λ _. failing r))

  -- a reset's exchange ends: ACK follows, whatever came of it
  reset-ends : (s : Script) (u : Wait p) → is_reset_of p.kind p.stage ≡ true → phase_at u v.exchange ≡ Rattle.protocol.specs.Session.reset_ack s → call_at p u ≡ record { kind = p.kind; stage = p.stage; cursor = p.cursor; phase = reset_ack_phase }
      → (r : Reply) → Advances p w v agrees (ended_transition (call_at p w) v.exchange r) (after_reply (of_reset s) r)
  unfolding over_transition pick
  reset-ends s u h is call r = rw h (rw (← is, ← call) (advances-order u (write ack) refl))

event_advances : (p : Position) (w : Wait p) (v : Fields) (agrees : PositionAgrees p v) (e : Event)
    → Advances p w v agrees (transition_of (call_at p w) v.exchange e) (progress (phase_at w v.exchange) e)
unfolding transition_of transitioned_of replies_of pick
event_advances p (reply k h l) v agrees e =
    let w = reply k h l in
    advances_exchange p w v agrees _ (λ x. refl) (reply-ends p w v agrees k h l.answered l.failing) (advance (phase_in v.exchange) e) (packet_length e) (good v.exchange e)
event_advances p (reset_reply s h l) v agrees e =
    let w = reset_reply s h l in
    advances_exchange p w v agrees _ (λ x. refl) (reset-ends p w v agrees s (reset_ack s h l) h refl refl) (advance (phase_in v.exchange) e) (packet_length e) (good v.exchange e)
event_advances p (reset_ack s h l) v agrees e =
    let w = reset_ack s h l in
    two_write (Advances p w v agrees) (advances_none p w v agrees) (advances-order p w v agrees (reset_pause s l) (pause reset_pause_time) tt)
    (advances-failed p w v agrees Transport (reset_fails p.kind p.stage p.cursor p.pending p.found Transport h)) e
event_advances p (reset_pause s l) v agrees e =
    let w = reset_pause s l in
    two_pause (Advances p w v agrees) (advances_none p w v agrees)
    (advances-decision p w v agrees reset_done (decided_of p.kind p.stage p.cursor p.pending p.found []) s refl (λ b. rw (agrees.pending, agrees.found)) (λ _. l)) e
event_advances p (opening_ack s h l) v agrees e =
    let w = opening_ack s h l in
    two_write (Advances p w v agrees) (advances_none p w v agrees) (advances-order p w v agrees (opening_reads s l) (read opening_read_time) tt)
    (advances-failed p w v agrees Transport (opening_fails p.kind p.stage p.cursor p.pending p.found Transport h)) e
event_advances p (opening_reads s l) v agrees e =
    let w = opening_reads s l in
    two_read (Advances p w v agrees) (advances_none p w v agrees) (λ _. advances-order p w v agrees w (read opening_read_time) tt) (advances-send p w v agrees s l) (advances-send p w v agrees s l) e
event_advances p (pausing s l) v agrees e =
    let w = pausing s l in
    two_pause (Advances p w v agrees) (advances_none p w v agrees) (advances-send p w v agrees s l) e

-- ---- the entries

phase_fits_lem : {p : Position} (w : Wait p) → nat_le (phase_number w) pause_phase ≡ true
phase_fits_lem (reply k h l) = refl
phase_fits_lem (reset_reply s h l) = refl
phase_fits_lem (reset_ack s h l) = refl
phase_fits_lem (reset_pause s l) = refl
phase_fits_lem (opening_ack s h l) = refl
phase_fits_lem (opening_reads s l) = refl
phase_fits_lem (pausing s l) = refl

pub call_fits : (p : Position) (w : Wait p) → valid_call (call_at p w) ≡ true
unfolding valid_call
call_fits p w = rw (p.kind_fits, p.stage_fits, phase_fits_lem w)

pub event_sims : (p : Position) (w : Wait p) (v : Fields) (agrees : PositionAgrees p v) (e : Event) (b : List ℕ)
    → SimulatesHere p w v agrees (event_core (core_at p w v) (arrays_at v) e b) (event_effect p.call e (length b) (progress (phase_at w v.exchange) e))
unfolding event_core pick
event_sims p w v agrees e b = rw p.running (event_advances p w v agrees e e b (reply_short_lem (call_at p w) v.exchange e))

-- ---- a call begins

pub open_sims : (v : Fields) (mode : ℕ) (b : List ℕ) → Simulates true idle (open_core (core_with v no_call_of) (arrays_at v) b) (started (opening mode) (starts device_new))
unfolding open_core
open_sims v mode b =
    let u : Fields = record {
      command = v.command;
      found = v.found;
      pending = v.pending;
      kept = 0;
      exchange = v.exchange;
      pending_fits = v.pending_fits;
      kept_fits = refl;
      phase_fits = v.phase_fits;
    } in
    let p : Position = record {
      call = opening mode;
      kind = opening_kind;
      stage = reset_stage;
      cursor = 0;
      pending = take v.pending v.command;
      found = [];
      running = refl;
      opens = refl;
      kind_fits = refl;
      stage_fits = refl;
    } in
    sim_orders u no_call_of true idle p (opening_ack device_new refl (opening_script_refines (take v.pending v.command) [])) v.exchange (write ack) b v.phase_fits
    record { pending = refl; found = refl } refl

abbrev first_position : (q : ReaderCall) (kind : ℕ) (pending found : List ℕ) → Kind kind → Position
first_position q kind pending found h =
    record {
      call = reader q;
      kind = kind;
      stage = first_stage;
      cursor = 0;
      pending = pending;
      found = found;
      running = h.running;
      opens = h.no_opening;
      kind_fits = h.within;
      stage_fits = refl;
    }

start_sims : (v : Fields) (q : ReaderCall) (b : List ℕ) (x : Start) (y : stages.Start) → Starting x y
    → Simulates false idle (start_on (core_with v no_call_of) (arrays_at v) y b) (started (reader q) x)
unfolding start_on phase_in performs_of stage_of
start_sims v q b x y (refused_now r) = sim_unchanged r b (free v refl refl refl)
start_sims v q b x y (first kind code clock bytes k isKind no_reset small awaits) =
    sim_sends (with_command v bytes small) no_call_of false idle (first_position q kind bytes (take v.kept v.found) isKind)
    (reply k no_reset (awaits (take v.kept v.found))) code clock bytes b record { pending = take_put bytes v.command; found = refl }
start_sims v q b x y (from_stage kind later s isKind small l) =
    decision_sims (first_position q kind later (take v.kept v.found) isKind) idle (with_command v later small) 0 0 (send first_stage) s b (take_put later v.command) refl (l (take v.kept v.found))

pub call_sims : (v : Fields) (q : ReaderCall) (b : List ℕ) → Simulates false idle (start_on (core_with v no_call_of) (arrays_at v) (start_for q) b) (started (reader q) (reader_start q))
call_sims v q b = start_sims v q b (reader_start q) (start_for q) (reader_begins q)
