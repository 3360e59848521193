-- The state relation: which running call, and which session of the definitions, the engine's numbers and arrays represent.
use Rattle.std.specs.Prelude.{◌≡◌, ℕ, true, false, List, [], take, ◌==◌, nat_eq, nat_le}
use Rattle.exchange.specs.Packets.{Reply}
use Rattle.exchange.specs.Steps.{phase_in, draining_phase}
use Rattle.exchange.specs.declared.Exchange.{Exchange}
use Rattle.protocol.specs.Scripts.{Script}
use Rattle.protocol.specs.Calls.{Call as CallOf, is_opening}
use Rattle.protocol.specs.Session.{by_reply, of_reset, Phase, exchange, Running, idle, busy}
use Rattle.protocol.specs.Session as Spec
use Rattle.stages.specs.Stages.{send}
use Rattle.calls.specs.Tables.{is_reset_of, decided_of}
use Rattle.calls.specs.Refines.{Refines, Awaits}
use Rattle.stages.specs.Decided.{found_limit}
use Rattle.protocol.specs.Starts.{data_limit}
use Rattle.engine.specs.Booking.{book_numbers, Bounded}
use Rattle.engine.specs.Core.{Arrays, arrays}
use Rattle.engine.specs.Transitions.{exchange_phase, reset_ack_phase, reset_pause_phase, opening_ack_phase, opening_reads_phase, pause_phase, no_call_of}
use Rattle.engine.specs.SessionSteps.{arrays_in, state_in}
use Rattle.engine.specs.declared.call.Call.{Call}
use Rattle.engine.specs.declared.running.Core.{Core}
use Rattle.engine.specs.declared.session.Session.{Session}
use Rattle.calls.specs.Kinds.{no_call_kind, last_kind, last_stage}
use Rattle.device.specs.Kinds.{opening_kind}

-- where a call stands: its kind, stage and cursor, its pending command and its found bytes
pub record Position : Type 0 where
  pub call : CallOf
  pub kind : ℕ
  pub stage : ℕ
  pub cursor : ℕ
  pub pending : List ℕ
  pub found : List ℕ
  pub running : nat_eq kind no_call_kind ≡ false
  pub opens : nat_eq kind opening_kind ≡ is_opening call
  pub kind_fits : nat_le kind last_kind ≡ true
  pub stage_fits : nat_le stage last_stage ≡ true

-- what it waits for, and the script that is left: a command's reply, a reset's exchange, ACK or pause, or what comes before the command of
-- its stage, the opening's ACK or reads, or a pause
pub data Wait (p : Position) : Type 0 where
  reply : (k : Reply → Script) → is_reset_of p.kind p.stage ≡ false → Awaits p.kind p.stage p.cursor p.pending p.found k → Wait p
  reset_reply : (s : Script) → is_reset_of p.kind p.stage ≡ true → Refines p.kind p.cursor p.pending p.found (decided_of p.kind p.stage p.cursor p.pending p.found []) s → Wait p
  reset_ack : (s : Script) → is_reset_of p.kind p.stage ≡ true → Refines p.kind p.cursor p.pending p.found (decided_of p.kind p.stage p.cursor p.pending p.found []) s → Wait p
  reset_pause : (s : Script) → Refines p.kind p.cursor p.pending p.found (decided_of p.kind p.stage p.cursor p.pending p.found []) s → Wait p
  opening_ack : (s : Script) → (p.kind == opening_kind) ≡ true → Refines p.kind p.cursor p.pending p.found (send p.stage) s → Wait p
  opening_reads : (s : Script) → Refines p.kind p.cursor p.pending p.found (send p.stage) s → Wait p
  pausing : (s : Script) → Refines p.kind p.cursor p.pending p.found (send p.stage) s → Wait p

abbrev pub phase_number : {p : Position} → Wait p → ℕ
phase_number (reply k h l) = exchange_phase
phase_number (reset_reply s h l) = exchange_phase
phase_number (reset_ack s h l) = reset_ack_phase
phase_number (reset_pause s l) = reset_pause_phase
phase_number (opening_ack s h l) = opening_ack_phase
phase_number (opening_reads s l) = opening_reads_phase
phase_number (pausing s l) = pause_phase

abbrev pub call_at : (p : Position) → Wait p → Call
call_at p w = record { kind = p.kind; stage = p.stage; cursor = p.cursor; phase = phase_number w }

abbrev pub phase_at : {p : Position} → Wait p → Exchange → Phase
phase_at (reply k h l) x = exchange (phase_in x) (by_reply k)
phase_at (reset_reply s h l) x = exchange (phase_in x) (of_reset s)
phase_at (reset_ack s h l) x = Spec.reset_ack s
phase_at (reset_pause s l) x = Spec.reset_pause s
phase_at (opening_ack s h l) x = Spec.opening_ack s
phase_at (opening_reads s l) x = Spec.opening_reads s
phase_at (pausing s l) x = Spec.field_pausing s

-- ---- the other numbers, and the arrays

pub record Fields : Type 0 where
  pub command : List ℕ
  pub found : List ℕ
  pub pending : ℕ
  pub kept : ℕ
  pub exchange : Exchange
  pub pending_fits : nat_le pending data_limit ≡ true
  pub kept_fits : nat_le kept found_limit ≡ true
  pub phase_fits : nat_le exchange.phase draining_phase ≡ true

abbrev pub core_with : Fields → Call → Core
core_with v c = record { command = v.pending; found = v.kept; exchange = v.exchange; call = c }

abbrev pub arrays_at : Fields → Arrays
arrays_at v = arrays v.command v.found

-- the pending command and the found bytes are those of the place
pub record PositionAgrees (p : Position) (v : Fields) : Type 0 where
  pub pending : take v.pending v.command ≡ p.pending
  pub found : take v.kept v.found ≡ p.found

abbrev pub core_at : (p : Position) → Wait p → Fields → Core
core_at p w v = core_with v (call_at p w)

abbrev pub running_at : (p : Position) → Wait p → Fields → Running
running_at p w v = busy p.call (phase_at w v.exchange)

-- the running call of the definitions that the numbers and the arrays represent
pub data Represents (s : Core) (f : Arrays) (m : Running) : Type 0 where
  free : (v : Fields) → s ≡ core_with v no_call_of → f ≡ arrays_at v → m ≡ idle → Represents s f m
  runs : (p : Position) (w : Wait p) (v : Fields) → PositionAgrees p v → s ≡ core_at p w v → f ≡ arrays_at v → m ≡ running_at p w v → Represents s f m

-- the session of the definitions that a session's fields represent
pub record SessionRepresents (s : Session) (m : Spec.Session) : Type 0 where
  pub call : Represents s.core (arrays_in s) m.running
  pub booked : (state_in s).books ≡ book_numbers m.books
  pub bounded : Bounded m.books
