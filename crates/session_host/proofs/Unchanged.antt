-- Refusals of the host's entries, of any session: one at once changes neither session nor buffer; that of a call that ran, a list's too, ends it,
-- leaves the buffer as it was and the session free.
use Rattle.std.specs.Prelude.{◌≡◌, ℕ, ◌≤◌, true, false, List}
use Rattle.std.proofs.Common.{true≢false, ap, arith}
use Rattle.std.specs.Prelude.{refl}
use Rattle.std.proofs.Math.Option.{Option, none, some}
use Rattle.exchange.specs.Exchange.{Event}
use Rattle.protocol.specs.Calls.{Call, opening, reader}
use Rattle.engine.specs.Inputs.{Input, opens, asks, gives, buffer_of, step_with}
use Rattle.calls.specs.Numbers.{call_of}
use Rattle.engine.specs.Numbers.{call_input, event_by_of}
use Rattle.engine.specs.SessionSteps.{state_in, is_free}
use Rattle.engine.specs.Unchanged.{refused_unchanged, refused_ends, list_ends}
use Rattle.engine.specs.declared.session.Session.{Session}
use Rattle.engine.specs.declared.running.Output.{Output}
use Rattle.engine.specs.declared.running.Output.TheVariants.{Ack, Command, Read, Drain, Pause, Done, Type1, UidAndAts, Nothing, Failed, FailedAfter, Refused}
use Rattle.session_host.specs.Outcomes.{Reported, report, step_reported, list_refused_outcome, refused_at_once_outcome, outcome_of}
use Rattle.session_host.specs.Outputs.{fault_is}
use Rattle.session_host.specs.Entries.{HostEntry, host_call, host_event, buffer_in, event_input, report_with, report_for}
use Rattle.session_host.specs.Unchanged.{RefusedUnchanged, refuses}

module _ (s : Session) (b : List ℕ) (r : Reported) where
  at_once_lem : r.outcome.kind ≡ refused_at_once_outcome → (r.session ≡ s) × (r.buffer ≡ b) → RefusedUnchanged s b r
  at_once_lem k same = record { at_once = λ _. same; ended = λ e. absurd (omega (arith, k, e)); listed = λ e. absurd (omega (arith, k, e)); first_six = λ l h. k }

  later : r.outcome.kind ≤ list_refused_outcome → 7 ≤ r.outcome.refusal → (is_free (state_in r.session) ≡ true) × (r.buffer ≡ b) → RefusedUnchanged s b r
  later k n free = record { at_once = λ e. absurd (omega (arith, k, e)); ended = λ _. free; listed = λ _. free; first_six = λ l h. absurd (omega (arith, n, h)) }

  -- an order or an answer
  other : refuses r.outcome.kind ≡ false → r.outcome.refusal ≡ 0 → RefusedUnchanged s b r
  other k n = record {
    at_once = λ e. absurd (true≢false (rw e at k));
    ended = λ e. absurd (true≢false (rw e at k));
    listed = λ e. absurd (true≢false (rw e at k));
    first_six = λ l h. absurd (omega (arith, n, l));
  }

module _ (s : Session) (i : Input) where
  by-output : (o : Output) → (step_with s i).output ≡ o → RefusedUnchanged s (buffer_of i) (report (step_with s i).session (outcome_of o) (step_with s i).buffer)
  by-output Ack e = other _ _ _ refl refl
  by-output (Command n) e = other _ _ _ refl refl
  by-output (Read ms) e = other _ _ _ refl refl
  by-output Drain e = other _ _ _ refl refl
  by-output (Pause us) e = other _ _ _ refl refl
  by-output (Done n) e = other _ _ _ refl refl
  by-output (Type1 n) e = other _ _ _ refl refl
  by-output (UidAndAts n uid ats) e = other _ _ _ refl refl
  by-output Nothing e = other _ _ _ refl refl
  by-output (Failed r) e = later _ _ _ (omega arith) (fault_is r).1 (refused_ends s i r e)
  by-output (FailedAfter r n) e = later _ _ _ (omega arith) (fault_is r).1 (list_ends s i r n e)
  by-output (Refused r) e = let same = refused_unchanged s i r e in at_once_lem _ _ _ refl (ap (λ x. x.session) same, ap (λ x. x.buffer) same)

  step-unchanged : RefusedUnchanged s (buffer_of i) (step_reported (step_with s i))
  step-unchanged = by-output (step_with s i).output refl

call_unchanged : (s : Session) (k : ℕ) (c : Call) (b : List ℕ) → RefusedUnchanged s b (step_reported (step_with s (call_input k c b)))
call_unchanged s k (opening mode) b = step-unchanged s (opens k mode b)
call_unchanged s k (reader c) b = step-unchanged s (asks k c b)

event_unchanged : (s : Session) (e : Option Event) (b : List ℕ) → RefusedUnchanged s b (report_with s (event_input e b) b)
event_unchanged s none b = at_once_lem s b _ refl (refl, refl)
event_unchanged s (some e) b = step-unchanged s (gives e b)

-- for every session and every entry
pub host_refusals : (s : Session) (h : HostEntry) → RefusedUnchanged s (buffer_in h) (report_for s h)
host_refusals s (host_call number numbers first second third fourth b) = call_unchanged s numbers.caller (call_of number numbers first second third fourth) b
host_refusals s (host_event number packet b) = event_unchanged s (event_by_of number packet) b

-- document 01's sentence, by its numbers: refusals 1 to 6 change neither session nor buffer
pub first_six_unchanged : (s : Session) (h : HostEntry) → 1 ≤ (report_for s h).outcome.refusal → (report_for s h).outcome.refusal ≤ 6
    → ((report_for s h).session ≡ s) × ((report_for s h).buffer ≡ buffer_in h)
first_six_unchanged s h low high = (host_refusals s h).at_once ((host_refusals s h).first_six low high)
