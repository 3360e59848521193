-- The same of the engine, of the host's entries in C, and of lists that mix them with the session's own: from any session that stands for one of the
-- definitions, and from any that a list leads to from the fresh one.
use Rattle.std.specs.Prelude.{◌≡◌, List, ◌∷◌, ℕ, ◌+◌, ◌≤◌}
use Rattle.std.proofs.Common.{sym, ap, ◌∙◌, subst}
use Rattle.std.proofs.Math.Option.{Option, some}
use Rattle.exchange.specs.Exchange.{Order}
use Rattle.protocol.specs.Calls.{Call}
use Rattle.protocol.specs.Session as Spec
use Rattle.protocol.specs.Session.{fresh, buffer_need, orders}
use Rattle.protocol.specs.Record.{events, idle_reads}
use Rattle.protocol.specs.Machine.{entries, state_after, given_out}
use Rattle.protocol.proofs.Machine.{still_represents}
use Rattle.protocol.specs.Runs.{EventAndRoom, call_entries}
use Rattle.engine.specs.Inputs.{Input}
use Rattle.engine.specs.Refinement.{engine}
use Rattle.engine.specs.SessionSteps.{fresh_session}
use Rattle.session_host.specs.Entries.{HostEntry, host_input, buffer_in}
use Rattle.session_host.specs.Demand3.{inputs, session_after, reports_for, same, MixedEntry, mixed_input, mixed_buffer}
use Rattle.slowest_call.specs.Question.{roomy, events_of}
use Rattle.slowest_call.specs.Kinds.{Kind, kind_of, most, start, slowest}
use Rattle.slowest_call.specs.Machines.{machine_lines, MachineRun}
use Rattle.slowest_call.proofs.Machines.{machine_longest, machine_run}
use Rattle.slowest_call.specs.Hosts.{behind, Longest, LongestReached, IsReported}

module _ (E : Type 0) (input : E → Option Input) (buffer : E → List ℕ) where
  longest : Longest E input buffer
  longest k s m h caller c room es hs e q x outs g =
      let f = same E input buffer hs s in
      rw f.1 (machine_longest engine k s m h caller c room es (inputs E input buffer hs) e q x outs (subst (λ os. os ≡ orders x ∷ outs) f.1 g))

  reached : LongestReached E input buffer
  reached k js =
      let f = same E input buffer js fresh_session in
      let h = still_represents engine fresh_session fresh engine.begins (inputs E input buffer js) in
      longest k (session_after E input buffer fresh_session js) (behind E input buffer js) (subst (λ s. engine.Represents s (behind E input buffer js)) (sym f.0) h)

  is-reported : IsReported E input buffer
  is-reported k extra js hs p q =
      let r = machine_run engine k extra (inputs E input buffer js) (inputs E input buffer hs) p q in
      let f = same E input buffer js fresh_session in
      let g : reports_for E input buffer (session_after E input buffer fresh_session js) hs ≡ given_out engine (state_after engine fresh_session (inputs E input buffer js)) (inputs E input buffer hs) =
      ap (λ t. reports_for E input buffer t hs) f.0 ∙ (same E input buffer hs (state_after engine fresh_session (inputs E input buffer js))).1 in
      record { ended = rw g r.ended; idles = rw g r.idles; all = rw g r.all }

-- of the host's entries, and of both in one list
pub host-run : IsReported HostEntry host_input buffer_in
host-run = is-reported HostEntry host_input buffer_in

pub mixed-run : IsReported MixedEntry mixed_input mixed_buffer
mixed-run = is-reported MixedEntry mixed_input mixed_buffer

pub host-longest : Longest HostEntry host_input buffer_in
host-longest = longest HostEntry host_input buffer_in

pub mixed-longest : Longest MixedEntry mixed_input mixed_buffer
mixed-longest = longest MixedEntry mixed_input mixed_buffer

pub host-reached : LongestReached HostEntry host_input buffer_in
host-reached = reached HostEntry host_input buffer_in

pub mixed-reached : LongestReached MixedEntry mixed_input mixed_buffer
mixed-reached = reached MixedEntry mixed_input mixed_buffer

-- of the engine's own inputs
pub engine-run : (k : Kind) (extra : ℕ) (js is : List Input) → entries engine js ≡ start k
    → entries engine is ≡ call_entries 0 (slowest k).call buffer_need (roomy (events_of (slowest k) extra)) → MachineRun engine k extra (state_after engine fresh_session js) is
engine-run = machine_run engine

pub engine-longest : (k : Kind) (js : List Input) (caller : ℕ) (c : Call) (room : ℕ) (es : List EventAndRoom) (is : List Input) → entries engine is ≡ call_entries caller c room es
    → kind_of c ≡ some k → (x : Order) (outs : List (Spec.Output ℕ)) → given_out engine (state_after engine fresh_session js) is ≡ orders x ∷ outs
    → events (machine_lines engine (state_after engine fresh_session js) (Spec.session_after fresh (entries engine js)) caller c room es is)
    ≤ most k + idle_reads (machine_lines engine (state_after engine fresh_session js) (Spec.session_after fresh (entries engine js)) caller c room es is)
engine-longest k js =
    machine_longest engine k (state_after engine fresh_session js) (Spec.session_after fresh (entries engine js)) (still_represents engine fresh_session fresh engine.begins js)
