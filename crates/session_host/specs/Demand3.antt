-- Demand 3 of the host's entries, and of lists that mix them with the session's own: what is reported is what the engine gives out for
-- its own entries, in the same order.
use Rattle.std.specs.Prelude.{◌≡◌, ℕ, List, [], ◌∷◌}
use Rattle.std.specs.Prelude.{refl}
use Rattle.std.proofs.Common.{ap₂}
use Rattle.std.proofs.Math.Option.{Option, none, some}
use Rattle.protocol.specs.Session.{Output as Given}
use Rattle.protocol.specs.Machine.{Obeys, given_out, state_after}
use Rattle.engine.specs.SessionSteps.{fresh_session}
use Rattle.engine.specs.Inputs.{Input, buffer_of, step_with}
use Rattle.engine.specs.Refinement.{engine, engine_demand3}
use Rattle.engine.specs.declared.session.Session.{Session}
use Rattle.session_host.specs.Outcomes.{Reported}
use Rattle.session_host.specs.Entries.{HostEntry, host_input, buffer_in, report_with}
use Rattle.session_host.specs.Outputs.{output_in, output_is}

-- ---- entries of any kind, each with its engine's entry, if it has one, and the bytes of its buffer

abbrev with_input : Option Input → List Input → List Input
with_input none is = is
with_input (some i) is = i ∷ is

-- the orders and answers that the outcomes and the buffers say, those of the engine's entries
abbrev with_report : Option Input → Reported → List (Given ℕ) → List (Given ℕ)
with_report none r os = os
with_report (some i) r os = output_in r.outcome r.buffer ∷ os

module _ (E : Type 0) (input : E → Option Input) (buffer : E → List ℕ) where
  -- the engine's entries; what has none is left out
  abbrev pub inputs : List E → List Input
  inputs [] = []
  inputs (e ∷ es) = with_input (input e) (inputs es)

  abbrev report_for : Session → E → Reported
  report_for s e = report_with s (input e) (buffer e)

  -- the session behind a list
  abbrev pub session_after : Session → List E → Session
  session_after s [] = s
  session_after s (e ∷ es) = session_after (report_for s e).session es

  abbrev pub reports_for : Session → List E → List (Given ℕ)
  reports_for s [] = []
  reports_for s (e ∷ es) = with_report (input e) (report_for s e) (reports_for (report_for s e).session es)

  -- the list does what the engine's does
  abbrev pub Same : Session → List E → Type 0
  Same s es = (session_after s es ≡ state_after engine s (inputs es)) × (reports_for s es ≡ given_out engine s (inputs es))

  abbrev SameWith : Session → Option Input → Reported → List E → Type 0
  SameWith s i r es =
      (session_after r.session es ≡ state_after engine s (with_input i (inputs es)))
      × (with_report i r (reports_for r.session es) ≡ given_out engine s (with_input i (inputs es)))

  same-with : (s : Session) (i : Option Input) (b : List ℕ) (es : List E) → ((t : Session) → Same t es) → SameWith s i (report_with s i b) es
  same-with s none b es f = f s
  same-with s (some i) b es f =
      let r = step_with s i in
      let e = f r.session in
      (e.0, ap₂ (λ (x : Given ℕ) (xs : List (Given ℕ)). x ∷ xs) (output_is r.output r.buffer) e.1)

  pub same : (es : List E) (s : Session) → Same s es
  same [] s = (refl, refl)
  same (e ∷ es) s = same-with s (input e) (buffer e) es (same es)

  pub record ObeysFor (es : List E) : Type 0 where
    pub session : session_after fresh_session es ≡ state_after engine fresh_session (inputs es)
    pub output : reports_for fresh_session es ≡ given_out engine fresh_session (inputs es)
    pub demand : Obeys engine (inputs es)

  obeys-for : (es : List E) → ObeysFor es
  obeys-for es = record { session = (same es fresh_session).0; output = (same es fresh_session).1; demand = engine_demand3 (inputs es) }

-- ---- the host's entries

abbrev pub HostObeys : List HostEntry → Type 0
HostObeys hs = ObeysFor HostEntry host_input buffer_in hs

-- demand 3 of the host's entries: for every list of them, from a fresh session
pub host_demand3 : (hs : List HostEntry) → HostObeys hs
host_demand3 hs = obeys-for HostEntry host_input buffer_in hs

-- ---- the host's entries and the session's own, in one list

pub data MixedEntry : Type 0 where
  by_host : HostEntry → MixedEntry
  by_session : Input → MixedEntry

abbrev pub mixed_input : MixedEntry → Option Input
mixed_input (by_host h) = host_input h
mixed_input (by_session i) = some i

abbrev pub mixed_buffer : MixedEntry → List ℕ
mixed_buffer (by_host h) = buffer_in h
mixed_buffer (by_session i) = buffer_of i

abbrev pub MixedObeys : List MixedEntry → Type 0
MixedObeys es = ObeysFor MixedEntry mixed_input mixed_buffer es

-- demand 3 of any list of both, from a fresh session
pub mixed_demand3 : (es : List MixedEntry) → MixedObeys es
mixed_demand3 es = obeys-for MixedEntry mixed_input mixed_buffer es
