-- What is reported of a session's numbers and arrays apart is what is reported of the session.
use Rattle.std.specs.Prelude.{◌≡◌, ℕ, List}
use Rattle.std.specs.Prelude.{refl}
use Rattle.std.proofs.Common.{ap, ◌∙◌}
use Rattle.std.proofs.Math.Option.{Option, none, some}
use Rattle.exchange.specs.Exchange.{Event}
use Rattle.engine.specs.Core.{After, arrays}
use Rattle.engine.specs.SessionSteps.{State, effected, arrays_in, state_in, stepped_of}
use Rattle.engine.specs.Inputs.{Input, after_input}
use Rattle.engine.specs.Numbers.{after_event_number}
use Rattle.engine.specs.declared.session.Session.{Session}
use Rattle.engine.specs.declared.running.Progress.{Progress}
use Rattle.session_host.specs.Outcomes.{Reported, report, step_reported, joined, outcome_of}
use Rattle.session_host.specs.Entries.{event_input, report_with}
use Rattle.session_host.specs.declared.outcome.Outcome.{Outcome}

abbrev pub report_after : After State → Reported
report_after a = step_reported (stepped_of a)

reported : (o : Outcome) (e : Progress) (a : After State) (command found frames books b : List ℕ)
    → o ≡ outcome_of e.output → effected e books frames (arrays command found) b ≡ a → report (joined command found frames books e.core) o b ≡ report_after a
reported o e a command found frames books b p h = rw p (ap report_after h)

event_after_lem : (s : Session) (e : Option Event) (b : List ℕ) → report_after (after_event_number (state_in s) (arrays_in s) e b) ≡ report_with s (event_input e b) b
event_after_lem s none b = refl
event_after_lem s (some e) b = refl

pub event_reported : (o : Outcome) (r : Progress) (s : Session) (e : Option Event) (command found frames books b c : List ℕ)
    → o ≡ outcome_of r.output → effected r books frames (arrays command found) c ≡ after_event_number (state_in s) (arrays_in s) e b
    → report (joined command found frames books r.core) o c ≡ report_with s (event_input e b) b
event_reported o r s e command found frames books b c p h = reported o r (after_event_number (state_in s) (arrays_in s) e b) command found frames books c p h ∙ event_after_lem s e b

pub call_reported : (o : Outcome) (r : Progress) (s : Session) (i : Input) (command found frames books b c : List ℕ)
    → o ≡ outcome_of r.output → effected r books frames (arrays command found) c ≡ after_input (state_in s) (arrays_in s) i
    → report (joined command found frames books r.core) o c ≡ report_with s (some i) b
call_reported o r s i command found frames books b c p h = reported o r (after_input (state_in s) (arrays_in s) i) command found frames books c p h
