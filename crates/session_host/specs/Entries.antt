-- The host's entries, and what the host is given for each.
use Rattle.std.specs.Prelude.{ℕ, List}
use Rattle.std.proofs.Math.Option.{Option, none, some}
use Rattle.errors.specs.declared.Refusal.TheVariants.{OutOfTurn}
use Rattle.exchange.specs.Exchange.{Event}
use Rattle.engine.specs.Inputs.{Input, gives, step_with}
use Rattle.calls.specs.Numbers.{call_of}
use Rattle.calls.specs.declared.start.Numbers.{Numbers}
use Rattle.engine.specs.Numbers.{call_input, event_by_of}
use Rattle.engine.specs.declared.session.Session.{Session}
use Rattle.engine.specs.declared.running.Output.TheVariants.{Refused}
use Rattle.session_host.specs.Outcomes.{Reported, report, step_reported, outcome_of}

-- a call or an event as the host gives it: a number, its arguments and the bytes of the buffer
pub data HostEntry : Type 0 where
  host_call : (number : ℕ) (numbers : Numbers) (first second third fourth buffer : List ℕ) → HostEntry
  host_event : (number : ℕ) (packet buffer : List ℕ) → HostEntry

abbrev pub event_input : Option Event → List ℕ → Option Input
event_input none b = none
event_input (some e) b = some (gives e b)

-- the engine's entry; none for an event with a number that has none
abbrev pub host_input : HostEntry → Option Input
host_input (host_call number numbers first second third fourth b) = some (call_input numbers.caller (call_of number numbers first second third fourth) b)
host_input (host_event number packet b) = event_input (event_by_of number packet) b

abbrev pub buffer_in : HostEntry → List ℕ
buffer_in (host_call number numbers first second third fourth b) = b
buffer_in (host_event number packet b) = b

-- what has no entry of the engine is refused as out of turn, and nothing changes
abbrev pub report_with : Session → Option Input → List ℕ → Reported
report_with s none b = report s (outcome_of (Refused OutOfTurn)) b
report_with s (some i) b = step_reported (step_with s i)

abbrev pub report_for : Session → HostEntry → Reported
report_for s h = report_with s (host_input h) (buffer_in h)
