-- What the host is given, in numbers.
use Rattle.std.specs.Prelude.{ℕ, List}
use Rattle.errors.specs.Refusals.{numbered, fault_numbered}
use Rattle.errors.specs.declared.Numbered.{Numbered}
use Rattle.engine.specs.SessionSteps.{Stepped}
use Rattle.engine.specs.declared.running.Core.{Core}
use Rattle.engine.specs.declared.session.Session.{Session}
use Rattle.engine.specs.declared.running.Output.{Output}
use Rattle.engine.specs.declared.running.Output.TheVariants.{Ack, Command, Read, Drain, Pause, Done, Type1, UidAndAts, Nothing, Failed, FailedAfter, Refused}
use Rattle.session_host.specs.declared.outcome.Outcome.{Outcome}
use Rattle.framing.specs.Names.{ack_size}

-- the kinds of an outcome
abbrev pub write_outcome : ℕ
write_outcome = 0

abbrev pub read_outcome : ℕ
read_outcome = 1

abbrev pub drain_outcome : ℕ
drain_outcome = 2

abbrev pub pause_outcome : ℕ
pause_outcome = 3

abbrev pub done_outcome : ℕ
done_outcome = 4

abbrev pub type1_outcome : ℕ
type1_outcome = 5

abbrev pub none_outcome : ℕ
none_outcome = 6

abbrev pub refused_outcome : ℕ
refused_outcome = 7

abbrev pub list_refused_outcome : ℕ
list_refused_outcome = 8

abbrev pub uid_and_ats_outcome : ℕ
uid_and_ats_outcome = 9

abbrev pub refused_at_once_outcome : ℕ
refused_at_once_outcome = 10

-- a kind with a number of bytes, and one with a time
abbrev pub bytes_outcome : ℕ → ℕ → Outcome
bytes_outcome kind n = record { kind = kind; refusal = 0; status = 0; status2 = 0; finished = 0; uid = 0; ats = 0; time = 0; len = n }

abbrev pub time_outcome : ℕ → ℕ → Outcome
time_outcome kind t = record { kind = kind; refusal = 0; status = 0; status2 = 0; finished = 0; uid = 0; ats = 0; time = t; len = 0 }

-- an answer's bytes, with the lengths of the UID and the ATS among them
abbrev pub lengths_outcome : ℕ → ℕ → ℕ → Outcome
lengths_outcome n uid ats = record { kind = uid_and_ats_outcome; refusal = 0; status = 0; status2 = 0; finished = 0; uid = uid; ats = ats; time = 0; len = n }

-- a refusal by its number, the status byte of 15 and the status flags of 20, and of a list the number of its codes that were finished
abbrev pub refusal_outcome : ℕ → Numbered → ℕ → Outcome
refusal_outcome kind n finished = record { kind = kind; refusal = n.number; status = n.status; status2 = n.status2; finished = finished; uid = 0; ats = 0; time = 0; len = 0 }

abbrev pub outcome_of : Output → Outcome
outcome_of Ack = bytes_outcome write_outcome ack_size
outcome_of (Command n) = bytes_outcome write_outcome n
outcome_of (Read ms) = time_outcome read_outcome ms
outcome_of Drain = bytes_outcome drain_outcome 0
outcome_of (Pause us) = time_outcome pause_outcome us
outcome_of (Done n) = bytes_outcome done_outcome n
outcome_of (Type1 n) = bytes_outcome type1_outcome n
outcome_of (UidAndAts n uid ats) = lengths_outcome n uid ats
outcome_of Nothing = bytes_outcome none_outcome 0
outcome_of (Failed e) = refusal_outcome refused_outcome (fault_numbered e) 0
outcome_of (FailedAfter e finished) = refusal_outcome list_refused_outcome (fault_numbered e) finished
outcome_of (Refused e) = refusal_outcome refused_at_once_outcome (numbered e) 0

-- a session of its parts
abbrev pub joined : List ℕ → List ℕ → List ℕ → List ℕ → Core → Session
joined command found frames books core = record { command = command; found = found; frames = frames; books = books; core = core }

-- the session and the buffer after an entry, and what came out
pub record Reported : Type 0 where
  pub session : Session
  pub outcome : Outcome
  pub buffer : List ℕ

abbrev pub report : Session → Outcome → List ℕ → Reported
report s o b = record { session = s; outcome = o; buffer = b }

abbrev pub step_reported : Stepped → Reported
step_reported r = report r.session (outcome_of r.output) r.buffer
