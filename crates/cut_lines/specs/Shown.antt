-- What a line shows of a fault, by what the engine gave out.
use Rattle.std.specs.Prelude.{Bool, true, false, Option as Found, Some, None}
use Rattle.std.proofs.Math.Option.{Option, none, some}
use Rattle.errors.specs.Refusals.{numbered, fault_numbered}
use Rattle.errors.specs.declared.Numbered.{Numbered}
use Rattle.engine.specs.declared.running.Output.{Output}
use Rattle.engine.specs.declared.running.Output.TheVariants.{Ack, Command, Read, Drain, Pause, Done, Type1, UidAndAts, Nothing, Failed, FailedAfter, Refused}

abbrev pub shown_in : Found Numbered → Option Numbered
shown_in (Some n) = some n
shown_in None = none

abbrev pub refused_by : Output → Option Numbered
refused_by Ack = none
refused_by (Command n) = none
refused_by (Read ms) = none
refused_by Drain = none
refused_by (Pause us) = none
refused_by (Done n) = none
refused_by (Type1 n) = none
refused_by (UidAndAts n uid ats) = none
refused_by Nothing = none
refused_by (Failed r) = some (fault_numbered r)
refused_by (FailedAfter r n) = some (fault_numbered r)
refused_by (Refused r) = some (numbered r)

abbrev pub at_once_by : Output → Bool
at_once_by Ack = false
at_once_by (Command n) = false
at_once_by (Read ms) = false
at_once_by Drain = false
at_once_by (Pause us) = false
at_once_by (Done n) = false
at_once_by (Type1 n) = false
at_once_by (UidAndAts n uid ats) = false
at_once_by Nothing = false
at_once_by (Failed r) = false
at_once_by (FailedAfter r n) = false
at_once_by (Refused r) = true
