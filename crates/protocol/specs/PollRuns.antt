-- Runs from any point on, of the one call and of the single calls: what later lines leave alone, and runs that are over.
use Rattle.std.specs.Prelude.{List}
use Rattle.errors.specs.declared.Refusal.{Refusal}
use Rattle.protocol.specs.Session.{Session, Entry, outputs, session_after}
use Rattle.protocol.specs.Record.{Observed, observe}
use Rattle.protocol.specs.PollList.{refusals_in, Run}

-- ---- a run from any point on

abbrev pub from : Observed → List Refusal → Session → List Entry → Run
from w x s es = record { seen = observe w es (outputs s es); refusals = refusals_in (outputs s es) x; session = session_after s es }
