-- What the host is given for a round.
use Rattle.std.specs.Prelude.{List as Seq, ℕ, Result, Ok, Err}
use Rattle.errors.specs.Refusals.{round_numbered}
use Rattle.errors.specs.declared.RoundRefusal.{RoundRefusal}
use Rattle.presence_list.specs.declared.list.Presence.{Presence}
use Rattle.presence_list.specs.declared.list.Counts.{Counts}
use Rattle.presence_list.specs.Steps.{Rounded, round_of}
use Rattle.presence_c.specs.declared.outcome.Outcome.{Outcome}

-- the list after a round, and what came out
pub record Reported : Type 0 where
  pub list : Presence
  pub outcome : Outcome

abbrev pub report : Presence → Outcome → Reported
report l o = record { list = l; outcome = o }

abbrev pub outcome_of : Result Counts RoundRefusal → Outcome
outcome_of (Ok c) = record { refusal = 0; arrived = c.arrived; departed = c.departed }
outcome_of (Err e) = record { refusal = (round_numbered e).number; arrived = 0; departed = 0 }

-- of a list and an answer
abbrev pub reported : Rounded → Reported
reported r = report r.list (outcome_of r.answer)

unfoldable pub report_for : Presence → ℕ → Seq ℕ → Reported
report_for l n b = reported (round_of l n b)
