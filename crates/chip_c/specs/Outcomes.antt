-- What the host is given.
use Rattle.std.specs.Prelude.{Some, None, Ok, Err, List as Seq, ℕ}
use Rattle.errors.specs.Refusals.{numbered}
use Rattle.simulated_chip.specs.Memory.{kind_at}
use Rattle.simulated_chip.specs.Additions.{Addition, ChipAdded, add_card_of, add_reply_of}
use Rattle.simulated_chip.specs.Steps.{Answer, LeftBy, step_of}
use Rattle.simulated_chip.specs.declared.chip.Chip.{Chip}
use Rattle.chip_c.specs.Numbers.{bitrate_by_of}
use Rattle.chip_c.specs.declared.outcome.Outcome.{Outcome}

-- ---- a card or a reply

-- the chip after it, and what came out
pub record Reported : Type 0 where
  pub chip : Chip
  pub outcome : Outcome

abbrev pub report : Chip → Outcome → Reported
report c o = record { chip = c; outcome = o }

abbrev pub addition_outcome : Addition → Outcome
addition_outcome (Ok t) = record { refusal = 0; packet = 0 }
addition_outcome (Err e) = record { refusal = (numbered e).number; packet = 0 }

-- as the chip has it
abbrev pub reported : ChipAdded → Reported
reported r = report r.chip (addition_outcome r.addition)

unfoldable pub card_report : Chip → ℕ → ℕ → Seq ℕ → Seq ℕ → Reported
card_report c kind rate l w = reported (add_card_of c (kind_at kind) (bitrate_by_of kind rate) l w)

unfoldable pub reply_report : Chip → Seq ℕ → Seq ℕ → Reported
reply_report c bytes reply = reported (add_reply_of c bytes reply)

-- ---- a step

pub record ReportedStep : Type 0 where
  pub chip : Chip
  pub outcome : Outcome
  pub buffer : Seq ℕ

abbrev pub report_step : Chip → Outcome → Seq ℕ → ReportedStep
report_step c o b = record { chip = c; outcome = o; buffer = b }

abbrev pub outcome_of : Answer → Outcome
outcome_of (Ok None) = record { refusal = 0; packet = 0 }
outcome_of (Ok (Some n)) = record { refusal = 0; packet = n }
outcome_of (Err e) = record { refusal = (numbered e).number; packet = 0 }

abbrev pub reported_step : LeftBy → ReportedStep
reported_step x = report_step x.step.chip (outcome_of x.step.answer) x.buffer

unfoldable pub step_report : Chip → Seq ℕ → Seq ℕ → ReportedStep
step_report c written b = reported_step (step_of c written b)
