use Rattle.std.proofs.Common.{◌/◌, ◌%◌, ap, arith}
use Rattle.chipset.specs.Laws.{flagged}
use Rattle.chipset.specs.Responses.{exchange_answer, with_masked_status}
use Rattle.chipset.proofs.initiator.in_data_exchange_response.Goals as goal

pub returns : goal.returns
unfolding exchange_answer with_masked_status
returns c =
    c.with_masked_status.ensures _
    (λ h. flagged _ _ _ _ _ c.saturating_sub.ensures (ap (λ x. x / 64 % 2) c.byte_or.ensures) (λ f. c.tailed-layout.ensures f _ (omega arith) (omega arith) (λ k. omega arith)))
