use Rattle.std.proofs.Common.{◌∙◌}
use Rattle.exchange.specs.Responses.{responds, by_payload}
use Rattle.exchange.proofs.Found.{fails_too}
use Rattle.exchange.proofs.checked_payload.Goals as goal

pub returns-in_err-payload : goal.returns-in_err-payload
returns-in_err-payload c = fails_too _ _ _ _ c.from_residual.ensures.1 (c.in_err-payload.ensures _)

pub returns-in_err-check_payload : goal.returns-in_err-check_payload
returns-in_err-check_payload c =
    fails_too _ _ _ _ c.from_residual-in_err-check_payload.ensures.1 (by_payload _ _ _ c.in_ok-payload.ensures ∙ rw c.code_of.ensures at c.in_err-check_payload.ensures)

pub returns : goal.returns
returns c = responds _ _ _ c.in_ok-payload.ensures (rw c.code_of.ensures at c.in_ok-check_payload.ensures)
