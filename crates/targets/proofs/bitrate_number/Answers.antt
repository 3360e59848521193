use Rattle.targets.proofs.Laws.{first_none, second_none, third_none, three_digits}
use Rattle.targets.proofs.bitrate_number.Goals as goal

pub returns-in_err-digit : goal.returns-in_err-digit
returns-in_err-digit c = rw c.from_residual.ensures (first_none _ _ _ c.in_err-digit.ensures)

pub returns-in_err-digit-2 : goal.returns-in_err-digit-2
returns-in_err-digit-2 c = rw c.from_residual-in_err-digit-2.ensures (second_none _ _ _ c.in_err-digit-2.ensures)

pub returns-in_err-digit-3 : goal.returns-in_err-digit-3
returns-in_err-digit-3 c = rw c.from_residual-in_err-digit-3.ensures (third_none _ _ _ c.in_err-digit-3.ensures)

pub returns : goal.returns
returns c = rw (c.from.ensures, c.from-2.ensures, c.from-3.ensures) (three_digits _ _ _ _ _ _ c.in_ok-digit.ensures c.in_ok-digit-2.ensures c.in_ok-digit-3.ensures)
