use Rattle.std.proofs.Common.{refl, arith}
use Rattle.presence_lines.proofs.RoundLaws.{one_word, another_word, no_number, no_cards, round_said}
use Rattle.presence_lines.proofs.read.read_line.Goals as goal

pub returns-then-n-end : goal.returns-then-n-end
returns-then-n-end c = (one_word _ _ c.find-end.ensures.place c.if-n-end.true, omega arith)

pub returns-in_err-number : goal.returns-in_err-number
returns-in_err-number c = rw c.from_residual.ensures (
  no_number _ _ c.find-end.ensures.place c.if-n-end.false _ c.find-second.ensures.place _ c.is_exactly.ensures _ c.if-is_exactly.true refl c.in_err-number.ensures,
  omega arith,
)

pub returns-in_err-len : goal.returns-in_err-len
returns-in_err-len c = rw c.from_residual-in_err-len.ensures (
  no_cards _ _ c.find-end.ensures.place c.if-n-end.false _ c.find-second.ensures.place _ c.is_exactly.ensures _ c.if-is_exactly.true refl _ c.in_ok-number.ensures c.in_err-len.ensures,
  omega arith,
)

pub returns-then-is_exactly : goal.returns-then-is_exactly
returns-then-is_exactly c =
    round_said _ _ c.find-end.ensures.place c.if-n-end.false _ c.find-second.ensures.place _ c.is_exactly.ensures _ c.if-is_exactly.true refl
    _ c.in_ok-number.ensures _ _ _ c.in_ok-len.ensures c.requires.0 c.requires.1

pub returns : goal.returns
returns c = (another_word _ _ c.find-end.ensures.place c.if-n-end.false _ refl _ c.is_exactly.ensures c.if-is_exactly.false, omega arith)
