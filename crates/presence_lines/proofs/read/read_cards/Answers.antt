use Rattle.std.proofs.Common.{rules, refl, arith}
use Rattle.presence_lines.proofs.ReadLaws.{filled_none, filled_all, filled_not, filled_more}
use Rattle.presence_lines.proofs.read.read_cards.Goals as goal

pub loop-at-init : goal.loop-at-init
loop-at-init c = (search rules, search rules, search rules, filled_none _ _)

pub returns-in_err-len : goal.returns-in_err-len
returns-in_err-len c = rw c.from_residual.ensures (filled_not _ _ _ _ _ _ c.loop-at.invariant.3 _ _ c.loop-at-test.true c.find-end.ensures.place refl c.in_err-len.ensures)

pub loop-at-preserved : goal.loop-at-preserved
loop-at-preserved c = (
  refl,
  c.find-end.ensures.bounds.1,
  search rules,
  filled_more _ _ _ _ _ _ c.loop-at.invariant.3 _ _ c.loop-at-test.true c.find-end.ensures.place refl _ _ c.in_ok-len.ensures,
)

pub returns : goal.returns
returns c = filled_all _ c.args.line.now _ _ c.loop-at.at _ c.loop-at.invariant.3 (omega arith)
