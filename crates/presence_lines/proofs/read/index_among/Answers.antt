use native.Mathlib.Omega.{arith}
use Rattle.presence_lines.proofs.ReadLaws.{place-begin, place_found, place-next, place_end}
use Rattle.presence_lines.proofs.read.index_among.Goals as goal

pub loop-i-init : goal.loop-i-init
loop-i-init c = place-begin _ _

pub returns-then-is_exactly : goal.returns-then-is_exactly
returns-then-is_exactly c =
    let h = c.count-i-end.ensures in
    (place_found _ _ _ c.loop-i.invariant _ _ (omega arith) c.word.ensures c.is_exactly.ensures c.if-is_exactly.true, omega arith)

pub loop-i-preserved : goal.loop-i-preserved
loop-i-preserved c = let h = c.count-i-end.ensures in place-next _ _ _ c.loop-i.invariant _ _ (omega arith) c.word.ensures c.is_exactly.ensures c.if-is_exactly.false

pub returns : goal.returns
returns c = let h = c.count-i-end.ensures in place_end _ _ _ c.loop-i.invariant (omega arith) (omega arith)
