use Rattle.std.proofs.Common.{rules, arith}
use Rattle.acceptance.proofs.Theorem.{on_way_start, few_counted, on_way_more, less_left}
use Rattle.short_frames.proofs.main.Goals as goal

pub loop-left-init : goal.loop-left-init
loop-left-init c = (search rules, rw c.first.ensures on_way_start)

pub overflow_sub-left : goal.overflow_sub-left
overflow_sub-left c = few_counted _ _ c.loop-left.invariant.1 _ _ _ c.put_lines-block.ensures

pub loop-left-smaller-then-summed : goal.loop-left-smaller-then-summed
loop-left-smaller-then-summed c = less_left _ _ c.loop-left.invariant.1 _ _ _ c.put_lines-block.ensures (omega arith) (omega arith)

pub loop-left-preserved-then-summed : goal.loop-left-preserved-then-summed
loop-left-preserved-then-summed c = (search rules, on_way_more _ _ c.loop-left.invariant.1 _ _ _ c.put_lines-block.ensures)

pub loop-left-smaller : goal.loop-left-smaller
loop-left-smaller c = less_left _ _ c.loop-left.invariant.1 _ _ _ c.put_lines-block.ensures (omega arith) (omega arith)

pub loop-left-preserved : goal.loop-left-preserved
loop-left-preserved c = (search rules, on_way_more _ _ c.loop-left.invariant.1 _ _ _ c.put_lines-block.ensures)
