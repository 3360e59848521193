-- The entries left are those behind the steps taken.
use Rattle.std.proofs.Common.{◌≡◌, length}
use Rattle.acceptance.specs.Theorem.{OnWay}
use Rattle.short_frames.proofs.main.Given as goal

abbrev pub invariant-loop-left : goal.invariant-loop-left
invariant-loop-left l = (length l.buffer ≡ 65536) × OnWay l.left l.step

abbrev pub decreases-loop-left : goal.decreases-loop-left
decreases-loop-left l = l.left
