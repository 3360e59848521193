-- The answer is that of the elements still to be looked at.
use Rattle.std.proofs.Common.{◌≡◌, length}
use Rattle.felica.specs.Fields.{is_block_list_of}
use Rattle.felica.proofs.request.is_block_list.Given as goal

abbrev pub invariant-loop-left : goal.invariant-loop-left
invariant-loop-left l = is_block_list_of l.list ≡ is_block_list_of l.left

abbrev pub decreases-loop-left : goal.decreases-loop-left
decreases-loop-left l = length l.left
