-- The lines of the counted steps stand at the buffer's start. The measure: the room that is left, and whether there is an entry.
use Prim.Native.Nat.{◌+◌, ◌-◌, ◌*◌}
use lib.ListN.{length}
use Rattle.acceptance.specs.Steps.{on_entry}
use Rattle.acceptance.specs.PutLinesLaws.{Filling}
use Rattle.acceptance.proofs.lines.put_lines.Given as goal

abbrev pub invariant-loop-entry : goal.invariant-loop-entry
invariant-loop-entry l = Filling l.initial.step l.initial.out l.out l.len l.count l.step

abbrev pub decreases-loop-entry : goal.decreases-loop-entry
decreases-loop-entry l = 2 * (length l.initial.out - l.len) + on_entry l.step
