-- n lines are read, up to the place `at`.
use Rattle.std.proofs.Common.{◌-◌, length}
use Rattle.cut_lines.proofs.ReadLaws.{ReadSoFar}
use Rattle.cut_lines.proofs.entries.read.Given as goal

abbrev pub invariant-loop-at : goal.invariant-loop-at
invariant-loop-at l = ReadSoFar l.script (length l.initial.bytes) l.bytes l.entries l.n l.at

abbrev pub decreases-loop-at : goal.decreases-loop-at
decreases-loop-at l = length l.script - l.at
