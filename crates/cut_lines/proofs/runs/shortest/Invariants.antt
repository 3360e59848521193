use Rattle.std.proofs.Common.{◌≡◌, ◌≤◌, List, length}
use mathlib.Core.Option.{some}
use Rattle.bench_input.specs.Table.{Said}
use Rattle.cut_script.specs.Bench.{bench}
use Rattle.cut_script.specs.Loop.{NoneFrom}
use Rattle.cut_lines.specs.Runs.{Holds, last_shown}
use Rattle.cut_lines.proofs.runs.shortest.Given as goal

abbrev pub invariant-loop-i : goal.invariant-loop-i
invariant-loop-i l = (l.i ≤ length l.entries) × ((xs : List Said) → Holds l.entries l.bytes xs → last_shown xs 0 ≡ some l.fault → NoneFrom bench xs l.i)
