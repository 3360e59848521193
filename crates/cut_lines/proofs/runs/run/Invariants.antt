use Rattle.std.proofs.Common.{◌<◌, ◌≤◌, List, length}
use Rattle.engine.specs.Relation.{SessionRepresents}
use Rattle.bench_input.specs.Table.{Said}
use Rattle.cut_script.specs.Bench.{bench}
use Rattle.cut_script.specs.Run.{reached}
use Rattle.cut_lines.specs.Runs.{Holds}
use Rattle.cut_lines.proofs.runs.run.Given as goal

abbrev pub invariant-loop-m : goal.invariant-loop-m
invariant-loop-m l =
    (l.from ≤ l.m) × (l.m < length l.entries) × ((xs : List Said) → Holds l.entries l.bytes xs → SessionRepresents l.session (reached bench xs l.from l.m))
