-- No row before the next one was the row.
use Rattle.std.proofs.Common.{◌≡◌, map, drop}
use Rattle.bench_input.specs.Readings.{row_in}
use Rattle.bench_input.specs.Table.{row_for}
use Rattle.bench_input.proofs.table.find.Given as goal

abbrev pub invariant-loop-row : goal.invariant-loop-row
invariant-loop-row l = row_for (map row_in l.rows) l.name l.n ≡ row_for (map row_in (drop l.row-index l.rows)) l.name l.n
