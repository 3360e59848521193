use Rattle.std.proofs.Common.{refl, rules}
use Rattle.bench_input.specs.Table.{table}
use Rattle.bench_input.proofs.read.Goals as goal

pub by_table-requires : goal.by_table-requires
unfolding table
by_table-requires c = (refl, search rules, search rules)
