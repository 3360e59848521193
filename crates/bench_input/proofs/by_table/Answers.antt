use Rattle.std.proofs.Common.{◌∙◌}
use Rattle.bench_input.proofs.TableLaws.{row_length}
use Rattle.bench_input.proofs.by_table.Goals as goal

pub read-requires : goal.read-requires
read-requires c = (c.requires.1, c.requires.2, row_length _ _ _ _ c.in_ok-letters.ensures ∙ c.count.ensures)
