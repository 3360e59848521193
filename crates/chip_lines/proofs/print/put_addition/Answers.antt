use Rattle.std.proofs.Common.{rules}
use Rattle.chip_lines.proofs.PrintLaws.{added-prints}
use Rattle.chip_lines.proofs.print.put_addition.Goals as goal

pub returns-in-Ok : goal.returns-in-Ok
returns-in-Ok c = search (added-prints, rules)
