use Rattle.chip_lines.proofs.AnswerLaws.{fresh_answers}
use Rattle.chip_lines.proofs.PrintLaws.{ok_prints}
use Rattle.chip_lines.proofs.fresh_line.Goals as goal

pub returns : goal.returns
returns c = fresh_answers c.args.chip.now _ _ _ _ c.fresh-chip.ensures (ok_prints _ _ _ c.put.ensures)
