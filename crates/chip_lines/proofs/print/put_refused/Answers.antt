use Rattle.chip_lines.proofs.PrintLaws.{refused_prints}
use Rattle.chip_lines.proofs.print.put_refused.Goals as goal

pub returns : goal.returns
returns c = refused_prints c.args.refusal c.from.result _ _ _ _ _ c.from.ensures c.put-at.ensures (rw c.from-2.ensures at c.put_decimal.ensures)
