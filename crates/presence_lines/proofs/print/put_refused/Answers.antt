use Rattle.presence_lines.proofs.PrintLaws.{refused_done}
use Rattle.presence_lines.proofs.print.put_refused.Goals as goal

pub returns : goal.returns
returns c = let d = rw c.from.ensures at c.put_decimal.ensures in refused_done c.args.refusal _ _ _ _ _ _ c.from-numbered.ensures c.put-at.ensures d
