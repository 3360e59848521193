use Rattle.presence_lines.proofs.PrintLaws.{bitrate_shown}
use Rattle.presence_lines.proofs.print.put_bitrate.Goals as goal

pub returns-then-shown : goal.returns-then-shown
returns-then-shown c = let w = rw c.from-bitrate.ensures at c.word.ensures in bitrate_shown c.args.card.now _ _ _ _ _ _ _ _ c.if-shown.true c.put-next.ensures c.put.ensures w
