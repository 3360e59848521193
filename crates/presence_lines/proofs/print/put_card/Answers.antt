use mathlib.Core.Path.{refl}
use Rattle.presence_lines.proofs.PrintLaws.{card-done}
use Rattle.presence_lines.proofs.print.put_card.Goals as goal

pub returns : goal.returns
returns c =
    let w = rw c.from-kind.ensures at c.word.ensures in
    let p = rw c.from-length.ensures at c.prefix.ensures in
    card-done c.args.card.now _ _ _ _ _ _ _ _ _ _ _ _ _ c.put-second.ensures c.put-third.ensures c.put-fourth.ensures c.put.ensures w p refl
