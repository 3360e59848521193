use Rattle.presence_lines.proofs.PrintLaws.{cards_none, cards_turn, cards_all}
use Rattle.presence_lines.proofs.print.put_cards.Goals as goal

pub loop-card-init : goal.loop-card-init
loop-card-init c = cards_none _ c.args.cards.now _ _

pub loop-card-preserved : goal.loop-card-preserved
loop-card-preserved c = cards_turn _ _ c.args.cards.now _ _ _ _ _ _ _ _ c.loop-card-test.true c.loop-card.invariant c.put_card-behind.ensures c.put_bitrate-next.ensures

pub returns : goal.returns
returns c = cards_all _ _ _ _ _ _ _ c.loop-card-test.false c.loop-card.invariant
