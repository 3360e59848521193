use lib.ListN.{take}
use Rattle.bench.specs.Texts.{Appends}
use Rattle.presence_lines.specs.Lines.{cards_text}
use Rattle.presence_lines.proofs.print.put_cards.Given as goal

abbrev pub invariant-loop-card : goal.invariant-loop-card
invariant-loop-card l = Appends l.at (cards_text l.shown (take l.card-index l.cards)) l.initial.out l.next l.out
