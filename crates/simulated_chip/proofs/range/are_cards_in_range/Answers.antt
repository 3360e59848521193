use Rattle.std.proofs.Common.{rules, ℕ, ◌*◌, ◌∙◌, arith}
use Rattle.std.proofs.lemmas.Iterator.{YieldsList-from_range}
use Rattle.std.proofs.lemmas.Iterator.Search.{all_from_yields_List}
use Rattle.chip_protocol.specs.Names.{most_cards}
use Rattle.simulated_chip.specs.Memory.{card_size}
use Rattle.simulated_chip.specs.Range.{card_in_range}
use Rattle.simulated_chip.specs.Counted.{all_range}
use Rattle.simulated_chip.proofs.range.are_cards_in_range.Goals as goal

pub returns : goal.returns
returns c =
    all_from_yields_List (λ (i : ℕ). card_in_range (card_size * i) c.args.cards.now) _ _ _ c.all.ensures.ran (YieldsList-from_range 0 most_cards most_cards (cc) (omega arith)) (λ x b q k. search rules)
    ∙ all_range _ most_cards 0
