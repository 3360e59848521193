use Rattle.std.proofs.Common.{rules}
use Rattle.std.proofs.lemmas.List.Sorted.{answers_always}
use Rattle.presence_list.specs.Order.{before}
use Rattle.presence_list.specs.Memory.{card_in}
use Rattle.presence_list.specs.Lookups.{ascends_as}
use Rattle.presence_list.proofs.range.are_ascending.Goals as goal

pub returns : goal.returns
returns c =
    ascends_as c.args.cards.now c.is_sorted_by.result
    (c.is_sorted_by.ensures.cases (λ e f. before (card_in e) (card_in f)) (answers_always _ _ _ (λ f a r g k. search rules)))
