use Rattle.presence_list.specs.Growth.{Grown}
use Rattle.presence_list.specs.Memory.{card_in}
use Rattle.presence_list.specs.Keyed.{without as without_of}
use Rattle.presence_list.proofs.lists.without.Given as goal

abbrev pub invariant-loop-card : goal.invariant-loop-card
invariant-loop-card l = Grown (without_of card_in l.other) l.cards l.card-index l.n l.initial.out l.out
