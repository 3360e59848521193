use Rattle.presence_list.specs.Growth.{Grown}
use Rattle.presence_list.specs.Memory.{aged}
use Rattle.presence_list.proofs.lists.age.Given as goal

abbrev pub invariant-loop-card : goal.invariant-loop-card
invariant-loop-card l = Grown aged l.cards l.card-index l.n l.initial.out l.out
