use Rattle.std.proofs.Common.{take}
use Rattle.std.specs.List.{flat_map}
use Rattle.stages.specs.Put.{Puts}
use Rattle.stages.proofs.put.put_all.Given as goal

abbrev pub invariant-loop-list : goal.invariant-loop-list
invariant-loop-list l = Puts l.command l.n (flat_map (λ p. p.now) (take l.list-index l.lists)) l.fn.command
