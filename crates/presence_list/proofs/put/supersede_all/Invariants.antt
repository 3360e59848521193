use Rattle.presence_list.specs.Fills.{FilledSoFar}
use Rattle.presence_list.proofs.put.supersede_all.Given as goal

abbrev pub invariant-loop-record : goal.invariant-loop-record
invariant-loop-record l = FilledSoFar l.initial.cards l.count l.records l.record-index l.n l.cards
