use Rattle.std.proofs.Common.{rules}
use native.Mathlib.Omega.{arith}
use Prim.Native.Nat.{◌<◌}
use lib.ListN.{length}
use Rattle.stages.specs.Stages.{with_length}
use Rattle.stages.specs.Laws.{decided, decision_true, decision_false, decision_type1}
use Rattle.discovery.specs.Laws.{lays_rid}
use Rattle.discovery.specs.Decisions.{rid_of}
use Rattle.discovery.proofs.type_a.rid.Goals as goal

pub returns : goal.returns
unfolding rid_of with_length
returns c =
    let some : 0 < length c.args.response.now = search rules in
    decision_false _ _ _ _ _ _ (search (decided, rules)) (decision_true _ _ _ _ _ _ (search (decided, rules)) (decision_false _ _ _ _ _ _ (search (decided, rules)) (decision_type1 _ _ _ _ (lays_rid _ _ _ (c.behind.ensures _ _ (omega arith) (omega arith) (λ u v. omega arith))))))
