use Rattle.std.proofs.Common.{rules}
use Rattle.stages.specs.Stages.{with_length}
use Rattle.discovery.specs.Decisions.{jumped_to}
use native.Mathlib.Omega.{arith}
use Rattle.stages.specs.Laws.{decided, decision_true, decision_false, decision_keep}
use Rattle.discovery.specs.Laws.{decision_partner}
use Rattle.discovery.proofs.dep.jumped.Goals as goal

pub returns : goal.returns
unfolding jumped_to with_length
returns c = λ f. decision_true _ _ _ _ _ _ (search (decided, rules)) (decision_false _ _ _ _ _ _ (search (decided, rules)) (decision_keep _ _ _ _ _ (c.headed-atr_res.ensures f (omega arith) (omega arith) (omega arith))))

pub returns-then-status-ne0 : goal.returns-then-status-ne0
unfolding jumped_to with_length
returns-then-status-ne0 c = λ f. decision_false _ _ _ _ _ _ (search (decided, rules)) (decision_partner _ _ _ _ _ c.byte_or-status.ensures (c.no_partner.ensures f _))
