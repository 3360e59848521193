use mathlib.Core.Path.{sym, ◌∙◌}
use native.Mathlib.Omega.{arith}
use Rattle.stages.specs.Laws.{decision_true, decision_false, decision_next, decision_done}
use Rattle.discovery.specs.Decisions.{code_finished}
use Rattle.discovery.specs.PollLaws.{lays_so_far, next_within}
use Rattle.discovery.proofs.poll_type_f.Codes.finished.Goals as goal

pub overflow_add-result : goal.overflow_add-result
overflow_add-result c = omega (arith, next_within _ _ (sym c.has_next.ensures ∙ c.if-has_next.true))

pub returns-then-has_next : goal.returns-then-has_next
unfolding code_finished
returns-then-has_next c = λ b p q.
    let k = c.so_far.ensures in
    decision_true _ _ _ _ _ _ (sym c.has_next.ensures ∙ c.if-has_next.true)
    (decision_next _ _ _ _ _ _ (lays_so_far _ _ _ c.so_far.result _ _ k.0 (c.marked-layout.ensures _ _ k.1 p (omega (arith, k.2, q)))))

pub returns-else-has_next : goal.returns-else-has_next
unfolding code_finished
returns-else-has_next c = λ b p q.
    let k = c.so_far.ensures in
    decision_false _ _ _ _ _ _ (sym c.has_next.ensures ∙ c.if-has_next.false)
    (decision_done _ _ _ _ (lays_so_far _ _ _ c.so_far.result _ _ k.0 (c.marked-layout.ensures _ _ k.1 p (omega (arith, k.2, q)))))
