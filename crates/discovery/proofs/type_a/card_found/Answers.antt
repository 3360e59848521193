use Rattle.std.proofs.Common.{rules}
use Rattle.errors.specs.Rules.{same-value}
use Rattle.stages.specs.Laws.{decision_true, decision_false, decision_keep, decision_done}
use Rattle.discovery.proofs.type_a.card_found.Goals as goal

pub returns-then-is_type2 : goal.returns-then-is_type2
returns-then-is_type2 c = λ f. decision_true _ _ _ _ _ _ (search (same-value, rules)) (decision_keep _ _ _ _ _ (c.card.ensures f))

pub returns-else-is_type2 : goal.returns-else-is_type2
returns-else-is_type2 c = λ f. decision_false _ _ _ _ _ _ (search (same-value, rules)) (decision_done _ _ _ _ (c.card-else-is_type2.ensures f))
