use Rattle.std.proofs.Common.{rules, arith}
use Rattle.stages.specs.Laws.{answers_by_tests, answer_true, answer_false}
use Rattle.chipset.specs.Laws.{answer_rates}
use Rattle.chipset.specs.Responses.{with_length, target_answer}
use Rattle.chipset.proofs.target.tg_get_target_status_response.Goals.{then-send-gt2-via-then-send-gt2, then-send-gt2-via-else-send-gt2+then-receive-gt2}
use Rattle.chipset.proofs.target.tg_get_target_status_response.Goals as goal

pub returns-in_default : goal.returns-in_default
unfolding target_answer with_length
returns-in_default c = search (answers_by_tests, rules) depth 8

pub returns-then-state-ne1 : goal.returns-then-state-ne1
unfolding target_answer with_length
returns-then-state-ne1 c = answer_false _ _ _ _ _ (search (answers_by_tests, rules)) (answer_false _ _ _ _ _ (search (answers_by_tests, rules)) (c.with_rates.ensures _ (omega arith)))

pub returns-then-send-gt2 : goal.returns-then-send-gt2
unfolding target_answer with_length
returns-then-send-gt2 c =
    elim c.then-send-gt2.branch [
      | then-send-gt2-via-then-send-gt2 w ↦ search (answers_by_tests, rules) depth 8
      | then-send-gt2-via-else-send-gt2+then-receive-gt2 w ↦ search (answers_by_tests, rules) depth 8
    ]

pub returns : goal.returns
unfolding target_answer with_length
returns c = answer_false _ _ _ _ _ (search (answers_by_tests, rules)) (answer_true _ _ _ _ _ (search (answers_by_tests, rules)) (answer_false _ _ _ _ _ (search (answers_by_tests, rules)) (answer_false _ _ _ _ _ (search (answers_by_tests, rules)) (answer_rates _ _ _ _ _ _ c.rate.ensures c.rate-2.ensures (c.with_rates-2.ensures _ (omega arith))))))
