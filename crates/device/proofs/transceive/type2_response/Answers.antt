use Rattle.std.proofs.Common.{rules, sym, ◌∙◌, arith}
use Rattle.chipset.specs.Laws.{status_good, status_bad}
use Rattle.device.specs.Transceive.{type2_answer, check_known}
use Rattle.stages.specs.Laws.{answers_by_tests, answer_true, answer_false}
use Rattle.device.proofs.transceive.type2_response.Goals as goal

pub returns-in-Err : goal.returns-in-Err
unfolding type2_answer
returns-in-Err c = status_bad _ _ _ (sym c.status.ensures ∙ c.in-Err.is)

pub returns-then-response-le-BARE_LIMIT : goal.returns-then-response-le-BARE_LIMIT
unfolding type2_answer
returns-then-response-le-BARE_LIMIT c = status_good _ _ _ _ (sym c.status.ensures ∙ c.in_default.is) (λ h. answer_false _ _ _ _ _ (search (answers_by_tests, rules)) c.from.ensures)

pub returns-then-check_crc_a : goal.returns-then-check_crc_a
unfolding type2_answer
returns-then-check_crc_a c = status_good _ _ _ _ (sym c.status.ensures ∙ c.in_default.is)
    (λ h. answer_true _ _ _ _ _ (search (answers_by_tests, rules)) (answer_true _ _ _ _ _ (search (check_known, rules)) (c.part.ensures _ (omega arith))))

pub returns-else-check_crc_a : goal.returns-else-check_crc_a
unfolding type2_answer
returns-else-check_crc_a c = status_good _ _ _ _ (sym c.status.ensures ∙ c.in_default.is)
    (λ h. answer_true _ _ _ _ _ (search (answers_by_tests, rules)) (answer_false _ _ _ _ _ (search (check_known, rules)) (search (answers_by_tests, rules))))
