use native.Mathlib.Omega.{arith}
use Rattle.stages.specs.Laws.{decision_after}
use Rattle.discovery.specs.Decisions.{poll_failure}
use Rattle.discovery.proofs.Tags.{not_no_card}
use Rattle.discovery.proofs.poll_type_f.Codes.failed.Goals as goal

pub returns-in-NoCard : goal.returns-in-NoCard
unfolding poll_failure
returns-in-NoCard c = λ b. rw c.in-NoCard.is (c.finished.ensures b (omega arith) (omega arith))

pub returns-in_default : goal.returns-in_default
unfolding poll_failure
returns-in_default c = λ b. rw (not_no_card _ _ c.args.fault c.in_default.not-NoCard) (decision_after _ _ _ _)
