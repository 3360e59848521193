use native.Mathlib.Omega.{arith}
use Rattle.discovery.specs.Decisions.{poll_decision}
use Rattle.discovery.specs.PollLaws.{poll-done, poll_refused}
use Rattle.discovery.proofs.Tags.{given_bytes, not_ended}
use Rattle.discovery.proofs.poll_type_f.Codes.decided.Goals as goal

pub returns-in-Done : goal.returns-in-Done
returns-in-Done c =
    let d = given_bytes c.args.self.now.found.now c.args.response.now _ c.in-Done.is in
    poll-done _ _ _ _ _ _ _ (c.decided-decision.ensures _) d.0 d.1 (λ long. c.finished.ensures _ (omega (arith, long)) (omega arith))

pub returns-in-Refused : goal.returns-in-Refused
returns-in-Refused c = poll_refused _ _ _ _ _ _ _ (c.decided-decision.ensures _) _ c.in-Refused.is (c.failed.ensures _)

pub returns-in_default : goal.returns-in_default
unfolding poll_decision
returns-in_default c = not_ended _ _ _ _ _ _ c.in_default.not-Done c.in_default.not-Part c.in_default.not-Refused (c.decided-decision.ensures _)
