use Rattle.std.proofs.Common.{arith}
use Rattle.slowest_call.proofs.ScriptLaws.{wait_field, behind-field, run-put}
use Rattle.slowest_call.proofs.script.Run.put_run.Goals as goal

pub returns : goal.returns
returns c =
    run-put _ _ _ _ _ _ _ _ _ _ _ _ (wait_field _ c.args.self.now.known _ _ c.field.ensures (omega arith)) (behind-field _ c.args.self.now.known _ _ c.field-2.ensures (omega arith))
    c.put-waiting.ensures c.put_acks-acked.ensures c.put.ensures
