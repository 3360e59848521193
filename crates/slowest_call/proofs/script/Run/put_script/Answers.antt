use Rattle.slowest_call.proofs.ScriptLaws.{script-put}
use Rattle.slowest_call.proofs.script.Run.put_script.Goals as goal

pub returns : goal.returns
returns c = script-put _ _ _ _ _ _ _ _ _ _ _ _ c.most.ensures.0 c.put_decimal-counted.ensures c.put-spaced.ensures c.put_start-started.ensures c.put_run.ensures
