use Rattle.std.proofs.Common.{rules}
use Rattle.slowest_call.proofs.ScriptLaws.{acks_none, acks_turn, acks-all}
use Rattle.slowest_call.proofs.script.put_acks.Goals as goal

pub loop-init : goal.loop-init
loop-init c = (acks_none _ _, search rules)

pub loop-preserved : goal.loop-preserved
loop-preserved c = (search (acks_turn, rules), search rules)

pub returns : goal.returns
returns c = search (acks-all, rules)
