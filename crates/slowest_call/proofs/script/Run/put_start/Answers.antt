use Rattle.std.proofs.Common.{rules, arith}
use Rattle.slowest_call.proofs.ScriptLaws.{leading-field, start_none, start-put}
use Rattle.slowest_call.proofs.script.Run.put_start.Goals as goal

pub returns-then-self-eq0 : goal.returns-then-self-eq0
returns-then-self-eq0 c = search (start_none, rules)

pub returns : goal.returns
returns c = start-put _ _ _ _ _ _ _ _ c.if-self-eq0.false c.args.self.now.known (leading-field _ _ c.field.ensures (omega arith)) c.put-behind.ensures c.put.ensures
