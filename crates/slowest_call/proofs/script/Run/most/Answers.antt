use Rattle.std.proofs.Common.{rules, arith}
use Rattle.slowest_call.proofs.ScriptLaws.{most-field, most-value, most_there}
use Rattle.slowest_call.proofs.script.Run.most.Goals as goal

pub returns-in_default : goal.returns-in_default
returns-in_default c =
    absurd (most_there _ c.args.self.now.known _ _ (most-field _ c.args.self.now.known _ _ c.field.ensures (omega arith)) c.read.ensures c.in_default.is)

pub returns : goal.returns
returns c = (most-value _ c.args.self.now.known _ _ (most-field _ c.args.self.now.known _ _ c.field.ensures (omega arith)) c.read.ensures _ c.in-Some.is, search rules)
