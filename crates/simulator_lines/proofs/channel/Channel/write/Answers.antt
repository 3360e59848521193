use Rattle.std.proofs.Common.{rules, refl}
use Rattle.simulator_lines.proofs.PlayLaws.{none_sent, both_sent}
use Rattle.simulator_lines.proofs.channel.Channel.write.Goals as goal

pub returns-in-Some : goal.returns-in-Some
returns-in-Some c = λ l h.
    both_sent c.args.self.now _ _ _ _ _ l c.step.ensures refl h _ c.unwrap_or-sent.ensures c.in-Some.n _ _ _ c.in-Some.is c.prefix.ensures (search rules) c.push.ensures c.push-in-Some.ensures

pub returns-in_default : goal.returns-in_default
returns-in_default c = λ l h. none_sent c.args.self.now _ _ _ _ _ l c.step.ensures refl h _ c.unwrap_or-sent.ensures c.in_default.is
