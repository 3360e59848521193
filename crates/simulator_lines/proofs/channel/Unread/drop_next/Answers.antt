use Rattle.simulator_lines.proofs.RingLaws.{none_behind, next-behind}
use Rattle.simulator_lines.proofs.channel.Unread.drop_next.Goals as goal

pub returns-then-self-gt0 : goal.returns-then-self-gt0
returns-then-self-gt0 c = next-behind c.args.self.now c.if-self-gt0.true

pub returns-else-self-gt0 : goal.returns-else-self-gt0
returns-else-self-gt0 c = none_behind c.args.self.now c.if-self-gt0.false
