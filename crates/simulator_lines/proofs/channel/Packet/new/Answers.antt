use Rattle.std.proofs.Common.{rules}
use Rattle.simulator_lines.proofs.RingLaws.{kept-packet}
use Rattle.simulator_lines.proofs.channel.Packet.new.Goals as goal

pub returns : goal.returns
returns c = kept-packet _ _ _ _ _ c.prefix-packet.ensures (search rules) c.put.ensures
