use Rattle.std.proofs.Common.{refl}
use Rattle.simulated_chip.specs.Counted.{list_from}
use Rattle.simulator_lines.proofs.channel.Unread.nothing.Goals as goal

pub returns : goal.returns
unfolding list_from
returns c = refl
