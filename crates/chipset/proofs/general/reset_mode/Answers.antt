use Rattle.std.proofs.Common.{arith}
use Rattle.chipset.specs.Commands.{first_of}
use Rattle.stages.specs.Starts.{short_staged}
use Rattle.chipset.proofs.general.reset_mode.Goals as goal

pub returns : goal.returns
unfolding first_of
returns c = short_staged _ _ _ _ _ (omega arith) (c.staged.ensures _ _ _ c.put_all-n.ensures)
