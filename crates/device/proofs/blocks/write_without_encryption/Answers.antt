use Rattle.device.specs.Blocks.{write_first, thru_clock, write_few}
use Rattle.device.proofs.blocks.write_without_encryption.Goals as goal

pub returns : goal.returns
unfolding write_first
returns c = thru_clock _ _ _ _ _ _ _ _ c.clock-ms.ensures (c.start_built.ensures _ _ _ _ (write_few _ _ _ c.args.command.now _ c.told-command) c.build_write_request-built.ensures)
