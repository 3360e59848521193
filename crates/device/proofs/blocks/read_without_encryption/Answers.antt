use Rattle.device.specs.Blocks.{read_first, thru_clock, read_few}
use Rattle.device.proofs.blocks.read_without_encryption.Goals as goal

pub returns : goal.returns
unfolding read_first
returns c = thru_clock _ _ _ _ _ _ _ _ c.clock-ms.ensures (c.start_built.ensures _ _ _ _ (read_few _ _ c.args.command.now _ c.told-command) c.build_read_request-built.ensures)
