use Rattle.std.proofs.Common.{arith}
use Rattle.errors.specs.Refusals.{returned}
use Rattle.crc.proofs.Ends.{written}
use Rattle.crc.proofs.Kind.add.Goals as goal

pub returns : goal.returns
unfolding returned
returns c = written _ _ _ (omega arith) _ _ c.of-crc.result c.copy.ensures.after c.of-crc.ensures (rw c.to_le_bytes.ensures at c.copy-2.ensures.after)
