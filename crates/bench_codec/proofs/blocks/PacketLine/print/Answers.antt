use Rattle.bench.specs.TextLaws.{appended}
use Rattle.bench_codec.proofs.blocks.PacketLine.print.Goals as goal

pub returns : goal.returns
returns c = rw c.in-Ok.ensures.1 (appended _ _ _ _ _ c.put.ensures)
