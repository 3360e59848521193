use Rattle.std.proofs.Common.{◌∙◌}
use Rattle.presence_list.specs.Names.{record_size}
use Rattle.presence_list.specs.MemoryLaws.{chunks-pieces}
use lib.ListN.{length}
use Prim.Native.Nat.{◌/◌}
use Rattle.presence_list.proofs.records.records_in.Goals as goal

pub returns : goal.returns
returns c = c.as_chunks.ensures.front ∙ chunks-pieces (length c.args.memory.now / record_size) c.args.memory.now
