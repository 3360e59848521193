use Rattle.std.proofs.Common.{ap, ◌∙◌, arith, length-take-le}
use Rattle.presence_list.specs.Names.{record_size}
use Rattle.presence_list.specs.MemoryLaws.{length-pieces, first_pieces}
use lib.ListN.{length, take}
use Prim.Native.Nat.{◌/◌}
use Rattle.presence_list.proofs.records.first_records.Goals as goal

pub slice_bounds-result-end : goal.slice_bounds-result-end
slice_bounds-result-end c =
    let n = ap length c.records_in.ensures in
    let p = length-pieces (length c.args.memory.now / record_size) c.args.memory.now in
    let t = length-take-le c.args.count c.records_in.result.now (omega arith) in
    omega arith

pub returns : goal.returns
returns c = ap (take c.args.count) c.records_in.ensures ∙ first_pieces (length c.args.memory.now / record_size) c.args.count c.args.memory.now (omega arith)
