use Rattle.std.proofs.Common.{rules}
use Rattle.bench_input.proofs.ReadLaws.{hex_read, hex_unread, hex-behind, hex_within}
use Rattle.bench_input.proofs.arguments.read_hex.Goals as goal

pub overflow_add-result : goal.overflow_add-result
overflow_add-result c =
    let w = hex_within _ c.args.bytes.now _ c.args.at _ c.requires c.read.ensures _ c.in-Ok.is in search rules

pub returns-in_default-clause-by_index : goal.returns-in_default-clause-by_index
returns-in_default-clause-by_index c =
    hex_unread _ c.args.bytes.now _ c.args.at _ c.requires c.read.ensures _ c.in_default.is

pub returns-clause-by_index : goal.returns-clause-by_index
returns-clause-by_index c =
    hex_read _ c.args.bytes.now _ c.args.at _ c.requires c.read.ensures _ c.in-Ok.is

pub returns-clause-behind : goal.returns-clause-behind
returns-clause-behind c =
    hex-behind _ c.args.bytes.now _ c.args.at _ c.requires c.read.ensures _ c.in-Ok.is
