use Rattle.std.proofs.Common.{rules}
use Rattle.bench_input.proofs.ReadLaws.{ms_read}
use Rattle.bench_input.proofs.arguments.read_ms.Goals as goal

pub returns : goal.returns
returns c = search (ms_read, rules)
