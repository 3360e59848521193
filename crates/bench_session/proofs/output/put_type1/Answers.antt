use Rattle.std.proofs.Common.{rules}
use Rattle.bench_session.proofs.OutputLaws.{type1_done}
use Rattle.bench_session.proofs.output.put_type1.Goals as goal

pub returns : goal.returns
returns c = search (type1_done, rules) depth 8
