use Rattle.std.proofs.Common.{rules}
use Rattle.bench.specs.TextLaws.{both-put}
use Rattle.bench_session.proofs.output.put_named.Goals as goal

pub returns : goal.returns
returns c = search (both-put, rules)
