use Rattle.std.proofs.Common.{rules}
use Rattle.bench_session.proofs.OutputLaws.{text_bound}
use Rattle.bench_session.proofs.output.print.Goals as goal

pub returns : goal.returns
returns c = let t = text_bound _ _ _ _ _ (search rules) (search rules) c.put_output.ensures in (t.0, t.1, search rules)
