use Rattle.std.proofs.Common.{rules}
use Rattle.bench_session.proofs.OutputLaws.{texts}
use Rattle.bench_session.proofs.output.put_output.Goals as goal

pub returns-in-Drain : goal.returns-in-Drain
returns-in-Drain c = search (texts, rules)

pub returns-in-Nothing : goal.returns-in-Nothing
returns-in-Nothing c = search (texts, rules)
