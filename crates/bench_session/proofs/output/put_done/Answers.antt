use Rattle.std.proofs.Common.{rules}
use Rattle.framing.specs.Rules.{steps}
use Rattle.bench.specs.TextLaws.{appended, when_true}
use Rattle.bench_session.specs.Outputs.{done_text}
use Rattle.bench_session.proofs.output.put_done.Goals as goal

pub returns-then-is_empty : goal.returns-then-is_empty
unfolding done_text
returns-then-is_empty c = search (when_true, appended, steps, rules) depth 8
