use Rattle.std.proofs.Common.{rules}
use Rattle.bench_session.proofs.AnswerLaws.{answer-done}
use Rattle.bench_session.proofs.answer.Goals as goal

pub returns : goal.returns
returns c = (search (answer-done, rules), search rules, search rules)
