use Rattle.std.proofs.Common.{rules}
use Rattle.bench_codec.proofs.AnswerLaws.{answer-done, answer_long, answer_words}
use Rattle.bench_codec.proofs.answer.Goals as goal

pub returns-then-line-gt-LINE_LIMIT : goal.returns-then-line-gt-LINE_LIMIT
returns-then-line-gt-LINE_LIMIT c = (answer-done _ _ _ _ (search rules) (search (answer_long, rules)), search rules)

pub returns : goal.returns
returns c = (answer-done _ _ _ _ (search rules) (search (answer_words, rules)), search rules)
