use Rattle.std.proofs.Common.{rules}
use Rattle.bench_codec.proofs.AnswerLaws.{reply_text, reply_long, reply-end}
use Rattle.bench_codec.proofs.reply.Goals as goal

pub returns-in-Text : goal.returns-in-Text
returns-in-Text c = reply_text _ _ _ _ _ _ _ _ _ (search rules) c.put.ensures c.answer-end.ensures.0 c.answer-end.ensures.1 c.prefix.ensures

pub returns-in-OverLong : goal.returns-in-OverLong
returns-in-OverLong c = search (reply_long, rules)

pub returns-in-End : goal.returns-in-End
returns-in-End c = search (reply-end, rules)
