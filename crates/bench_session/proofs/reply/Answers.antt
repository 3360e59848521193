use Rattle.std.proofs.Common.{arith, rules}
use Rattle.bench_session.proofs.AnswerLaws.{fed-done, reply_text, reply_long, long_done}
use Rattle.bench_session.proofs.reply.Goals as goal

pub returns-in-Text : goal.returns-in-Text
returns-in-Text c =
    let answered = c.answer.ensures in
    let byte = c.fed.ensures.byte (omega (arith, answered)) in
    (search (reply_text, fed-done, rules) depth 8, λ _. search rules)

pub returns-in-OverLong : goal.returns-in-OverLong
returns-in-OverLong c =
    let printed = c.print-len.ensures in
    let byte = c.fed-in-OverLong.ensures.byte (omega (arith, printed)) in
    (search (reply_long, fed-done, long_done, rules), λ _. search rules)
