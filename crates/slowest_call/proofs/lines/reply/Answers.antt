use Rattle.std.proofs.Common.{rules}
use Rattle.slowest_call.proofs.LineLaws.{reply_text, reply_long, reply-end}
use Rattle.slowest_call.proofs.lines.reply.Goals as goal

pub returns-in-Text : goal.returns-in-Text
returns-in-Text c = (reply_text _ _ _ _ _ _ _ (search rules) c.put.ensures _ _ c.in-Text.is c.prefix.ensures c.answer-len.ensures, λ _. search rules)

pub returns-in-OverLong : goal.returns-in-OverLong
returns-in-OverLong c = (reply_long _ _ _ _ _ _ _ (search rules) c.put-in-OverLong.ensures c.in-OverLong.is c.put_refused-len.ensures, λ _. search rules)

pub returns-in-End : goal.returns-in-End
returns-in-End c = (reply-end _ _ _ c.in-End.is, λ h. h)
