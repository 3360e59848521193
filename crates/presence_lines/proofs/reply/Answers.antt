use Rattle.std.proofs.Common.{refl}
use Rattle.presence_lines.proofs.AnswerLaws.{reply_text, reply_long}
use Rattle.presence_lines.proofs.reply.Goals as goal

pub returns-in-Text : goal.returns-in-Text
returns-in-Text c = reply_text _ _ _ _ _ _ _ _ _ c.told-out _ _ c.in-Text.is c.prefix.ensures c.answer-end.ensures c.put.ensures

pub returns-in-OverLong : goal.returns-in-OverLong
returns-in-OverLong c = reply_long _ _ _ _ _ _ _ _ _ c.told-out c.in-OverLong.is refl c.unreadable-end.ensures c.put-in-OverLong.ensures
