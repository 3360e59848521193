use Rattle.std.proofs.Common.{rules}
use Rattle.bench.specs.TextLaws.{appended}
use Rattle.chip_lines.proofs.AnswerLaws.{reply_text, reply_long}
use Rattle.chip_lines.proofs.reply.Goals as goal

pub returns-in-Text-clause-out_after : goal.returns-in-Text-clause-out_after
returns-in-Text-clause-out_after c =
    reply_text _ _ _ _ _ _ _ _ _ (search rules) (appended _ _ _ _ _ c.put.ensures) _ _ c.in-Text.is c.prefix.ensures c.answer-len.ensures

pub returns-in-OverLong-clause-out_after : goal.returns-in-OverLong-clause-out_after
returns-in-OverLong-clause-out_after c =
    reply_long c.args.chip.now c.args.chip.now _ _ _ _ _ _ _ (search rules) (appended _ _ _ _ _ c.put-in-OverLong.ensures) c.in-OverLong.is c.unreadable-len.ensures
