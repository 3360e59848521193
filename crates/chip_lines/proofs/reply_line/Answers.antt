use Rattle.std.proofs.Common.{rules}
use Rattle.chip_lines.proofs.AnswerLaws.{answer_true, answer_false, not_hex, is_hex, hex_bytes, unread_answers, reply_answers}
use Rattle.chip_lines.specs.ChipLines.{reply_line_of}
use Rattle.chip_lines.proofs.reply_line.Goals as goal

pub returns-in_default : goal.returns-in_default
unfolding reply_line_of
returns-in_default c = search (answer_false, not_hex, unread_answers, rules) depth 10

pub returns-in_default-read : goal.returns-in_default-read
unfolding reply_line_of
returns-in_default-read c = search (answer_true, answer_false, is_hex, not_hex, unread_answers, rules) depth 12

pub returns : goal.returns
unfolding reply_line_of
returns c =
    answer_true _ _ _ _ _ _ _ _ (is_hex _ _ _ _ c.read.ensures c.room-bytes.ensures c.requires.0 _ c.in-Ok.is)
    (answer_true _ _ _ _ _ _ _ _ (is_hex _ _ _ _ c.read-2.ensures c.room-reply.ensures c.requires.1 _ c.in-Ok-read.is)
    (reply_answers _ _ _ _ _ _ _ _ _ _ c.add_reply-added.ensures c.put_addition.ensures
    (hex_bytes _ _ _ _ c.read.ensures c.room-bytes.ensures c.requires.0 _ c.in-Ok.is _ c.prefix.ensures)
    (hex_bytes _ _ _ _ c.read-2.ensures c.room-reply.ensures c.requires.1 _ c.in-Ok-read.is _ c.prefix-2.ensures)))
