use Rattle.std.proofs.Common.{rules}
use Rattle.chip_lines.proofs.AnswerLaws.{answer_true, answer_false, not_hex, is_hex, hex_bytes, unread_answers, step_answers}
use Rattle.chip_lines.proofs.frame_line.Goals as goal

pub returns-in_default : goal.returns-in_default
returns-in_default c = search (answer_false, not_hex, unread_answers, rules) depth 10

pub returns : goal.returns
returns c =
    answer_true _ _ _ _ _ _ _ _ (is_hex _ _ _ _ c.read.ensures c.room-written.ensures c.requires _ c.in-Ok.is)
    (step_answers _ _ _ _ _ _ _ _ _ _ c.step-answer.ensures c.packet_room-buffer.ensures c.put_sent.ensures
    (hex_bytes _ _ _ _ c.read.ensures c.room-written.ensures c.requires _ c.in-Ok.is _ c.prefix.ensures))
