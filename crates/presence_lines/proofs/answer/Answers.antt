use Rattle.std.proofs.Common.{refl}
use Rattle.presence_lines.proofs.AnswerLaws.{answer_unread, answer_round, few_known, answer_long}
use Rattle.presence_lines.proofs.answer.Goals as goal

pub returns-then-line-gt-LINE_LIMIT : goal.returns-then-line-gt-LINE_LIMIT
returns-then-line-gt-LINE_LIMIT c = answer_long _ _ _ _ _ _ c.if-line-gt-LINE_LIMIT.true refl c.unreadable.ensures

pub returns-in_default : goal.returns-in_default
returns-in_default c =
    answer_unread _ _ _ _ _ _ _ c.if-line-gt-LINE_LIMIT.false _ c.in_default.not-Some c.read_line.ensures.0 refl c.unreadable-in_default.ensures

pub report-requires : goal.report-requires
report-requires c = few_known _ _ _ _ _ c.round-answer.ensures

pub returns : goal.returns
returns c = answer_round _ _ _ _ _ _ _ c.if-line-gt-LINE_LIMIT.false c.in-Some.round _ c.in-Some.ensures.0 c.round-answer.ensures c.report.ensures
