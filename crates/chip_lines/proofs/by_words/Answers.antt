use Rattle.std.proofs.Common.{rules, refl}
use Rattle.bench.specs.WordLaws.{word_fits}
use Rattle.chip_lines.specs.ChipLines.{one_word, two_words, three_words, four_words, five_words}
use Rattle.chip_lines.proofs.AnswerLaws.{answer_true, answer_false, one_is, two_are, three_are, four_are, five_are, four_named, four_unnamed, others_are, unread_answers}
use Rattle.chip_lines.proofs.by_words.Goals as goal
use Rattle.chip_lines.proofs.by_words.Goals.{in_default-via-in-1+else-is_exactly, in_default-via-in-2+else-is_exactly-2, in_default-via-in-3+else-is_exactly-3, in_default-via-in-4+else-is_exactly-4, in_default-via-in-5+then-is_exactly-5+else-is_exactly-6, in_default-via-in-5+else-is_exactly-5, in_default-via-in_default-1}

pub frame_line-requires : goal.frame_line-requires
frame_line-requires c = search (word_fits, rules)

pub reply_line-requires : goal.reply_line-requires
reply_line-requires c = (search (word_fits, rules), search (word_fits, rules))

pub card_line-requires : goal.card_line-requires
card_line-requires c = (search (word_fits, rules), search rules)

pub card_line-requires-in-5 : goal.card_line-requires-in-5
card_line-requires-in-5 c = (search (word_fits, rules), search (word_fits, rules))

pub returns-in-1 : goal.returns-in-1
unfolding one_word
returns-in-1 c = one_is _ _ _ _ c.count.ensures _ _ _ c.in-1.is _ c.word-name.ensures (answer_true _ _ _ _ _ _ _ _ (search rules) c.fresh_line.ensures)

pub returns-in-2 : goal.returns-in-2
unfolding two_words
returns-in-2 c = two_are _ _ _ _ c.count.ensures _ _ _ c.in-2.is _ _ c.word-name.ensures c.word-second.ensures (answer_true _ _ _ _ _ _ _ _ (search rules) c.frame_line.ensures)

pub returns-in-3 : goal.returns-in-3
unfolding three_words
returns-in-3 c = three_are _ _ _ _ c.count.ensures _ _ _ c.in-3.is _ _ _ c.word-name.ensures c.word-second.ensures c.word-third.ensures (answer_true _ _ _ _ _ _ _ _ (search rules) c.reply_line.ensures)

pub returns-in_default-kind_named : goal.returns-in_default-kind_named
returns-in_default-kind_named c =
    four_are _ _ _ _ c.count.ensures _ _ _ c.in-4.is _ _ _ _ c.word-name.ensures c.word-second.ensures c.word-third.ensures c.word-fourth.ensures
    (rw (four_unnamed c.word-name.result.now c.word-second.result.now c.word-third.result.now c.word-fourth.result.now _ c.kind_named.ensures (search rules) c.in_default-kind_named.is) (unread_answers _ _ _ _ c.unreadable.ensures))

pub returns-in-Some : goal.returns-in-Some
returns-in-Some c =
    four_are _ _ _ _ c.count.ensures _ _ _ c.in-4.is _ _ _ _ c.word-name.ensures c.word-second.ensures c.word-third.ensures c.word-fourth.ensures
    (rw (four_named c.word-name.result.now c.word-second.result.now c.word-third.result.now c.word-fourth.result.now _ c.kind_named.ensures (search rules) c.in-Some.kind c.in-Some.is) c.card_line.ensures)

pub returns-in-5 : goal.returns-in-5
unfolding five_words
returns-in-5 c =
    five_are _ _ _ _ c.count.ensures _ _ _ c.in-5.is _ _ _ _ _ c.word-name.ensures c.word-second.ensures c.word-third.ensures c.word-fourth.ensures c.word.ensures
    (answer_true _ _ _ _ _ _ _ _ (search rules) (answer_true _ _ _ _ _ _ _ _ (search rules) c.card_line-in-5.ensures))

pub returns-in_default : goal.returns-in_default
unfolding one_word two_words three_words four_words five_words
returns-in_default c =
    let none = unread_answers c.args.chip.now _ _ _ c.unreadable-in_default.ensures in
    let name = c.word-name.ensures in
    let second = c.word-second.ensures in
    let third = c.word-third.ensures in
    let fourth = c.word-fourth.ensures in
    elim c.in_default.branch [
      | in_default-via-in-1+else-is_exactly w ↦ one_is _ _ _ _ c.count.ensures _ _ _ w.in-1.is _ name (answer_false _ _ _ _ _ _ _ _ (search rules) none)
      | in_default-via-in-2+else-is_exactly-2 w ↦ two_are _ _ _ _ c.count.ensures _ _ _ w.in-2.is _ _ name second (answer_false _ _ _ _ _ _ _ _ (search rules) none)
      | in_default-via-in-3+else-is_exactly-3 w ↦ three_are _ _ _ _ c.count.ensures _ _ _ w.in-3.is _ _ _ name second third (answer_false _ _ _ _ _ _ _ _ (search rules) none)
      | in_default-via-in-4+else-is_exactly-4 w ↦ four_are _ _ _ _ c.count.ensures _ _ _ w.in-4.is _ _ _ _ name second third fourth (answer_false _ _ _ _ _ _ _ _ (search rules) none)
      | in_default-via-in-5+then-is_exactly-5+else-is_exactly-6 w ↦
          five_are _ _ _ _ c.count.ensures _ _ _ w.in-5.is _ _ _ _ _ name second third fourth refl (answer_true _ _ _ _ _ _ _ _ (search rules) (answer_false _ _ _ _ _ _ _ _ (search rules) none))
      | in_default-via-in-5+else-is_exactly-5 w ↦ five_are _ _ _ _ c.count.ensures _ _ _ w.in-5.is _ _ _ _ _ name second third fourth refl (answer_false _ _ _ _ _ _ _ _ (search rules) none)
      | in_default-via-in_default-1 w ↦ others_are _ _ _ _ c.count.ensures _ _ _ (search rules) (search rules) (search rules) (search rules) (search rules) none
    ]
