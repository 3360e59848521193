use Rattle.std.proofs.Common.{rules}
use Rattle.bench_codec.proofs.CodecLaws.{two_are, three_are, four_are, five_are, others_are}
use Rattle.bench.specs.WordLaws.{word_fits}
use Rattle.bench_codec.proofs.by_words.Goals as goal

pub two_words-requires : goal.two_words-requires
two_words-requires c = search (word_fits, rules)

pub returns-in-2 : goal.returns-in-2
returns-in-2 c = search (two_are, three_are, four_are, five_are, others_are, word_fits, rules)

pub three_words-requires : goal.three_words-requires
three_words-requires c = (search (word_fits, rules), search (word_fits, rules))

pub returns-in-3 : goal.returns-in-3
returns-in-3 c = search (two_are, three_are, four_are, five_are, others_are, word_fits, rules)

pub four_words-requires : goal.four_words-requires
four_words-requires c = (search (word_fits, rules), search (word_fits, rules))

pub returns-in-4 : goal.returns-in-4
returns-in-4 c = search (two_are, three_are, four_are, five_are, others_are, word_fits, rules)

pub five_words-requires : goal.five_words-requires
five_words-requires c = (search (word_fits, rules), search (word_fits, rules), search (word_fits, rules))

pub returns-in-5 : goal.returns-in-5
returns-in-5 c = search (two_are, three_are, four_are, five_are, others_are, word_fits, rules)

pub returns-in_default : goal.returns-in_default
returns-in_default c = search (two_are, three_are, four_are, five_are, others_are, word_fits, rules)
