use Rattle.std.proofs.Common.{rules}
use Rattle.errors.specs.Rules.{same-value}
use Rattle.bench.specs.TextLaws.{when_true, when_false}
use Rattle.bench_codec.proofs.CodecLaws.{no_setting, some_setting, read_refused, read_format, read_fits, read_part}
use Rattle.bench_codec.proofs.three_words.Goals as goal

pub returns-then-is_exactly : goal.returns-then-is_exactly
returns-then-is_exactly c = search (same-value, when_true, when_false, rules) depth 10

pub returns-in_default : goal.returns-in_default
returns-in_default c = search (same-value, when_true, when_false, no_setting, rules) depth 10

pub returns-in_default-read : goal.returns-in_default-read
returns-in_default-read c = search (same-value, when_true, when_false, no_setting, some_setting, read_refused, rules) depth 10

pub slice_bounds-bytes-end : goal.slice_bounds-bytes-end
slice_bounds-bytes-end c = search (read_fits, rules)

pub slice_bounds-on_format-end : goal.slice_bounds-on_format-end
slice_bounds-on_format-end c = search (read_fits, read_part, rules)

pub returns : goal.returns
returns c = search (same-value, when_true, when_false, no_setting, some_setting, read_refused, read_format, rules) depth 10
