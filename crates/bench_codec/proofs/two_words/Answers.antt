use Rattle.std.proofs.Common.{rules}
use Rattle.errors.specs.Rules.{same-value}
use Rattle.bench.specs.TextLaws.{when_true, when_false}
use Rattle.bench_codec.proofs.CodecLaws.{read_refused, read_bytes_lem, read_fits, read_part, read_short}
use Rattle.bench_codec.proofs.two_words.Goals as goal

pub returns-then-is_exactly : goal.returns-then-is_exactly
returns-then-is_exactly c = search (same-value, when_true, when_false, read_refused, read_bytes_lem, read_fits, read_part, read_short, rules) depth 8

pub returns-in_default : goal.returns-in_default
returns-in_default c = search (same-value, when_true, when_false, read_refused, rules) depth 8

pub slice_bounds-bytes-end : goal.slice_bounds-bytes-end
slice_bounds-bytes-end c = search (read_fits, rules)

pub slice_bounds-on_bytes-end : goal.slice_bounds-on_bytes-end
slice_bounds-on_bytes-end c = search (read_fits, read_part, rules)

pub on_bytes-requires : goal.on_bytes-requires
on_bytes-requires c = search (read_short, rules)

pub returns : goal.returns
returns c = search (same-value, when_true, when_false, read_refused, read_bytes_lem, rules) depth 8
