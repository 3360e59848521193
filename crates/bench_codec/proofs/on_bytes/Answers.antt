use Rattle.std.proofs.Common.{rules}
use Rattle.errors.specs.Rules.{same-value}
use Rattle.bench.specs.TextLaws.{when_true, when_false}
use Rattle.bench_codec.proofs.FrameLaws.{same_answer}
use Rattle.bench_codec.proofs.on_bytes.Goals as goal

pub returns-then-is_exactly : goal.returns-then-is_exactly
returns-then-is_exactly c = search (same-value, when_true, when_false, same_answer, rules) depth 14

pub returns-then-is_exactly-2 : goal.returns-then-is_exactly-2
returns-then-is_exactly-2 c = search (same-value, when_true, when_false, same_answer, rules) depth 14

pub returns-then-is_exactly-3 : goal.returns-then-is_exactly-3
returns-then-is_exactly-3 c = search (same-value, when_true, when_false, same_answer, rules) depth 14

pub returns-then-is_exactly-4 : goal.returns-then-is_exactly-4
returns-then-is_exactly-4 c = search (same-value, when_true, when_false, rules) depth 14

pub returns-then-is_exactly-5 : goal.returns-then-is_exactly-5
returns-then-is_exactly-5 c = search (same-value, when_true, when_false, rules) depth 14

pub returns-then-is_exactly-6 : goal.returns-then-is_exactly-6
returns-then-is_exactly-6 c = search (same-value, when_true, when_false, rules) depth 14

pub returns : goal.returns
returns c = search (same-value, when_true, when_false, rules) depth 14
