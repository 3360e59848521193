use Rattle.std.proofs.Common.{rules}
use Rattle.framing.specs.Rules.{steps}
use Rattle.bench.specs.TextLaws.{when_true, when_false}
use Rattle.bench_codec.proofs.frames.bitrate.Goals as goal

pub returns-then-word-eq0 : goal.returns-then-word-eq0
returns-then-word-eq0 c = search (steps, when_true, when_false, rules) depth 10

pub returns-then-is_exactly : goal.returns-then-is_exactly
returns-then-is_exactly c = search (steps, when_true, when_false, rules) depth 10

pub returns-else-is_exactly : goal.returns-else-is_exactly
returns-else-is_exactly c = search (steps, when_true, when_false, rules) depth 10
