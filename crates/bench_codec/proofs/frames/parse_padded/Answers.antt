use Rattle.std.proofs.Common.{rules}
use Rattle.errors.specs.Rules.{same-value}
use Rattle.bench_codec.proofs.FrameLaws.{padded_none, zeros-done}
use Rattle.bench_codec.proofs.frames.parse_padded.Goals as goal

pub returns-then-is_some : goal.returns-then-is_some
returns-then-is_some c = search (same-value, padded_none, zeros-done, rules) depth 8

pub returns : goal.returns
returns c = search (same-value, padded_none, zeros-done, rules) depth 8
