use Rattle.std.proofs.Common.{rules}
use Rattle.framing.specs.Rules.{steps}
use Rattle.bench_codec.specs.Codec.{setting_named}
use Rattle.bench_codec.proofs.setting.Goals as goal

pub returns-in-48-to-255 : goal.returns-in-48-to-255
unfolding setting_named
returns-in-48-to-255 c = search (steps, rules) depth 10

pub returns-in_default : goal.returns-in_default
unfolding setting_named
returns-in_default c = search (steps, rules) depth 10

pub returns-in_default-2 : goal.returns-in_default-2
unfolding setting_named
returns-in_default-2 c = search (steps, rules) depth 10

pub returns-in_default-3 : goal.returns-in_default-3
unfolding setting_named
returns-in_default-3 c = search (steps, rules) depth 10
