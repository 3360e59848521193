use Rattle.std.proofs.Common.{rules}
use Rattle.bench_codec.proofs.FrameLaws.{built_refused, built-fits, built-part, built-done}
use Rattle.bench_codec.proofs.frames.build.Goals as goal

pub returns-in_default : goal.returns-in_default
returns-in_default c = search (built_refused, built-done, rules)

pub slice_bounds-frame-end : goal.slice_bounds-frame-end
slice_bounds-frame-end c = search (built-fits, rules)

pub slice_bounds-put-end-2 : goal.slice_bounds-put-end-2
slice_bounds-put-end-2 c = search (built_refused, built-fits, built-part, built-done, rules)

pub returns : goal.returns
returns c = search (built_refused, built-done, rules)
