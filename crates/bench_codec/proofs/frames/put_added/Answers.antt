use Rattle.std.proofs.Common.{rules}
use Rattle.bench_codec.proofs.FrameLaws.{append_refused, append_short, append-done}
use Rattle.bench_codec.proofs.frames.put_added.Goals as goal

pub returns-in_default : goal.returns-in_default
returns-in_default c = λ k s b known short room. search (append_refused, append_short, append-done, rules)

pub returns-then-frame-n : goal.returns-then-frame-n
returns-then-frame-n c = λ k s b known short room. search (append_refused, append_short, append-done, rules)

pub returns : goal.returns
returns c = λ k s b known short room. search (append_refused, append_short, append-done, rules)
