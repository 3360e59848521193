use Rattle.std.proofs.Common.{rules}
use Rattle.bench_codec.proofs.FrameLaws.{not_sent, sent_part, sent_done}
use Rattle.bench_codec.proofs.frames.send_part.Goals as goal

pub returns-in_default : goal.returns-in_default
returns-in_default c = search (not_sent, sent_done, rules)

pub slice_bounds-put-end-3 : goal.slice_bounds-put-end-3
slice_bounds-put-end-3 c = search (not_sent, sent_part, sent_done, rules)

pub returns : goal.returns
returns c = search (not_sent, sent_done, rules)
