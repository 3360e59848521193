use Rattle.std.proofs.Common.{rules}
use Rattle.bench.specs.HexLaws.{put-dash, no_place, no_room, put_some}
use Rattle.bench.proofs.hex.put.Goals as goal

pub returns-then-n-eq0 : goal.returns-then-n-eq0
returns-then-n-eq0 c = search (put-dash, rules)

pub returns-then-out-at : goal.returns-then-out-at
returns-then-out-at c = search (no_place, rules)

pub returns-then-out-at-2 : goal.returns-then-out-at-2
returns-then-out-at-2 c = search (no_room, rules)

pub returns : goal.returns
returns c = search (put_some, rules)
