use Rattle.bench.specs.LineLaws.{found-feed, room_counts}
use Rattle.bench.proofs.lines.before_feed.Goals as goal

pub returns : goal.returns
returns c = let within = c.find.ensures.bounds.1 in (found-feed _ _ c.find.ensures.place, (within, room_counts _ _ within))
