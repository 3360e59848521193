use Rattle.std.proofs.Common.{rules, refl, ◌≡◌, length}
use Rattle.simulator_lines.specs.Ring.{places_limit}
use Rattle.simulator_lines.proofs.RingLaws.{full_with, room_with}
use Rattle.simulator_lines.proofs.channel.Unread.push.Goals as goal

pub returns-then-self-lt-PLACES : goal.returns-then-self-lt-PLACES
returns-then-self-lt-PLACES c =
    let u = c.args.self.now in
    let l : length u.places ≡ places_limit = search rules in
    room_with u.places u.first u.count _ _ _ c.if-self-lt-PLACES.true refl l c.new.ensures

pub returns-else-self-lt-PLACES : goal.returns-else-self-lt-PLACES
returns-else-self-lt-PLACES c = let u = c.args.self.now in full_with u.places u.first u.count 0 _ c.if-self-lt-PLACES.false
