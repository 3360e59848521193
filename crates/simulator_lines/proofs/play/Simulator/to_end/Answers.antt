use Rattle.std.proofs.Common.{rules, ◌-◌, ◌+◌}
use Rattle.simulator_lines.specs.Plays.{event_limit, played_from}
use Rattle.simulator_lines.proofs.PlayLaws.{ends_over, ends_limit, again}
use Rattle.simulator_lines.proofs.play.Simulator.to_end.Goals as goal

pub returns-in_default : goal.returns-in_default
returns-in_default g c = λ p h.
    let i = c.loop.invariant p h in
    ends_over _ _ (played_from 1 i.0) _ (event_limit - (c.loop.counter + 1)) (rw (c.in_default.is) at (c.turn.ensures.next i.0 i.1)) (again event_limit c.loop.counter i.0 _ (search rules) i.2) (search rules)

pub loop-preserved : goal.loop-preserved
loop-preserved g c = λ p h.
    let i = c.loop.invariant p h in
    (played_from 1 i.0, rw (c.in-Some.is) at (c.turn.ensures.next i.0 i.1), again event_limit c.loop.counter i.0 _ (search rules) i.2)

pub returns : goal.returns
returns g c = λ p h.
    let i = c.loop.invariant p h in
    ends_limit _ _ i.0 _ (event_limit - c.loop.counter) i.1 i.2 (search rules)
