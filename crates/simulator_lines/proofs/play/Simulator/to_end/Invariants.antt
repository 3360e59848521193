-- What is left of the play from here on ends as the whole.
use Rattle.std.proofs.Common.{◌≡◌, ◌-◌}
use Rattle.simulator_lines.specs.Plays.{Playing, event_limit, played_from}
use Rattle.simulator_lines.specs.Represents.{PlayIn}
use Rattle.simulator_lines.proofs.play.Simulator.to_end.Given as goal

abbrev pub invariant-loop : goal.invariant-loop
invariant-loop g l =
    (p : Playing) → PlayIn l.initial.self l.initial.output p
    → (q : Playing) × PlayIn l.self l.output q × (played_from (event_limit - l.counter) q ≡ played_from event_limit p)
