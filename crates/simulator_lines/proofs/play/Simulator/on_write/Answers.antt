use Rattle.std.proofs.Common.{rules, refl, ◌≡◌, length}
use Rattle.protocol.specs.Session.{buffer_need}
use Rattle.simulator_lines.proofs.PlayLaws.{write_turn}
use Rattle.simulator_lines.proofs.play.Simulator.on_write.Goals as goal

pub returns : goal.returns
returns g c = λ output asked p h.
    let room : length c.args.self.now.buffer ≡ buffer_need = search rules in
    write_turn c.args.self.now output _ _ _ p _ c.event-step.ensures h room _ _ _ asked c.prefix.ensures refl (c.write.ensures p.channel h.chip)
