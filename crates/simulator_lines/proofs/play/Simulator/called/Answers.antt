use Rattle.std.proofs.Common.{rules, ◌≡◌, length}
use Rattle.protocol.specs.Session.{buffer_need}
use Rattle.bench_input.specs.Readings.{input_in}
use Rattle.bench_session.specs.Sessions.{line_step}
use Rattle.simulator_lines.specs.Plays.{event_limit, playing, played_from}
use Rattle.simulator_lines.proofs.PlayLaws.{begins, prints}
use Rattle.simulator_lines.proofs.play.Simulator.called.Goals as goal

pub returns : goal.returns
returns g c = λ z h.
    let room : length c.args.self.now.buffer ≡ buffer_need = search rules in
    let l = line_step z.session (input_in _ c.args.input) in
    let e = c.to_end-last.ensures (playing l.state z.channel l.output) (record { reader = begins _ _ _ _ _ _ _ h.session room c.step-step.ensures; chip = h.chip }) in
    let p = c.print.ensures in
    record {
      simulator = record { session = e.reader.session; chip = e.chip };
      text = prints _ _ _ _ _ (played_from event_limit (playing l.state z.channel l.output)) p.0 e.reader.output;
      short = p.1;
    }
