use Rattle.std.proofs.Common.{rules, refl}
use Rattle.simulator_lines.specs.Plays.{played_from}
use Rattle.simulator_lines.proofs.PlayLaws.{ends_over}
use Rattle.simulator_lines.proofs.play.Simulator.turn.Goals as goal

pub returns-in_err-order-clause-next : goal.returns-in_err-order-clause-next
returns-in_err-order-clause-next g c = λ p h. rw (c.from_residual.ensures) (ends_over c.args.self.now c.args.output p (played_from 1 p) 1 h refl (search rules))

pub returns-in-Write-clause-next : goal.returns-in-Write-clause-next
returns-in-Write-clause-next g c = λ p h. c.on_write.ensures c.args.output (search rules) p (record { reader = h.reader; chip = h.chip })

pub returns-in-Next-clause-next : goal.returns-in-Next-clause-next
returns-in-Next-clause-next g c = λ p h. c.on_next.ensures c.args.output (search rules) p (record { reader = h.reader; chip = h.chip })

pub returns-in-Pause-clause-next : goal.returns-in-Pause-clause-next
returns-in-Pause-clause-next g c = λ p h. c.on_pause.ensures c.args.output (search rules) p (record { reader = h.reader; chip = h.chip })
