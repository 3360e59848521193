use mathlib.Core.Path.{sym, ap, ◌∙◌}
use Prim.Native.Nat.{◌<◌}
use native.Mathlib.Omega.{arith}
use Rattle.stages.specs.Stages.{cmd}
use Rattle.stages.specs.Decided.{data_in}
use Rattle.discovery.specs.Decisions.{poll_of, poll_command}
use Rattle.discovery.specs.PollLaws.{poll_bytes}
use Rattle.discovery.proofs.poll_type_f.command.Goals as goal

pub returns-in_default : goal.returns-in_default
unfolding poll_command
returns-in_default c =
    let a = c.args in
    let p = c.command-next.result in
    let poll = poll_of a.cursor a.pending.now in
    record {
      is =
          ap (λ d. cmd p.code p.clock (data_in d a.pending.now)) c.in_default.is
          ∙ sym (ap (λ d. cmd p.code p.clock (data_in d poll)) c.in_default.is)
          ∙ c.command-next.ensures.is poll;
      fits = c.command-next.ensures.fits;
    }

pub returns : goal.returns
unfolding poll_command
returns c =
    let a = c.args in
    let p = c.command-next.result in
    let poll = poll_of a.cursor a.pending.now in
    let high : c.byte_or-high.result < 256 = omega arith in
    let low : c.byte_or-low.result < 256 = omega arith in
    let its = c.fixed.ensures (omega arith) in
    record {
      is =
          its.is a.pending.now
          ∙ ap (cmd p.code p.clock) (poll_bytes a.cursor a.pending.now _ _ _ c.byte_or-code.ensures c.byte_or-high.ensures c.byte_or-low.ensures high low)
          ∙ sym (ap (λ d. cmd p.code p.clock (data_in d poll)) c.in-Pending.is)
          ∙ c.command-next.ensures.is poll;
      fits = its.fits;
    }
