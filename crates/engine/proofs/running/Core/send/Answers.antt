use mathlib.Core.Path.{sym, ap, ◌∙◌}
use Rattle.std.specs.Prelude.{take}
use Rattle.stages.specs.Stages.{cmd}
use Rattle.stages.specs.Decided.{data_in}
use Rattle.engine.specs.Core.{arrays, sends_of, stage_of}
use Rattle.engine.proofs.running.Core.send.Goals as goal

pub returns-in-Pending : goal.returns-in-Pending
unfolding stage_of
returns-in-Pending c = λ f.
    let a = c.args in
    let p = c.command-next.result in
    c.sent.ensures (arrays a.command.now f)
    ∙ ap (λ m. sends_of a.self (arrays a.command.now f) a.call m a.buffer.now)
    (sym (ap (λ d. cmd p.code p.clock (data_in d (take a.self.command a.command.now))) c.in-Pending.is) ∙ c.command-next.ensures.is)

pub returns-in-Own : goal.returns-in-Own
unfolding stage_of
returns-in-Own c = λ f.
    let a = c.args in
    let p = c.command-next.result in
    c.sent-in-Own.ensures (arrays a.command.now f)
    ∙ ap (λ m. sends_of a.self (arrays a.command.now f) a.call m a.buffer.now)
    (ap (cmd p.code p.clock) c.as_slice.ensures ∙ sym (ap (λ d. cmd p.code p.clock (data_in d (take a.self.command a.command.now))) c.in-Own.is) ∙ c.command-next.ensures.is)
