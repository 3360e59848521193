use mathlib.Core.Path.{ap, ◌∙◌, subst}
use Rattle.std.specs.Prelude.{take}
use Rattle.exchange.specs.Exchange.{pause}
use Rattle.stages.specs.Decided.{layout_bytes, DecisionFits}
use Rattle.engine.specs.Core.{arrays, stage_of, orders_of, keeps_of, performs_of}
use Rattle.engine.specs.Transitions.{at}
use Rattle.engine.proofs.Ends.{does_not_go_on}
use Rattle.engine.proofs.running.Core.continued.Goals as goal

pub keep-requires : goal.keep-requires
keep-requires c =
    let a = c.args in
    let p = c.requires in
    (p.0, subst (DecisionFits (take a.self.found a.found.now) a.response.now) c.in-Keep.is p.1, p.2)

pub keep-requires-in-Next : goal.keep-requires-in-Next
keep-requires-in-Next c =
    let a = c.args in
    let p = c.requires in
    (p.0, subst (DecisionFits (take a.self.found a.found.now) a.response.now) c.in-Next.is p.1, p.2)

pub returns-in-Send : goal.returns-in-Send
unfolding performs_of
returns-in-Send c = λ _.
    let a = c.args in
    rw c.in-Send.is
    (c.send.ensures _ ∙ ap (λ d. stage_of a.self (arrays a.command.now a.found.now) d a.buffer.now) c.to_stage.ensures)

pub returns-in-Keep : goal.returns-in-Keep
unfolding performs_of
returns-in-Keep c = λ _.
    let a = c.args in
    rw c.in-Keep.is
    (c.keep.ensures ∙ ap (λ x. keeps_of a.self (arrays a.command.now a.found.now) x (layout_bytes (take a.self.found a.found.now) a.response.now c.in-Keep.layout) a.buffer.now) c.to_stage-next.ensures)

pub returns-in-Next : goal.returns-in-Next
unfolding performs_of
returns-in-Next c = λ _.
    let a = c.args in
    rw c.in-Next.is
    (c.keep-in-Next.ensures ∙ ap (λ x. keeps_of a.self (arrays a.command.now a.found.now) x (layout_bytes (take a.self.found a.found.now) a.response.now c.in-Next.layout) a.buffer.now) c.to_cursor-next.ensures)

pub returns-in-Put : goal.returns-in-Put
returns-in-Put c = λ _. rw c.in-Put.is (c.put_pending.ensures _)

pub returns-in-Pause : goal.returns-in-Pause
unfolding performs_of
returns-in-Pause c = λ _.
    let a = c.args in
    rw c.in-Pause.is
    (c.ordered.ensures _
    ∙ ap (λ d. orders_of a.self (arrays a.command.now a.found.now) (pause c.in-Pause.us) d a.self.exchange a.buffer.now)
    (c.at-next.ensures ∙ ap (λ k. at k 5) c.to_stage-in-Pause.ensures))

pub returns-in_default : goal.returns-in_default
returns-in_default c = λ on. does_not_go_on c.args.decision c.in_default.not-Send c.in_default.not-Keep c.in_default.not-Next c.in_default.not-Put c.in_default.not-Pause on
