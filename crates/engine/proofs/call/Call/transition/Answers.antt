use mathlib.Core.Path.{refl, sym, ◌∙◌}
use Rattle.std.proofs.Common.{rules}
use Rattle.engine.specs.Transitions.{transition_exchange, transition_pause, transition_reads, transition_awaited}
use Rattle.engine.specs.Transitions.{exchange_unfit, exchange_pending, exchange_arrived, exchange_failed, over_reset, over-other}
use Rattle.engine.specs.Transitions.{transition_of}
use Rattle.errors.specs.Choice.{pick}
use Rattle.framing.specs.Rules.{steps}
use Rattle.engine.proofs.call.Call.transition.Goals.{in-Arrived, in-Failed}
use Rattle.engine.proofs.call.Call.transition.Goals as goal

pub returns-in-1 : goal.returns-in-1
unfolding transition_of pick
returns-in-1 c = rw c.in-1.is (c.on_reset_ack.ensures _ _)

pub returns-in-2 : goal.returns-in-2
unfolding transition_of pick
returns-in-2 c = transition_pause _ _ _ _ c.in-2.is (c.on_reset_pause.ensures _ _)

pub returns-in-3 : goal.returns-in-3
unfolding transition_of pick
returns-in-3 c = rw c.in-3.is (c.on_opening_ack.ensures _ _)

pub returns-in-4 : goal.returns-in-4
unfolding transition_of pick
returns-in-4 c = transition_reads _ _ _ _ c.in-4.is (c.on_opening_reads.ensures _ _)

pub returns-in-5 : goal.returns-in-5
unfolding transition_of pick
returns-in-5 c = transition_awaited _ _ _ _ c.in-5.is (c.on_pause.ensures _ _)

pub returns-in_default : goal.returns-in_default
unfolding transition_of pick
returns-in_default c = search (steps, rules) depth 12

pub returns-in-Unfit : goal.returns-in-Unfit
returns-in-Unfit c = transition_exchange _ _ _ _ c.in-0.is (exchange_unfit _ _ _ _ _ c.advance.ensures.result_value c.in-Unfit.is)

pub returns-in-Pending : goal.returns-in-Pending
returns-in-Pending c = transition_exchange _ _ _ _ c.in-0.is (exchange_pending _ _ _ _ _ c.advance.ensures.result_value _ _ _ c.in-Pending.is c.advance.ensures.same_command refl)

pub returns-then-is_reset : goal.returns-then-is_reset
returns-then-is_reset c = transition_exchange _ _ _ _ c.in-0.is
    (over_reset _ _ _ _ (sym c.is_reset.ensures ∙ c.if-is_reset.true) c.at.ensures
    ∙ elim c.match-advance.branch [ in-Arrived w ↦ exchange_arrived _ _ _ _ _ c.advance.ensures.result_value _ w.in-Arrived.is w.end-is | in-Failed w ↦ exchange_failed _ _ _ _ _ c.advance.ensures.result_value _ _ w.in-Failed.is w.end-is ])

pub returns : goal.returns
returns c = transition_exchange _ _ _ _ c.in-0.is
    (over-other _ _ _ (sym c.is_reset.ensures ∙ c.if-is_reset.false)
    ∙ elim c.match-advance.branch [ in-Arrived w ↦ exchange_arrived _ _ _ _ _ c.advance.ensures.result_value _ w.in-Arrived.is w.end-is | in-Failed w ↦ exchange_failed _ _ _ _ _ c.advance.ensures.result_value _ _ w.in-Failed.is w.end-is ])
