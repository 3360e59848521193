use native.Mathlib.Omega.{arith}
use mathlib.Core.Path.{sym, ap, ◌∙◌}
use Rattle.framing.specs.Valid.{both_left}
use Rattle.errors.specs.Rules.{at_true, at_false}
use Rattle.engine.specs.SessionSteps.{state_of, valid, with_books, booked_after_of, event_after}
use Rattle.engine.specs.Laws.{booked_after, valid_caller, event_seen, extra_few}
use Rattle.engine.proofs.state.event.Goals as goal

pub slice_bounds-event-count : goal.slice_bounds-event-count
slice_bounds-event-count c = extra_few _ _ _ c.extra_zeros-extra.ensures

pub slice_bounds-event-start : goal.slice_bounds-event-start
slice_bounds-event-start c = let few = extra_few _ _ _ c.extra_zeros-extra.ensures in omega (arith, few)

pub event-progress-requires : goal.event-progress-requires
unfolding valid
event-progress-requires c = both_left _ _ (sym c.is_valid.ensures ∙ c.if-is_valid.true)

pub book-requires : goal.book-requires
book-requires c =
    let a = c.args in
    valid_caller (state_of a.core a.books.now a.frames.now) (sym c.is_valid.ensures ∙ c.if-is_valid.true)

pub returns-then-is_valid : goal.returns-then-is_valid
unfolding event_after
returns-then-is_valid c =
    let a = c.args in
    at_true _ _ _ _ (sym c.is_valid.ensures ∙ c.if-is_valid.true)
    (booked_after _ _ _ _ _ _ c.book.ensures _ _ ∙ ap (booked_after_of _ _ _) (c.event-progress.ensures ∙ event_seen _ _ _ c.extra_zeros-extra.ensures _ _ a.event a.buffer.now))

pub returns-else-is_valid : goal.returns-else-is_valid
unfolding event_after
returns-else-is_valid c = at_false _ _ _ _ (sym c.is_valid.ensures ∙ c.if-is_valid.false) (ap (with_books _ _) (c.refused.ensures _ _))
