use mathlib.Core.Path.{sym, ap, ◌∙◌}
use borrow.Author.Tests.{lt-ltb, le-ltb}
use Rattle.errors.specs.Rules.{at_true, at_false}
use Rattle.engine.specs.SessionSteps.{with_books, start_after, booked_after_of}
use Rattle.engine.specs.Laws.{booked_after}
use Rattle.engine.specs.Numbers.{reader_input, opening_input}
use Rattle.engine.proofs.state.call.Goals as goal

pub returns-then-number-eq-OPEN_CALL : goal.returns-then-number-eq-OPEN_CALL
returns-then-number-eq-OPEN_CALL c = λ f. c.before.before.«open».ensures _ ∙ opening_input _ _ _ _ _ _ _ _ _ c.if-number-eq-OPEN_CALL.true

pub returns-then-buffer-lt-BUFFER_NEED : goal.returns-then-buffer-lt-BUFFER_NEED
unfolding start_after
returns-then-buffer-lt-BUFFER_NEED c = λ f.
    at_true _ _ _ _ (sym c.is_admitted.ensures ∙ c.if-is_admitted.true)
    (at_true _ _ _ _ (lt-ltb _ _ c.if-buffer-lt-BUFFER_NEED.true) (ap (with_books _ _) (c.refused.ensures _ _)))
    ∙ reader_input _ _ _ _ _ _ _ _ _ c.if-number-eq-OPEN_CALL.false

pub returns-then-numbers-gt-LAST_CALLER : goal.returns-then-numbers-gt-LAST_CALLER
unfolding start_after
returns-then-numbers-gt-LAST_CALLER c = λ f.
    at_true _ _ _ _ (sym c.is_admitted.ensures ∙ c.if-is_admitted.true)
    (at_false _ _ _ _ (le-ltb _ _ c.if-buffer-lt-BUFFER_NEED.false)
    (at_true _ _ _ _ (lt-ltb _ _ c.if-numbers-gt-LAST_CALLER.true) (ap (with_books _ _) (c.refused-then-numbers-gt-LAST_CALLER.ensures _ _))))
    ∙ reader_input _ _ _ _ _ _ _ _ _ c.if-number-eq-OPEN_CALL.false

pub returns-else-numbers-gt-LAST_CALLER : goal.returns-else-numbers-gt-LAST_CALLER
unfolding start_after
returns-else-numbers-gt-LAST_CALLER c = λ f.
    at_true _ _ _ _ (sym c.is_admitted.ensures ∙ c.if-is_admitted.true)
    (at_false _ _ _ _ (le-ltb _ _ c.if-buffer-lt-BUFFER_NEED.false)
    (at_false _ _ _ _ (le-ltb _ _ c.if-numbers-gt-LAST_CALLER.false)
    (booked_after _ _ _ _ _ _ c.book.ensures _ _ ∙ ap (booked_after_of _ _ _) (c.start-progress.ensures f _ _ c.start-started.ensures))))
    ∙ reader_input _ _ _ _ _ _ _ _ _ c.if-number-eq-OPEN_CALL.false

pub returns-else-is_admitted : goal.returns-else-is_admitted
unfolding start_after
returns-else-is_admitted c = λ f.
    at_false _ _ _ _ (sym c.is_admitted.ensures ∙ c.if-is_admitted.false) (ap (with_books _ _) (c.refused-else-is_admitted.ensures _ _))
    ∙ reader_input _ _ _ _ _ _ _ _ _ c.if-number-eq-OPEN_CALL.false
