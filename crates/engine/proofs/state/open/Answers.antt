use Rattle.std.specs.Prelude.{true}
use mathlib.Core.Path.{sym, ap, ap₂, ◌∙◌}
use borrow.Author.Tests.{lt-ltb, le-ltb}
use Rattle.errors.specs.Rules.{at_true, at_false}
use Rattle.engine.specs.SessionSteps.{with_books, booked_after_of, open_after}
use Rattle.engine.specs.Laws.{booked_after}
use Rattle.engine.proofs.state.open.Goals as goal

pub returns-then-buffer-lt-BUFFER_NEED : goal.returns-then-buffer-lt-BUFFER_NEED
unfolding open_after
returns-then-buffer-lt-BUFFER_NEED c = λ f.
    at_true _ _ _ _ (sym c.is_free.ensures ∙ c.if-is_free.true)
    (at_true _ _ _ _ (lt-ltb _ _ c.if-buffer-lt-BUFFER_NEED.true) (ap (with_books _ _) (c.refused.ensures f _)))

pub returns-then-caller-gt-LAST_CALLER : goal.returns-then-caller-gt-LAST_CALLER
unfolding open_after
returns-then-caller-gt-LAST_CALLER c = λ f.
    at_true _ _ _ _ (sym c.is_free.ensures ∙ c.if-is_free.true)
    (at_false _ _ _ _ (le-ltb _ _ c.if-buffer-lt-BUFFER_NEED.false)
    (at_true _ _ _ _ (lt-ltb _ _ c.if-caller-gt-LAST_CALLER.true) (ap (with_books _ _) (c.refused-then-caller-gt-LAST_CALLER.ensures f _))))

pub returns-then-mode-gt-PADDED_MODE : goal.returns-then-mode-gt-PADDED_MODE
unfolding open_after
returns-then-mode-gt-PADDED_MODE c = λ f.
    at_true _ _ _ _ (sym c.is_free.ensures ∙ c.if-is_free.true)
    (at_false _ _ _ _ (le-ltb _ _ c.if-buffer-lt-BUFFER_NEED.false)
    (at_false _ _ _ _ (le-ltb _ _ c.if-caller-gt-LAST_CALLER.false)
    (at_true _ _ _ _ (lt-ltb _ _ c.if-mode-gt-PADDED_MODE.true) (ap (with_books _ _) (c.refused-then-mode-gt-PADDED_MODE.ensures f _)))))

pub returns-else-mode-gt-PADDED_MODE : goal.returns-else-mode-gt-PADDED_MODE
unfolding open_after
returns-else-mode-gt-PADDED_MODE c = λ f.
    at_true _ _ _ _ (sym c.is_free.ensures ∙ c.if-is_free.true)
    (at_false _ _ _ _ (le-ltb _ _ c.if-buffer-lt-BUFFER_NEED.false)
    (at_false _ _ _ _ (le-ltb _ _ c.if-caller-gt-LAST_CALLER.false)
    (at_false _ _ _ _ (le-ltb _ _ c.if-mode-gt-PADDED_MODE.false)
    (booked_after _ _ _ _ _ _ c.book.ensures f _ ∙ ap₂ (booked_after_of _ true) c.begin.ensures (c.open-progress.ensures f)))))

pub returns-else-is_free : goal.returns-else-is_free
unfolding open_after
returns-else-is_free c = λ f. at_false _ _ _ _ (sym c.is_free.ensures ∙ c.if-is_free.false) (ap (with_books _ _) (c.refused-else-is_free.ensures f _))
