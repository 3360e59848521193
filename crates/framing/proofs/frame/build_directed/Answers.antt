use native.Mathlib.Numerals.{add-two}
use Rattle.errors.specs.Refusals.{returned}
use Rattle.framing.specs.Enclose.{command_placed, build_refused}
use Rattle.std.proofs.Common.{sym, ◌∙◌}
use Rattle.std.proofs.lemmas.Result.{err_from_is_err_and}
use Rattle.framing.proofs.frame.build_directed.Goals as goal

pub returns-in_err-start : goal.returns-in_err-start
unfolding returned
returns-in_err-start c =
    let p = err_from_is_err_and c.from_residual.result c.from_residual.ensures.1 in
    rw (p.1, p.2) (build_refused _ _ _ _ (rw (c.format.ensures, add-two) at (sym c.in_err-start.was ∙ c.room_for.ensures.place)))

pub returns : goal.returns
unfolding returned
returns c =
    command_placed _ _ _ _ _ _ _ _ (rw c.format.ensures at (sym c.in_ok-start.was ∙ c.room_for.ensures.place)) c.copy.ensures.after c.enclose.ensures
