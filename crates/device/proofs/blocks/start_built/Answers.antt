use Rattle.std.proofs.Common.{sym, ap, ◌∙◌}
use Rattle.std.proofs.lemmas.Result.{err_from_is_err_and}
use Rattle.errors.specs.Refusals.{returned}
use Rattle.framing.specs.Build.{left}
use Rattle.stages.specs.Starts.{starts_refused}
use Rattle.device.specs.Blocks.{built_sent, built_refused}
use Rattle.device.proofs.blocks.start_built.Goals as goal

pub returns-in_err-built : goal.returns-in_err-built
unfolding returned
returns-in_err-built c = λ fits p c₀ c₁ few e.
    let r = err_from_is_err_and c.from_residual.result c.from_residual.ensures.1 in
    built_refused c₀ c₁ p _ _ _ _ fits few (ap (λ b. left (returned b) c₁) (sym c.in_err-built.was) ∙ e) (λ k. rw (r.1, r.2) (starts_refused _ k))

pub returns : goal.returns
unfolding returned
returns c = λ fits p c₀ c₁ few e. built_sent c₀ c₁ p _ _ _ _ fits few (ap (λ b. left (returned b) c₁) (sym c.in_ok-built.was) ∙ e) c.first_command.ensures
