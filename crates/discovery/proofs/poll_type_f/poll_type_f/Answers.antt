use mathlib.Core.Path.{sym, ◌∙◌}
use Rattle.std.proofs.Common.{rules}
use native.Mathlib.Omega.{arith}
use Rattle.protocol.specs.Starts.{type_f_code}
use Rattle.errors.specs.declared.Refusal.TheVariants.{BadArgument}
use Rattle.stages.specs.Starts.{asserted, starts_true, starts_false, starts_refused, short_staged}
use Rattle.discovery.specs.Firsts.{poll_first, poll_asserted}
use Rattle.discovery.specs.FirstLaws.{not_supported, supported, list_few}
use Rattle.discovery.proofs.poll_type_f.poll_type_f.Goals as goal

pub returns-then-not-is_list : goal.returns-then-not-is_list
unfolding asserted poll_asserted
returns-then-not-is_list c = starts_false _ _ _ _ _ _ (sym c.is_list.ensures ∙ c.if-not-is_list.true) (starts_refused BadArgument _)

pub returns-in_err-code : goal.returns-in_err-code
unfolding poll_asserted asserted
returns-in_err-code c =
    starts_true _ _ _ _ _ _ (sym c.is_list.ensures ∙ c.if-not-is_list.false)
    (not_supported _ _ _ _ _ _ (search rules) (c.in_err-code.ensures type_f_code (λ b r p. p.1)))

pub returns : goal.returns
unfolding poll_asserted asserted poll_first
returns c =
    let fits = sym c.is_list.ensures ∙ c.if-not-is_list.false in
    starts_true _ _ _ _ _ _ fits
    (supported _ _ _ _ _ _ _ (c.in_ok-code.ensures type_f_code (λ b r p. p.1))
    (short_staged _ _ _ _ _ (omega (arith, list_few c.args.codes.now fits)) c.staged.ensures))
