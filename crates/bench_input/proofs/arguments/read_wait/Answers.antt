use mathlib.Core.Path.{refl, sym, ap, ◌∙◌}
use native.Mathlib.Omega.{arith}
use borrow.Author.Tests.{lt-ltb, le-ltb}
use Rattle.errors.specs.Rules.{at_true, at_false}
use Rattle.bench_input.specs.Arguments.{wait_arg}
use Rattle.bench_input.proofs.arguments.read_wait.Goals as goal

pub returns-in_default : goal.returns-in_default
unfolding wait_arg
returns-in_default c = λ f.
    at_false _ _ _ _ (sym c.is_none.ensures ∙ c.if-is_none.false)
    (at_true _ _ _ _ (lt-ltb _ _ (omega (arith, c.in_default.ensures))) refl ∙ c.in_ok-read_ms.ensures _)

pub returns : goal.returns
unfolding wait_arg
returns c = λ f.
    at_false _ _ _ _ (sym c.is_none.ensures ∙ c.if-is_none.false)
    (at_false _ _ _ _ (le-ltb _ _ (omega (arith, c.in-Ok.ensures))) (ap (f 1) c.in-Ok.ensures.1) ∙ c.in_ok-read_ms.ensures _)
