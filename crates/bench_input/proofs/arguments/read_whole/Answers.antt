use mathlib.Core.Path.{refl, ap, ◌∙◌}
use Prim.Native.Nat.{◌%◌}
use native.Mathlib.Omega.{arith}
use borrow.Author.Tests.{eq-eqb, ne_eqb}
use lib.Seq.{length-slice}
use Rattle.errors.specs.Rules.{at_true, at_false}
use Rattle.bench_input.specs.Arguments.{whole_arg}
use Rattle.bench_input.proofs.ReadLaws.{not_whole}
use Rattle.bench_input.proofs.arguments.read_whole.Goals as goal

pub returns-then-end-at-eq0-clause-by_index : goal.returns-then-end-at-eq0-clause-by_index
unfolding whole_arg
returns-then-end-at-eq0-clause-by_index c =
    let b = c.in_ok-end.ensures.behind in
    λ f. at_true _ _ _ _ (eq-eqb _ _ (ap (λ n. n % c.args.size) (length-slice _ _ _ (omega arith)) ∙ c.if-end-at-eq0.true)) refl ∙ c.in_ok-end.ensures.by_index _

pub returns-clause-by_index : goal.returns-clause-by_index
unfolding whole_arg
returns-clause-by_index c =
    let b = c.in_ok-end.ensures.behind in
    λ f. at_false _ _ _ _ (ne_eqb _ _ (not_whole _ _ _ _ (omega arith) c.if-end-at-eq0.false)) refl ∙ c.in_ok-end.ensures.by_index _
