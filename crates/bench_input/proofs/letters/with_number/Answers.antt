use mathlib.Core.Path.{refl, ap, ◌∙◌}
use borrow.Author.Tests.{le-ltb}
use native.Mathlib.Omega.{arith}
use Rattle.errors.specs.Rules.{at_false}
use Rattle.bench_input.specs.Letters.{argument}
use Rattle.bench_input.specs.Readings.{next_in}
use Rattle.bench_input.proofs.letters.with_number.Goals as goal

pub returns-in_err-numbers : goal.returns-in_err-numbers
unfolding argument
returns-in_err-numbers c = λ b.
    record {
      says = λ f. at_false _ _ _ _ (le-ltb _ _ c.requires.0) (ap (λ r. next_in b r f) c.from_residual.ensures ∙ c.in_err-numbers.ensures _);
      in_order_of = rw c.from_residual.ensures tt;
    }

pub returns : goal.returns
unfolding argument
returns c = λ b.
    record {
      says = λ f. at_false _ _ _ _ (le-ltb _ _ c.requires.0) (c.in_ok-numbers.ensures _);
      in_order_of = (c.requires.1, omega arith, omega arith, refl);
    }
