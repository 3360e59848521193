use mathlib.Core.Path.{refl, ap, ◌∙◌}
use Prim.Native.Nat.{ℕ}
use borrow.Author.Tests.{lt-ltb, le-ltb}
use lib.Dec.{ltb}
use Rattle.errors.specs.Rules.{at_true, at_false}
use Rattle.bench_input.specs.Letters.{argument}
use Rattle.bench_input.specs.Arguments.{arguments}
use Rattle.bench_input.specs.Readings.{next_in}
use Rattle.bench_input.proofs.EndLaws.{ended-count, more_strings, more-ended}
use Rattle.bench_input.proofs.letters.with_string.Goals as goal

pub returns-then-taken-ge-STRINGS : goal.returns-then-taken-ge-STRINGS
unfolding argument
returns-then-taken-ge-STRINGS c =
    let few = ap (λ (n : ℕ). ltb n 4) (ended-count c.args.taken.count c.args.taken.ends c.args.bytes.now c.requires.1) ∙ le-ltb _ _ c.if-taken-ge-STRINGS.true in
    record { says = λ f. at_true _ _ _ _ (lt-ltb _ _ c.requires.0) (at_false _ _ _ _ few refl); in_order_of = tt }

pub returns-in_err-end : goal.returns-in_err-end
unfolding argument
returns-in_err-end c =
    let few = ap (λ (n : ℕ). ltb n 4) (ended-count c.args.taken.count c.args.taken.ends c.args.bytes.now c.requires.1) ∙ lt-ltb _ _ c.if-taken-ge-STRINGS.false in
    record {
      says = λ f. at_true _ _ _ _ (lt-ltb _ _ c.requires.0) (at_true _ _ _ _ few (ap (λ r. next_in c.string.new.bytes r f) c.from_residual.ensures ∙ c.in_err-end.ensures.by_index _));
      in_order_of = rw c.from_residual.ensures tt;
    }

pub returns : goal.returns
unfolding argument
returns c =
    let few = ap (λ (n : ℕ). ltb n 4) (ended-count c.args.taken.count c.args.taken.ends c.args.bytes.now c.requires.1) ∙ lt-ltb _ _ c.if-taken-ge-STRINGS.false in
    let b = c.in_ok-end.ensures.behind in
    record {
      says = λ f. at_true _ _ _ _ (lt-ltb _ _ c.requires.0) (at_true _ _ _ _ few
          (ap (λ s. f (arguments c.args.taken.numbers s)) (more_strings _ _ _ _ _ _ _ c.with_end.ensures c.if-taken-ge-STRINGS.false c.requires.1 b) ∙ c.in_ok-end.ensures.by_index _));
      in_order_of = more-ended _ _ _ _ _ _ _ c.with_end.ensures c.if-taken-ge-STRINGS.false c.requires.1 b;
    }
