use Rattle.std.proofs.Common.{rules, ◌≡◌, true, false, zero-le, sym, ◌∙◌, arith}
use borrow.Author.Tests.{tests}
use Rattle.std.proofs.lemmas.Iterator.{IsFirst-from_position, YieldsList-from_slice}
use Rattle.errors.specs.Choice.{in_range}
use Rattle.targets.specs.Form.{is_digit}
use Rattle.targets.proofs.RateLaws.{letter_next, no_letter, no_digits, no_more}
use Rattle.targets.proofs.rate_length.Goals.{else-digits-gt0-via-then-digits-gt0+else-is_ascii_uppercase, else-digits-gt0-via-else-digits-gt0}
use Rattle.targets.proofs.rate_length.Goals as goal

pub returns-in_err-digits : goal.returns-in_err-digits
unfolding in_range
returns-in_err-digits c =
    let f = IsFirst-from_position _ _ _ (λ y. is_digit y ≡ false) (λ y. is_digit y ≡ true) c.in_err-digits.ensures.ran (YieldsList-from_slice c.args.text.now cc) (λ x q k. search (rules, tests)) (λ x q k. search (rules, tests)) in
    rw c.from_residual.ensures (no_more c.args.text.now (λ k h. f k 0 zero-le h))

pub returns-then-is_ascii_uppercase : goal.returns-then-is_ascii_uppercase
unfolding in_range
returns-then-is_ascii_uppercase c =
    let f = IsFirst-from_position _ _ _ (λ y. is_digit y ≡ false) (λ y. is_digit y ≡ true) c.in_ok-digits.ensures.ran (YieldsList-from_slice c.args.text.now cc) (λ x q k. search (rules, tests)) (λ x q k. search (rules, tests)) in
    letter_next c.args.text.now _ f.0 (λ k h. f.2 k 0 zero-le h) (f.1 0) (omega arith) (sym c.is_ascii_uppercase.ensures.value ∙ c.if-is_ascii_uppercase.true)

pub returns-else-digits-gt0 : goal.returns-else-digits-gt0
unfolding in_range
returns-else-digits-gt0 c =
    let f = IsFirst-from_position _ _ _ (λ y. is_digit y ≡ false) (λ y. is_digit y ≡ true) c.in_ok-digits.ensures.ran (YieldsList-from_slice c.args.text.now cc) (λ x q k. search (rules, tests)) (λ x q k. search (rules, tests)) in
    elim c.else-digits-gt0.branch [
      | else-digits-gt0-via-then-digits-gt0+else-is_ascii_uppercase w ↦ no_letter c.args.text.now _ f.0 (λ k h. f.2 k 0 zero-le h) (f.1 0) (sym w.is_ascii_uppercase.ensures.value ∙ w.if-is_ascii_uppercase.false)
      | else-digits-gt0-via-else-digits-gt0 w ↦ no_digits c.args.text.now _ f.0 (λ k h. f.2 k 0 zero-le h) (f.1 0) (omega (arith, w.if-digits-gt0.false))
    ]
