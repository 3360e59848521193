use Rattle.std.proofs.Common.{◌∙◌, arith, rules}
use Rattle.bench.proofs.NumberLaws.{number_empty, next-number, next_digits, no_digit, over-limit, number_read, number_some}
use Rattle.bench.proofs.number.read.Goals as goal

pub returns-then-is_empty : goal.returns-then-is_empty
returns-then-is_empty c = number_empty _ (search rules)

pub returns-in_err-value : goal.returns-in_err-value
returns-in_err-value c = c.from_residual.ensures ∙ no_digit _ _ (search rules) c.loop-byte.invariant.digits c.in_err-value.ensures

pub returns-in_err-checked_mul : goal.returns-in_err-checked_mul
returns-in_err-checked_mul c = c.from_residual-in_err-checked_mul.ensures ∙ over-limit _ _ (search rules) _ c.loop-byte.invariant.number (omega (arith, c.in_err-checked_mul.ensures))

pub returns-in_err-n : goal.returns-in_err-n
returns-in_err-n c =
    c.from_residual-in_err-n.ensures
    ∙ over-limit _ _ (search rules) _ c.loop-byte.invariant.number (omega (arith, c.in_err-n.ensures, c.in_ok-checked_mul.ensures, c.in_ok-value.ensures))

pub loop-byte-preserved : goal.loop-byte-preserved
loop-byte-preserved c =
    record {
      number = next-number _ _ (search rules) _ c.loop-byte.invariant.number _ (omega (arith, c.in_ok-n.ensures, c.in_ok-checked_mul.ensures, c.in_ok-value.ensures));
      digits = next_digits _ _ (search rules) c.loop-byte.invariant.digits (omega (arith, c.in_ok-value.ensures));
      small = search rules;
    }

pub returns : goal.returns
returns c = number_read _ _ _ (number_some _ c.if-is_empty.ensures) (omega arith) c.loop-byte.invariant.number c.loop-byte.invariant.digits c.loop-byte.invariant.small
