use Rattle.std.proofs.Common.{rules, ◌≡◌, ◌+◌, ◌≤◌, ◌<◌, ◌-◌, ℕ, [], length, drop, get_or, ap, sym, ◌∙◌, refl, arith}
use Rattle.slowest_call.specs.Fields.{fields_of, field_passed, none_behind}
use Rattle.slowest_call.proofs.table.behind_fields.Goals as goal

pub loop-init : goal.loop-init
loop-init c = (c.requires, λ j. ap (λ n. get_or (fields_of (drop c.args.from c.args.table.now)) n []) (omega arith))

pub overflow_add-at : goal.overflow_add-at
overflow_add-at c =
    let h = c.find-end.ensures.bounds.1 in
    search rules

pub returns-then-end-table : goal.returns-then-end-table
returns-then-end-table c =
    (c.find-end.ensures.bounds.1, λ j. none_behind _ _ _ c.loop.invariant.0 c.find-end.ensures.place _ _ (c.loop.invariant.1 j) (omega arith) c.if-end-table.true j)

pub loop-preserved : goal.loop-preserved
loop-preserved c =
    let h = c.find-end.ensures.bounds.1 in
    (omega (arith, c.if-end-table.false), λ j. field_passed _ _ _ c.loop.invariant.0 c.find-end.ensures.place _ _ (c.loop.invariant.1 j) (omega arith) _ c.if-end-table.false h (omega arith))

pub returns : goal.returns
returns c =
    (c.loop.invariant.0, λ j. ap (λ n. get_or (fields_of (drop c.loop.at c.args.table.now)) n []) (omega arith) ∙ c.loop.invariant.1 j)
