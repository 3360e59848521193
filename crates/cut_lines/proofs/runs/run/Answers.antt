use Rattle.std.proofs.Common.{rules}
use mathlib.Core.Path.{refl}
use Rattle.std.proofs.Common.{◌-◌, length}
use native.Mathlib.Omega.{arith}
use Rattle.cut_lines.specs.Readings.{entry_at}
use Rattle.cut_lines.proofs.RunLaws.{run-begins, run_skips, run_acts, run_overtaken, run-shows}
use Rattle.cut_lines.proofs.runs.run.Goals as goal

pub loop-m-init : goal.loop-m-init
loop-m-init c = (omega arith, search rules, λ xs h. run-begins xs c.args.from _ c.fresh-session.ensures)

pub loop-m-preserved-then-is_skipped : goal.loop-m-preserved-then-is_skipped
loop-m-preserved-then-is_skipped c =
    let i = c.loop-m.invariant in
    let test = c.loop-m-test.true in
    (omega arith, omega arith, λ xs h. run_skips c.args.entries.now _ xs h c.args.from c.loop-m.m i.0 c.loop-m.session (i.2 xs h) (omega arith) (entry_at c.args.entries.now c.loop-m.m) refl _ refl (c.is_skipped.ensures c.if-is_skipped.true))

pub returns-then-is_overtaken : goal.returns-then-is_overtaken
returns-then-is_overtaken c = λ xs h.
    let i = c.loop-m.invariant in
    let test = c.loop-m-test.true in
    run_overtaken c.args.entries.now _ xs h c.args.from c.loop-m.m i.0 c.loop-m.session (i.2 xs h) (omega arith) (entry_at c.args.entries.now c.loop-m.m) refl _ c.act-step.ensures c.args.stop (c.is_overtaken.ensures c.if-is_overtaken.true)

pub loop-m-preserved : goal.loop-m-preserved
loop-m-preserved c =
    let i = c.loop-m.invariant in
    let test = c.loop-m-test.true in
    (omega arith, omega arith, λ xs h. run_acts c.args.entries.now _ xs h c.args.from c.loop-m.m i.0 c.loop-m.session (i.2 xs h) (omega arith) (entry_at c.args.entries.now c.loop-m.m) refl _ c.act-step.ensures)

pub returns : goal.returns
returns c = λ xs h.
    let i = c.loop-m.invariant in
    run-shows c.args.entries.now _ xs h c.args.from c.loop-m.m i.0 c.loop-m.session (i.2 xs h) i.1 (omega arith) (entry_at c.args.entries.now (length c.args.entries.now - 1)) refl _ c.act-step-2.ensures c.args.stop c.refusal_of.result c.refusal_of.ensures
