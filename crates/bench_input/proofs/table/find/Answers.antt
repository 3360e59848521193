use Rattle.std.proofs.Common.{sym}
use Rattle.errors.specs.Rules.{swapped_by}
use Rattle.bench_input.proofs.TableLaws.{row_found, another_name, another_count, no_row_found}
use Rattle.bench_input.proofs.table.find.Goals as goal
use Rattle.bench_input.proofs.table.find.Goals.{else-eq-via-then-eq+else-row-n, else-eq-via-else-eq}

pub returns-then-row-n : goal.returns-then-row-n
returns-then-row-n c = row_found _ _ _ _ c.loop-row.invariant _ c.loop-row-test.true (sym (swapped_by _ _ _ (sym c.if-eq.ensures))) c.if-row-n.true

pub loop-row-preserved : goal.loop-row-preserved
loop-row-preserved c =
    elim c.else-eq.branch [
      | else-eq-via-then-eq+else-row-n w ↦ another_count _ _ _ _ c.loop-row.invariant _ c.loop-row-test.true w.if-row-n.false
      | else-eq-via-else-eq w ↦ another_name _ _ _ _ c.loop-row.invariant _ c.loop-row-test.true (sym (swapped_by _ _ _ (sym w.if-eq.ensures)))
    ]

pub returns : goal.returns
returns c = no_row_found _ _ _ _ c.loop-row.invariant c.loop-row-test.false
