use Rattle.std.proofs.Common.{rules, arith, length, ◌+◌, ◌≤◌}
use Rattle.acceptance.proofs.PutLinesLaws.{filling-start, filling-more, filling-end, len_more, entries_less, entry_or_line, line_short, on_entry_most}
use Rattle.acceptance.proofs.Tags.{entry_at_step, no_entry_lem}
use Rattle.acceptance.proofs.lines.put_lines.Goals as goal

pub loop-entry-init : goal.loop-entry-init
loop-entry-init c = filling-start _ _

pub overflow_sub-out : goal.overflow_sub-out
overflow_sub-out c = let f = c.loop-entry.invariant in omega arith

pub overflow_add-count : goal.overflow_add-count
overflow_add-count c = let f = c.loop-entry.invariant in search rules

pub loop-entry-smaller : goal.loop-entry-smaller
loop-entry-smaller c =
    let f = c.loop-entry.invariant in
    let room : c.loop-entry.len + 25 ≤ length c.args.out.now = omega arith in
    let on = entry_at_step c.loop-entry.step _ c.in-Some.entry c.unwrap_or.ensures c.in-Some.is in
    let put = c.put_line-len.ensures in
    let more = len_more _ _ _ _ _ _ f _ on room _ _ put _ c.next-step.ensures in
    let less = entries_less _ _ _ _ _ _ f _ on room _ _ put _ c.next-step.ensures in
    let line = entry_or_line _ _ _ _ _ _ f _ on room _ _ put _ c.next-step.ensures in
    omega (arith, line_short c.in-Some.entry, on_entry_most c.next-step.result)

pub loop-entry-preserved : goal.loop-entry-preserved
loop-entry-preserved c =
    let f = c.loop-entry.invariant in
    let room : c.loop-entry.len + 25 ≤ length c.args.out.now = omega arith in
    let on = entry_at_step c.loop-entry.step _ c.in-Some.entry c.unwrap_or.ensures c.in-Some.is in
    filling-more _ _ _ _ _ _ f _ on room _ _ c.put_line-len.ensures _ c.next-step.ensures

pub returns-then-out-len-lt-LONGEST_LINE : goal.returns-then-out-len-lt-LONGEST_LINE
returns-then-out-len-lt-LONGEST_LINE c = let f = c.loop-entry.invariant in filling-end _ _ _ _ f (λ h. omega arith)

pub returns-in_default : goal.returns-in_default
returns-in_default c =
    let f = c.loop-entry.invariant in
    let none = no_entry_lem c.loop-entry.step _ c.unwrap_or.ensures c.in_default.not-Some in
    filling-end _ _ _ _ f (λ h. omega arith)
