use mathlib.Core.Path.{sym, ap, ◌∙◌}
use Rattle.cut_lines.specs.Shown.{shown_in}
use Rattle.cut_lines.proofs.CutLaws.{cut_over, cut_many, holds, cut_empty, cut_unrefused, cut_from}
use Rattle.cut_lines.proofs.cut.Goals as goal

pub returns-then-script-gt-SCRIPT_LIMIT : goal.returns-then-script-gt-SCRIPT_LIMIT
returns-then-script-gt-SCRIPT_LIMIT c = cut_over _ c.if-script-gt-SCRIPT_LIMIT.true

pub returns-in_default : goal.returns-in_default
returns-in_default c = cut_many _ (rw c.in_default.is at c.read.ensures.0)

pub returns-then-n-eq0 : goal.returns-then-n-eq0
returns-then-n-eq0 c =
    let all = rw c.in-Some.is at c.read.ensures.0 in
    cut_empty _ _ _ _ all c.if-script-gt-SCRIPT_LIMIT.false c.if-n-eq0.true

pub returns-in_default-whole : goal.returns-in_default-whole
returns-in_default-whole c =
    let all = rw c.in-Some.is at c.read.ensures.0 in
    cut_unrefused _ _ _ _ all c.if-script-gt-SCRIPT_LIMIT.false (ap shown_in (sym c.in_default-whole.is) ∙ c.whole.ensures _ (holds _ _ _ _ all))

pub returns : goal.returns
returns c =
    let all = rw c.in-Some.is at c.read.ensures.0 in
    let held = holds _ _ _ _ all in
    let shown = ap shown_in (sym c.in-Some-whole.is) ∙ c.whole.ensures _ held in
    cut_from _ _ _ _ all c.if-script-gt-SCRIPT_LIMIT.false _ shown _ c.shortest-i.ensures.upper_bound (c.shortest-i.ensures.shortest _ held (sym shown))
