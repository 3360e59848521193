use mathlib.Core.Path.{refl, sym, ap, subst, ◌∙◌}
use Rattle.slowest_call.specs.Tables.{kind_in, KindWithin, written}
use Rattle.slowest_call.proofs.LineLaws.{kind_by, number_by, shown-other, shown_no_kind, shown_no_number, shown-script, refused_script}
use Rattle.slowest_call.proofs.lines.answer.Goals as goal

pub invariant_of-runs : goal.invariant_of-runs
unfolding written
invariant_of-runs c = record { fields = refl }

pub returns-then-count-ne2 : goal.returns-then-count-ne2
returns-then-count-ne2 c = shown-other _ _ _ _ (λ e. c.if-count-ne2.true (c.count.ensures ∙ e)) c.put_refused.ensures

pub returns-in_default : goal.returns-in_default
returns-in_default c =
    shown_no_kind _ _ _ _ (sym c.count.ensures ∙ c.if-count-ne2.false) (kind_by _ _ c.kind_named.result _ c.word.ensures c.kind_named.ensures.0 (ap kind_in c.in_default.is)) c.put_refused-in_default.ensures

pub returns-in_default-read : goal.returns-in_default-read
returns-in_default-read c =
    shown_no_number _ _ _ _ (sym c.count.ensures ∙ c.if-count-ne2.false) c.in-Some.kind
    (kind_by _ _ c.kind_named.result _ c.word.ensures c.kind_named.ensures.0 (ap kind_in c.in-Some.is))
    (number_by _ _ c.read.result _ c.word-2.ensures c.read.ensures c.in_default-read.is)
    c.put_refused-in_default-read.ensures

pub returns-in-Ok : goal.returns-in-Ok
returns-in-Ok c =
    shown-script _ _ _ _ (sym c.count.ensures ∙ c.if-count-ne2.false) c.in-Some.kind
    (kind_by _ _ c.kind_named.result _ c.word.ensures c.kind_named.ensures.0 (ap kind_in c.in-Some.is)) _
    (number_by _ _ c.read.result _ c.word-2.ensures c.read.ensures c.in-Some-read.is)
    (subst KindWithin c.in-Some.is c.kind_named.ensures.1) _ c.script.ensures c.in-Ok.is

pub returns-in-Err : goal.returns-in-Err
returns-in-Err c =
    refused_script _ _ _ _ (sym c.count.ensures ∙ c.if-count-ne2.false) c.in-Some.kind
    (kind_by _ _ c.kind_named.result _ c.word.ensures c.kind_named.ensures.0 (ap kind_in c.in-Some.is)) _
    (number_by _ _ c.read.result _ c.word-2.ensures c.read.ensures c.in-Some-read.is)
    (subst KindWithin c.in-Some.is c.kind_named.ensures.1) _ _ _ c.script.ensures c.in-Err.is c.put_refused-in-Err.ensures
