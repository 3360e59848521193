use Rattle.std.proofs.Common.{rules, ◌≡◌, ◌+◌, ◌*◌, ◌<◌, ℕ, [], get_or, ap, ◌∙◌, refl, arith}
use Rattle.slowest_call.specs.Tables.{run_fields}
use Rattle.slowest_call.specs.Texts.{kind_count}
use Rattle.slowest_call.proofs.ScriptLaws.{name-field, named_none, named_here, named_later, named_nowhere}
use Rattle.slowest_call.proofs.table.Runs.kind_named.Goals as goal

pub returns-then-is_exactly : goal.returns-then-is_exactly
returns-then-is_exactly c =
    let w = c.loop-kind.invariant in
    let within : c.loop-kind.kind < kind_count = search rules in
    (named_here _ _ within w.later _ _ c.is_exactly.ensures (name-field _ within _ _ (c.field_at.ensures ∙ w.place 0) refl) c.if-is_exactly.true, within)

pub loop-kind-preserved : goal.loop-kind-preserved
loop-kind-preserved c =
    let w = c.loop-kind.invariant in
    let within : c.loop-kind.kind < kind_count = search rules in
    record {
      few = omega (arith, within);
      later = named_later _ _ within w.later _ _ c.is_exactly.ensures (name-field _ within _ _ (c.field_at.ensures ∙ w.place 0) refl) c.if-is_exactly.false;
      within = c.behind_fields-at.ensures.0;
      place = λ j. c.behind_fields-at.ensures.1 j ∙ w.place (4 + j) ∙ ap (λ n. get_or run_fields n []) (omega arith);
    }

pub returns : goal.returns
returns c = let w = c.loop-kind.invariant in (search (named_nowhere, rules), tt)
