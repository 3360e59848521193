use Rattle.std.proofs.Common.{rules, sym, ◌∙◌}
use Rattle.felica.specs.Lists.{list_agrees, list_ends, list_differs}
use Rattle.felica.proofs.request.is_block_list.Goals.{in_default, in_default-2}
use Rattle.felica.proofs.request.is_block_list.Goals as goal

pub loop-left-preserved : goal.loop-left-preserved
loop-left-preserved c = c.loop-left.invariant ∙ list_agrees _ c.in-128.len_at_least (search rules)

pub returns : goal.returns
returns c =
    c.is_empty.ensures
    ∙ elim c.if-left-lt2.branch [ in_default w ↦ list_ends _ w.in_default.len_below | in_default-2 w ↦ list_differs _ w.in_default.len_at_least (search rules) ]
    ∙ sym c.loop-left.invariant
