use Rattle.std.proofs.Common.{◌∙◌, rules, sym, tests}
use Rattle.std.proofs.lemmas.Iterator.{YieldsList-from_slice}
use Rattle.std.proofs.lemmas.Iterator.Search.{all_from_yields_List}
use Rattle.presence_list.specs.Checks.{every_listed}
use Rattle.presence_list.specs.Memory.{in_range_in}
use Rattle.presence_list.proofs.range.are_in_range.Goals as goal

pub returns : goal.returns
returns c =
    all_from_yields_List in_range_in _ _ _ c.all.ensures.ran (YieldsList-from_slice c.args.cards.now cc) (λ x b q k. search (rules, tests)) ∙ sym (every_listed in_range_in c.args.cards.now)
