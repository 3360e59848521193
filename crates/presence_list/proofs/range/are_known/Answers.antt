use Rattle.std.proofs.Common.{◌∙◌, rules, sym, tests}
use Rattle.std.proofs.lemmas.Iterator.{YieldsList-from_slice}
use Rattle.std.proofs.lemmas.Iterator.Search.{all_from_yields_List}
use Rattle.presence_list.specs.Checks.{every_listed}
use Rattle.presence_list.specs.Memory.{is_known_in}
use Rattle.presence_list.proofs.range.are_known.Goals as goal

pub returns : goal.returns
returns c =
    all_from_yields_List is_known_in _ _ _ c.all.ensures.ran (YieldsList-from_slice c.args.records.now cc) (λ x b q k. search (rules, tests)) ∙ sym (every_listed is_known_in c.args.records.now)
