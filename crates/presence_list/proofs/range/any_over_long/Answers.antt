use Rattle.std.proofs.Common.{◌∙◌, rules, sym, tests}
use Rattle.std.proofs.lemmas.Iterator.{YieldsList-from_slice}
use Rattle.std.proofs.lemmas.Iterator.Search.{any_from_yields_List}
use Rattle.presence_list.specs.Checks.{any_listed}
use Rattle.presence_list.specs.Memory.{long_in}
use Rattle.presence_list.proofs.range.any_over_long.Goals as goal

pub returns : goal.returns
returns c =
    any_from_yields_List long_in _ _ _ c.any.ensures.ran (YieldsList-from_slice c.args.records.now cc) (λ x b q k. search (rules, tests)) ∙ sym (any_listed long_in c.args.records.now)
