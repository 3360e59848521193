use Rattle.std.specs.Prelude.{not, ◌==◌}
use Rattle.std.proofs.Common.{rules, ◌∙◌}
use Rattle.std.proofs.lemmas.Iterator.{YieldsList-from_slice}
use Rattle.std.proofs.lemmas.Iterator.Search.{any_from_yields_List}
use Rattle.chipset.specs.Laws.{nonzero_any}
use Rattle.chipset.proofs.registers.any_nonzero.Goals as goal

pub returns : goal.returns
returns c =
    any_from_yields_List (λ b. not (b == 0)) _ _ _ c.any.ensures.ran (YieldsList-from_slice c.args.bytes.now cc) (λ x b q k. search rules)
    ∙ nonzero_any c.args.bytes.now
