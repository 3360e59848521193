use Rattle.std.proofs.Common.{rules, arith}
use Rattle.stages.specs.Stages.{with_length}
use Rattle.stages.specs.Laws.{decided, decision_false, decision_keep}
use Rattle.device.specs.Names.{lays_opened}
use Rattle.device.specs.Opening.{version_kept}
use Rattle.device.proofs.version.Goals as goal

pub returns : goal.returns
unfolding version_kept with_length
returns c = λ f. decision_false _ _ _ _ _ _ (search (decided, rules)) (decision_keep _ _ _ _ _ (lays_opened _ _ _ c.in-len4-up.len_at_least (c.chipset_name.ensures f _ (omega arith))))
