use Rattle.std.proofs.Common.{rules}
use Rattle.errors.specs.Rules.{same-value}
use Rattle.stages.specs.Laws.{decision_false}
use Rattle.discovery.specs.Decisions.{split_written}
use Rattle.discovery.specs.SplitLaws.{decision_lengths}
use Rattle.discovery.proofs.type_a_split.rx_mode_written.Goals as goal

pub returns-else-any_nonzero : goal.returns-else-any_nonzero
unfolding split_written
returns-else-any_nonzero c = decision_false _ _ _ _ _ _ (search (same-value, rules)) (decision_lengths _ _ _ _ _ _ _ (c.found.ensures _) (search rules))
