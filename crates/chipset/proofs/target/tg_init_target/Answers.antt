use Rattle.std.proofs.Common.{rules}
use Rattle.errors.specs.Rules.{same-value}
use Rattle.stages.specs.Starts.{asserted, starts_not}
use Rattle.chipset.specs.Commands.{first_of}
use Rattle.chipset.proofs.target.tg_init_target.Goals as goal

pub returns-then-not-init_fits : goal.returns-then-not-init_fits
unfolding asserted first_of
returns-then-not-init_fits c = starts_not _ _ _ _ (search (same-value, rules))
