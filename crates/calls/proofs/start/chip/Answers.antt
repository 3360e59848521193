use mathlib.Core.Path.{◌≡◌}
use native.Mathlib.Omega.{arith}
use Rattle.errors.specs.declared.Refusal.TheVariants.{BadArgument}
use Rattle.stages.specs.Starts.{starts_refused}
use Rattle.calls.specs.Numbers.{call_of}
use Rattle.calls.proofs.start.chip.Goals as goal

pub returns-in_default : goal.returns-in_default
unfolding call_of
returns-in_default c = let e : c.args.number ≡ 0 = omega arith in rw e (starts_refused BadArgument _)
