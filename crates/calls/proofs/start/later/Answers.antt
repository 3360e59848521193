use native.Mathlib.Omega.{arith}
use Rattle.errors.specs.declared.Refusal.TheVariants.{BadArgument}
use Rattle.stages.specs.Starts.{starts_refused}
use Rattle.calls.specs.Numbers.{no_call}
use Rattle.calls.specs.Firsts.{start_for}
use Rattle.calls.proofs.start.later.Goals as goal

pub returns-in_default : goal.returns-in_default
unfolding start_for
returns-in_default c =
    let a = c.args.arguments.now in
    rw (no_call c.args.number a.numbers a.first.now a.second.now a.third.now a.fourth.now (omega arith)) (starts_refused BadArgument _)
