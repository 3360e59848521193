use mathlib.Core.Path.{refl}
use Rattle.std.proofs.Common.{rules}
use Rattle.errors.specs.Refusals.{returned}
use Rattle.slowest_call.specs.Tables.{written}
use Rattle.slowest_call.proofs.ScriptLaws.{no_kind, too_many, script-done}
use Rattle.slowest_call.proofs.script.script.Goals as goal

pub returns-then-kind-ge-KIND_COUNT : goal.returns-then-kind-ge-KIND_COUNT
unfolding returned
returns-then-kind-ge-KIND_COUNT c = search (no_kind, rules)

pub returns-then-idle-gt-IDLE_LIMIT : goal.returns-then-idle-gt-IDLE_LIMIT
unfolding returned
returns-then-idle-gt-IDLE_LIMIT c = search (too_many, rules)

pub invariant_of-runs : goal.invariant_of-runs
unfolding written
invariant_of-runs c = record { fields = refl }

pub returns : goal.returns
unfolding returned
returns c = search (script-done, rules)
