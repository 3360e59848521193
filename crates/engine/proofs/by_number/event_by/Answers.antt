use mathlib.Core.Path.{sym}
use mathlib.Core.Option.{none}
use native.Mathlib.Omega.{arith}
use lib.ListN.{get_or-eq_default}
use Rattle.engine.specs.Numbers.{event_table, event_by_of, known_in}
use Rattle.engine.proofs.by_number.event_by.Goals as goal

pub returns-in_default : goal.returns-in_default
unfolding known_in event_by_of
returns-in_default c = λ packet. sym (get_or-eq_default (event_table packet) none (omega arith))
