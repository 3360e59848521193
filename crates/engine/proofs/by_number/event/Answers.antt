use mathlib.Core.Path.{ap}
use Rattle.engine.specs.SessionSteps.{with_books}
use Rattle.engine.proofs.Numbers.{not_known, is_known}
use Rattle.engine.proofs.by_number.event.Goals as goal

pub returns-in_default : goal.returns-in_default
returns-in_default c = not_known _ _ _ _ _ _ _ c.in_default.not-Some (c.event_by.ensures _) (ap (with_books _ _) (c.refused.ensures _ _))

pub returns : goal.returns
returns c = is_known _ _ _ _ _ _ _ _ c.in-Some.is (c.event_by.ensures _) c.event.ensures
