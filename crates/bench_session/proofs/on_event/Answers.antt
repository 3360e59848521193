use mathlib.Core.Path.{◌∙◌}
use Rattle.bench_session.proofs.AnswerLaws.{unchanged_is, event_none, event_some}
use Rattle.bench_session.proofs.on_event.Goals as goal

pub returns-in_default : goal.returns-in_default
returns-in_default c = unchanged_is _ _ _ c.unreadable.ensures.0 c.unreadable.ensures.1 ∙ event_none _ _ _ _ _ c.event_by.ensures c.in_default.is

pub returns : goal.returns
returns c =
    rw (← c.slice.ensures) (event_some _ _ _ _ _ c.event_by.ensures _ _ c.in-Some.is c.event.ensures)
