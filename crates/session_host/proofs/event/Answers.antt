-- The event on the session's parts, and the outcome of what it gave out.
use Rattle.session_host.specs.Steps.{event_reported}
use Rattle.session_host.proofs.event.Goals as goal

pub returns : goal.returns
returns c = event_reported _ c.event-progress.result c.args.session.now _ _ _ _ _ _ _ c.from.ensures c.event-progress.ensures
