-- The call on the session's parts, and the outcome of what it gave out.
use Rattle.session_host.specs.Steps.{call_reported}
use Rattle.session_host.proofs.call.Goals as goal

pub returns : goal.returns
returns c = call_reported _ c.call-progress.result c.args.session.now _ _ c.args.session.now.found _ _ c.args.buffer.now _ c.from.ensures (c.call-progress.ensures c.args.session.now.found)
