use Rattle.engine.specs.Core.{open_core}
use Rattle.engine.proofs.running.Core.open.Goals as goal

pub returns : goal.returns
unfolding open_core
returns c = λ f. rw (c.with_found.ensures, c.at-call.ensures, c.first.ensures) at (c.ordered.ensures f)
