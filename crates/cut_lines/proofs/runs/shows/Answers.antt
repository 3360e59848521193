use mathlib.Core.Bool.{not}
use mathlib.Core.Path.{ap}
use Rattle.cut_lines.proofs.SearchLaws.{tried_other, tried-run}
use Rattle.cut_lines.proofs.runs.shows.Goals as goal

pub returns-then-not-is_opening : goal.returns-then-not-is_opening
returns-then-not-is_opening c = λ xs h. tried_other _ _ xs h c.args.i c.args.fault c.if-i-entries.true _ c.is_opening.ensures (ap not c.if-not-is_opening.true)

pub returns : goal.returns
returns c = λ xs h. tried-run xs _ _ _ _ (c.run.ensures xs h) c.is.ensures
