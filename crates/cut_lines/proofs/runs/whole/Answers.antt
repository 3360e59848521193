use Rattle.cut_lines.proofs.SearchLaws.{whole_ran}
use Rattle.cut_lines.proofs.runs.whole.Goals as goal

pub returns : goal.returns
returns c = λ xs h. whole_ran xs _ _ h.count (c.run.ensures xs h)
