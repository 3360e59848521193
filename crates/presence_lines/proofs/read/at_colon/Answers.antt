use Rattle.presence_lines.proofs.ReadLaws.{before_is, behind_is, before_all, behind_none}
use Rattle.presence_lines.proofs.read.at_colon.Goals as goal

pub returns-then-n-word : goal.returns-then-n-word
returns-then-n-word c = (before_is _ _ c.find-n.ensures.place, behind_is _ _ c.find-n.ensures.place c.if-n-word.true)

pub returns-else-n-word : goal.returns-else-n-word
returns-else-n-word c = (before_all _ _ c.find-n.ensures.place c.if-n-word.false, behind_none _ _ c.find-n.ensures.place c.if-n-word.false)
