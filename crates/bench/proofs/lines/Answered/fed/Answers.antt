use Rattle.std.proofs.Common.{rules}
use Rattle.bench.specs.TextLaws.{appended, byte_put}
use Rattle.bench.proofs.lines.Answered.fed.Goals as goal

pub returns : goal.returns
returns g c = record { state = search rules; text = appended _ _ _ _ _ c.put-len.ensures; byte = λ h. byte_put _ _ _ _ _ c.put-len.ensures h }
