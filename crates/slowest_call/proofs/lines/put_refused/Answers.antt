use Rattle.std.proofs.Common.{rules}
use Rattle.slowest_call.proofs.LineLaws.{refused_shown}
use Rattle.slowest_call.proofs.lines.put_refused.Goals as goal

pub returns : goal.returns
returns c = refused_shown _ _ _ _ _ _ _ c.from.ensures c.put-at.ensures c.put_decimal.ensures (search rules)
