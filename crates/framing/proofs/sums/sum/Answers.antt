use Rattle.framing.specs.Sums.{pieces}
use Rattle.std.proofs.Common.{rules}
use Rattle.framing.proofs.sums.sum.Goals as goal

pub returns : goal.returns
returns c = search (pieces, rules) depth 6
