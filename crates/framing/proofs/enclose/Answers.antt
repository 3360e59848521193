use Rattle.std.proofs.Common.{rules}
use Rattle.framing.specs.Enclose.{enclose_done}
use Rattle.framing.proofs.enclose.Goals as goal

pub returns : goal.returns
returns c = search (enclose_done, rules) depth 6
