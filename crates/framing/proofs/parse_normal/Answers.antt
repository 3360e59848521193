use Rattle.framing.specs.Valid.{normal_too_short, normal_found}
use Rattle.std.proofs.Common.{rules}
use Rattle.framing.proofs.parse_normal.Goals as goal

pub returns-then-packet-lt-NORMAL_START : goal.returns-then-packet-lt-NORMAL_START
returns-then-packet-lt-NORMAL_START c = search (normal_too_short, rules)

pub returns : goal.returns
returns c = search (normal_found, rules) depth 6
