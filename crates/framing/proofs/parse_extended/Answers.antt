use Rattle.framing.specs.Valid.{extended_too_short, extended_found}
use Rattle.std.proofs.Common.{rules}
use Rattle.framing.proofs.parse_extended.Goals as goal

pub returns-then-packet-lt-EXTENDED_START : goal.returns-then-packet-lt-EXTENDED_START
returns-then-packet-lt-EXTENDED_START c = search (extended_too_short, rules)

pub returns : goal.returns
returns c = search (extended_found, rules) depth 6
