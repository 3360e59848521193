use Rattle.std.proofs.Common.{rules}
use Rattle.errors.specs.Refusals.{returned}
use Rattle.bench.specs.HexLaws.{read_bad, read_short, read_done}
use Rattle.bench.proofs.hex.read.Goals as goal

pub returns-then-out-n : goal.returns-then-out-n
unfolding returned
returns-then-out-n c = search (read_short, rules)

pub returns-else-out-n : goal.returns-else-out-n
unfolding returned
returns-else-out-n c = search (read_done, rules)

pub returns-else-is_hex : goal.returns-else-is_hex
unfolding returned
returns-else-is_hex c = search (read_bad, rules)
