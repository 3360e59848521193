use Rattle.std.proofs.Common.{rules}
use Rattle.bench.specs.HexLaws.{digits_turn, digits_done}
use Rattle.bench.proofs.hex.put_digits.Goals as goal

pub loop-i-preserved : goal.loop-i-preserved
loop-i-preserved c = record { size = search rules; put = search (digits_turn, rules) }

pub returns : goal.returns
returns c = search (digits_done, rules)
