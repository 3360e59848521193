use Rattle.std.proofs.Common.{arith, rules}
use Rattle.bench.specs.HexLaws.{high_value, low_value, pairs_turn, pairs_done}
use Rattle.bench.proofs.hex.decode.Goals as goal

pub overflow_mul-out : goal.overflow_mul-out
overflow_mul-out c = let v = high_value _ c.loop-i.i c.requires.0 (search rules) in omega arith

pub overflow_add-out : goal.overflow_add-out
overflow_add-out c =
    let v = high_value _ c.loop-i.i c.requires.0 (search rules) in
    let u = low_value _ c.loop-i.i c.requires.0 (search rules) in
    omega arith

pub loop-i-preserved : goal.loop-i-preserved
loop-i-preserved c = record { size = search rules; put = search (pairs_turn, rules) }

pub returns : goal.returns
returns c = search (pairs_done, rules)
