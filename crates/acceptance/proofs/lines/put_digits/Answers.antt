use Rattle.std.proofs.Common.{rules}
use Rattle.bench.specs.HexLaws.{digits_turn, digits_done}
use Rattle.acceptance.specs.LineLaws.{table_digit}
use Rattle.acceptance.proofs.lines.put_digits.Goals as goal

pub loop-i-preserved : goal.loop-i-preserved
loop-i-preserved c =
    let h = c.from.ensures in
    let l = c.from-in-loop-i.ensures in
    digits_turn _ _ _ _ _ _ _ c.loop-i.invariant (search rules) (search rules) (table_digit _ _ h (search rules)) (table_digit _ _ l (search rules))

pub returns : goal.returns
returns c = search (digits_done, rules)
