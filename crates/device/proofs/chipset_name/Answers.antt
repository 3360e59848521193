use Rattle.std.proofs.Common.{subst, take, ◌++◌, arith}
use Rattle.protocol.specs.Device.{name_prefix}
use Rattle.stages.specs.Decided.{Lays}
use Rattle.device.specs.Names.{hex_short, hex_long, dotted_is}
use Rattle.device.proofs.chipset_name.Goals as goal

pub returns-in-true-true : goal.returns-in-true-true
returns-in-true-true c = λ f b h. subst (λ l. Lays f b c.named.result (take 3 b ++ (name_prefix ++ l))) (dotted_is _ _ _ _ (hex_short _ _ c.hex_digit-low.ensures c.in-true-true.is-0) (hex_short _ _ c.hex_digit-ones.ensures c.in-true-true.is-1)) (c.named.ensures f b h (omega arith))

pub returns-in-true-false : goal.returns-in-true-false
returns-in-true-false c = λ f b h. subst (λ l. Lays f b c.named-in-true-false.result (take 3 b ++ (name_prefix ++ l))) (dotted_is _ _ _ _ (hex_short _ _ c.hex_digit-low.ensures c.in-true-false.is-0) (hex_long _ _ c.hex_digit-ones.ensures _ c.hex_digit-tens.ensures c.in-true-false.is-1)) (c.named-in-true-false.ensures f b h (omega arith))

pub returns-in-false-true : goal.returns-in-false-true
returns-in-false-true c = λ f b h. subst (λ l. Lays f b c.named-in-false-true.result (take 3 b ++ (name_prefix ++ l))) (dotted_is _ _ _ _ (hex_long _ _ c.hex_digit-low.ensures _ c.hex_digit-high.ensures c.in-false-true.is-0) (hex_short _ _ c.hex_digit-ones.ensures c.in-false-true.is-1)) (c.named-in-false-true.ensures f b h (omega arith))

pub returns-in-false-false : goal.returns-in-false-false
returns-in-false-false c = λ f b h. subst (λ l. Lays f b c.named-in-false-false.result (take 3 b ++ (name_prefix ++ l))) (dotted_is _ _ _ _ (hex_long _ _ c.hex_digit-low.ensures _ c.hex_digit-high.ensures c.in-false-false.is-0) (hex_long _ _ c.hex_digit-ones.ensures _ c.hex_digit-tens.ensures c.in-false-false.is-1)) (c.named-in-false-false.ensures f b h (omega arith))
