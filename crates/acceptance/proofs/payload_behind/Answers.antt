use Rattle.std.proofs.Common.{rules}
use native.Mathlib.Omega.{arith}
use Rattle.acceptance.proofs.OrderLaws.{behind_empty, behind-one, behind-last-one, behind_two, behind-row, behind-last, of_bytes}
use Rattle.acceptance.proofs.payload_behind.Goals as goal

pub returns-then-byte-lt255 : goal.returns-then-byte-lt255
returns-then-byte-lt255 c =
    let e = c.in-One.is in
    (behind-one _ _ e c.if-byte-lt255.true, of_bytes _ _ e (search rules))

pub returns-then-second-lt255 : goal.returns-then-second-lt255
returns-then-second-lt255 c =
    let e = c.in-Two.is in
    (behind_two _ _ _ e (search rules) c.if-second-lt255.true, of_bytes _ _ e (search rules, search rules))

pub returns-then-first-lt255 : goal.returns-then-first-lt255
returns-then-first-lt255 c =
    let e = c.in-Two.is in
    (behind-row _ _ _ e c.if-first-lt255.true (omega arith), of_bytes _ _ e (search rules, search rules))

pub returns-in-Empty : goal.returns-in-Empty
returns-in-Empty c =
    let e = c.in-Empty.is in
    (behind_empty _ e, of_bytes _ _ e tt)

pub returns-else-byte-lt255 : goal.returns-else-byte-lt255
returns-else-byte-lt255 c =
    let e = c.in-One.is in
    (behind-last-one _ _ e (omega arith), of_bytes _ _ e (search rules))

pub returns-else-first-lt255 : goal.returns-else-first-lt255
returns-else-first-lt255 c =
    let e = c.in-Two.is in
    (behind-last _ _ _ e (omega arith) (omega arith), of_bytes _ _ e (search rules, search rules))
