use native.Mathlib.Omega.{arith}
use Rattle.bench.specs.LineLaws.{add_none, no_more, add_cut, add_whole}
use Rattle.bench.proofs.lines.add.Goals as goal

pub returns-in_err-len : goal.returns-in_err-len
returns-in_err-len c = λ t l b. add_none _ _ _ _ _ _ c.in_err-len.was c.from_residual.ensures b

pub returns-in_err-room : goal.returns-in_err-room
returns-in_err-room c = λ t l b. absurd (no_more _ _ c.args.part.now _ _ (rw c.in_ok-len.was at b) (omega (arith, c.in_err-room.ensures)))

pub returns-then-room-part : goal.returns-then-room-part
returns-then-room-part c = λ t l b. add_cut _ _ _ _ _ (rw c.in_ok-len.was at b) _ (omega (arith, c.in_ok-room.ensures)) _ _ c.if-room-part.true c.put.ensures

pub returns : goal.returns
returns c = λ t l b. add_whole _ _ _ _ _ (rw c.in_ok-len.was at b) _ (omega (arith, c.in_ok-room.ensures)) _ _ c.if-room-part.false c.put-2.ensures
