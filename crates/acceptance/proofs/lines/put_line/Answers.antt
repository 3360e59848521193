use Rattle.std.proofs.Common.{rules}
use mathlib.Core.Path.{sym}
use native.Mathlib.Omega.{arith}
use Rattle.acceptance.specs.LineLaws.{framed, unframed, no_line, line-put}
use Rattle.acceptance.proofs.lines.put_line.Goals as goal

pub returns-in_default : goal.returns-in_default
returns-in_default c = no_line _ _ _ (unframed _ _ _ _ (search rules) c.frame.ensures _ c.in_default.is)

pub slice_bounds-frame-end-2 : goal.slice_bounds-frame-end-2
slice_bounds-frame-end-2 c =
    let f = framed _ _ _ _ (search rules) c.frame.ensures _ c.in-Ok.is in
    omega arith

pub slice_bounds-put_digits-end : goal.slice_bounds-put_digits-end
slice_bounds-put_digits-end c =
    let f = framed _ _ _ _ (search rules) c.frame.ensures _ c.in-Ok.is in
    sym f.whole

pub put_digits-requires : goal.put_digits-requires
put_digits-requires c =
    let f = framed _ _ _ _ (search rules) c.frame.ensures _ c.in-Ok.is in
    omega arith

pub overflow_mul-end : goal.overflow_mul-end
overflow_mul-end c =
    let f = framed _ _ _ _ (search rules) c.frame.ensures _ c.in-Ok.is in
    search rules

pub overflow_add-end : goal.overflow_add-end
overflow_add-end c =
    let f = framed _ _ _ _ (search rules) c.frame.ensures _ c.in-Ok.is in
    search rules

pub bounds-out-end : goal.bounds-out-end
bounds-out-end c =
    let f = framed _ _ _ _ (search rules) c.frame.ensures _ c.in-Ok.is in
    omega arith

pub overflow_add-result : goal.overflow_add-result
overflow_add-result c =
    let f = framed _ _ _ _ (search rules) c.frame.ensures _ c.in-Ok.is in
    search rules

pub returns : goal.returns
returns c =
    let f = framed _ _ _ _ (search rules) c.frame.ensures _ c.in-Ok.is in
    line-put _ _ _ _ _ _ (search rules) f.fits f.whole f.frame c.put_digits.ensures
