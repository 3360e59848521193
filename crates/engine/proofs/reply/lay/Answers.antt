use Rattle.std.specs.Prelude.{◌≡◌, ◌+◌, ◌-◌, length, take, drop}
use mathlib.Core.Path.{ap}
use native.Mathlib.Omega.{arith}
use lib.ListN.{length-take}
use Rattle.stages.specs.Few.{few}
use Rattle.stages.specs.Put.{laid}
use Rattle.engine.proofs.reply.lay.Goals as goal

pub returns : goal.returns
returns c = λ f k h.
    let a = c.args in
    let l = a.layout in
    let first : length c.as_slice.result.now ≡ length (few l.head) = ap length c.as_slice.ensures in
    let last : length c.as_slice-2.result.now ≡ length (few l.tail) = ap length c.as_slice-2.ensures in
    let part = length-take (l.start + l.len - l.start) (drop l.start a.response.now) in
    let size : l.start + l.len - l.start ≡ l.len = omega arith in
    let n1 = c.append-behind_head.ensures.count (omega (arith, first, c.requires.1)) in
    let n2 = c.append-behind_part.ensures.count (omega (arith, first, part, n1, c.requires.1)) in
    let p1 = c.append-behind_head.ensures.puts _ k (omega (arith, first, c.requires.1)) h in
    let p2 = c.append-behind_part.ensures.puts _ k (omega (arith, first, part, n1, c.requires.1)) p1 in
    let p3 = c.append.ensures.puts _ k (omega (arith, first, part, last, n1, n2, c.requires.1)) p2 in
    let p4 = rw (c.as_slice.ensures, c.as_slice-2.ensures) at p3 in
    laid _ k (take l.kept f) (few l.head) _ _ (few l.tail) _ (ap (λ n. take n (drop l.start a.response.now)) size) p4
