use Rattle.std.proofs.Common.{◌≡◌, ◌+◌, ◌-◌, ◌%◌, ◌≤◌, ◌++◌, length, replicate, ap, ◌∙◌, arith, rules}
use lib.Seq.{take-length}
use Rattle.framing.specs.Names.{piece_size}
use Rattle.framing.specs.Sums.{padded}
use Rattle.framing.proofs.sums.sum_of_last.Goals as goal

pub returns : goal.returns
returns c =
    let a = c.args in
    let b = a.bytes.now in
    let k = piece_size - a.n in
    let p = c.copy.new.to in
    let long : length b ≡ piece_size = search rules in
    let inside : k ≤ length b = omega arith in
    let part : k + piece_size - k ≡ length b = omega arith in
    let copied : p ≡ b ++ replicate piece_size 0 = rw (take-length b, long) at c.copy.ensures.after in
    c.plain_sum.ensures ∙ ap (λ t. t % 256) (rw (part, copied) (padded b k piece_size inside))
