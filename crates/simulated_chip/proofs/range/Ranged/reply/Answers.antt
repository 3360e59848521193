use Rattle.std.proofs.Common.{rules, ◌≡◌, ◌*◌, length, ap, arith}
use Rattle.simulated_chip.specs.Memory.{places, reply_size}
use Rattle.simulated_chip.specs.RangeLaws.{reply_fits}
use Rattle.simulated_chip.proofs.range.Ranged.reply.Goals as goal

pub text_at-requires : goal.text_at-requires
text_at-requires c =
    let chip = c.args.self.chip.now in
    let l : length chip.replies ≡ places * reply_size = search rules in
    (reply_fits chip c.args.self.in_range c.in_ok-place.place (search rules) l).inside

pub returns-clause-short : goal.returns-clause-short
returns-clause-short c =
    let chip = c.args.self.chip.now in
    let l : length chip.replies ≡ places * reply_size = search rules in
    let t = (reply_fits chip c.args.self.in_range c.in_ok-place.place (search rules) l).short in
    let e = ap length c.text_at.ensures in
    omega arith
