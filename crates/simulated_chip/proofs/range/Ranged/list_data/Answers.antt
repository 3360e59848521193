use Rattle.std.proofs.Common.{rules, ◌≡◌, ◌*◌, length, ap, arith}
use Rattle.chip_protocol.specs.Names.{most_cards}
use Rattle.simulated_chip.specs.Memory.{card_size}
use Rattle.simulated_chip.specs.RangeLaws.{list_data_fits}
use Rattle.simulated_chip.proofs.range.Ranged.list_data.Goals as goal

pub text_at-requires : goal.text_at-requires
text_at-requires c =
    let l : length c.args.self.chip.now.cards ≡ most_cards * card_size = search rules in
    (list_data_fits c.args.self.chip.now c.args.self.in_range c.args.card c.requires l).inside

pub returns-clause-short : goal.returns-clause-short
returns-clause-short c =
    let l : length c.args.self.chip.now.cards ≡ most_cards * card_size = search rules in
    let t = (list_data_fits c.args.self.chip.now c.args.self.in_range c.args.card c.requires l).short in
    let e = ap length c.text_at.ensures in
    omega arith
