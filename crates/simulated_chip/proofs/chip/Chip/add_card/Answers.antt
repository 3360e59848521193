use Rattle.std.proofs.Common.{rules}
use Rattle.simulated_chip.specs.Memory.{field_in}
use Rattle.simulated_chip.specs.Counted.{length_from}
use Rattle.simulated_chip.specs.AdmissionLaws.{card_taken}
use Rattle.simulated_chip.specs.AdditionLaws.{card-added, card_refused, card_out_of_range}
use Rattle.simulated_chip.proofs.chip.Chip.add_card.Goals as goal

pub returns-then-not-is_in_range : goal.returns-then-not-is_in_range
returns-then-not-is_in_range c =
    let a = c.args in
    card_out_of_range a.self.now a.kind a.bitrate a.list_data.now a.atqb.now _ c.is_in_range.ensures (search rules)

pub returns-in_err-admit_card : goal.returns-in_err-admit_card
returns-in_err-admit_card c =
    let a = c.args in
    let n = rw c.from.ensures at c.admit_card.ensures in
    card_refused a.self.now a.kind a.bitrate a.list_data.now a.atqb.now _ c.is_in_range.ensures (search rules) c.admit_card.result (n (field_in a.self.now) (length_from _ a.self.now.state.count 0)) c.in_err-admit_card.field-0.0 _ (search rules) (search rules)

pub put_card-requires : goal.put_card-requires
put_card-requires c =
    let a = c.args in
    let chip = a.self.now in
    card_taken chip.cards chip.sent chip.replies chip.state.count a.kind a.bitrate a.list_data.now a.atqb.now _ (rw c.from.ensures at c.admit_card.ensures) (search rules)

pub returns : goal.returns
returns c =
    let a = c.args in
    let n = rw c.from.ensures at c.admit_card.ensures in
    card-added a.self.now a.kind a.bitrate a.list_data.now a.atqb.now _ c.is_in_range.ensures (search rules) c.admit_card.result (n (field_in a.self.now) (length_from _ a.self.now.state.count 0)) c.put_card.new.self tt (search rules) c.put_card.ensures
