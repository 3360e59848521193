use Rattle.simulated_chip.specs.AdditionLaws.{card-put}
use Rattle.simulated_chip.proofs.chip.Chip.put_card.Goals as goal

pub returns : goal.returns
returns c =
    let a = c.args in
    let chip = a.self.now in
    let n = c.from-n.ensures in
    card-put chip.state chip.cards chip.sent chip.replies a.kind a.bitrate a.list_data.now a.atqb.now _ _ _ _ _ _ c.kind_number.ensures c.br_ty.ensures (rw n at c.put_first-first.ensures) (rw n at c.put_card.ensures)
