use Rattle.std.proofs.Common.{rules}
use Rattle.simulated_chip.specs.ResponseLaws.{listed_present}
use Rattle.simulated_chip.proofs.range.Ranged.put_listed.Goals as goal

pub returns : goal.returns
returns c =
    let a = c.args in
    rw (c.in-Some.is) (listed_present a.self.chip.now _ _ a.absent a.present c.in-Some.card _ (search rules) c.list_data.ensures.text c.put_response-2.ensures)
