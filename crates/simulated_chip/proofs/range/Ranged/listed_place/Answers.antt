use Rattle.std.proofs.Common.{rules, refl}
use Rattle.simulated_chip.specs.SearchLaws.{listed_a, listed_b, listed_f, listed_none}
use Rattle.simulated_chip.proofs.range.Ranged.listed_place.Goals as goal

pub returns-in-0-clause-place : goal.returns-in-0-clause-place
returns-in-0-clause-place c = listed_a _ c.args.bytes.now _ _ _ c.code_searched-code.ensures c.initiator_length.ensures c.in-0.is c.first_place.ensures.place

pub returns-in-1-clause-place : goal.returns-in-1-clause-place
returns-in-1-clause-place c = listed_b _ c.args.bytes.now _ _ _ c.code_searched-code.ensures c.initiator_length.ensures c.in-1.is c.first_place-in-1.ensures.place

pub returns-in-5-clause-place : goal.returns-in-5-clause-place
returns-in-5-clause-place c = listed_f _ c.args.bytes.now _ _ _ c.code_searched-code.ensures c.initiator_length.ensures c.in-5.is c.first_place-in-5.ensures.place

pub returns-in_default-clause-place : goal.returns-in_default-clause-place
returns-in_default-clause-place c =
    let d = c.in_default in
    listed_none _ c.args.bytes.now _ _ _ c.code_searched-code.ensures c.initiator_length.ensures (search rules) (search rules) (search rules) refl
