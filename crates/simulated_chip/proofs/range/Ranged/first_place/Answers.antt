use Rattle.std.proofs.Common.{rules, arith}
use Rattle.std.proofs.lemmas.Iterator.{YieldsList-from_range, serves_from_Range}
use Rattle.std.proofs.lemmas.Iterator.Search.{position_from_yields_List}
use Rattle.simulated_chip.specs.RangeLaws.{few_cards}
use Rattle.simulated_chip.specs.SearchLaws.{stored_test, first_found}
use Rattle.simulated_chip.proofs.range.Ranged.first_place.Goals as goal

pub position-requires-clause-callable : goal.position-requires-clause-callable
position-requires-clause-callable c =
    let f = few_cards c.args.self.chip.now c.args.self.in_range in
    serves_from_Range (λ x q k. search rules) (λ x low high. search rules)

pub returns-clause-place : goal.returns-clause-place
returns-clause-place c =
    let a = c.args in
    let chip = a.self.chip.now in
    first_found chip a.kind a.code _ a.self.in_range
    (position_from_yields_List (stored_test chip a.kind a.code) _ _ _ c.position.ensures.ran (YieldsList-from_range 0 chip.state.count chip.state.count (cc) (omega arith)) (λ x b q k. search rules))
