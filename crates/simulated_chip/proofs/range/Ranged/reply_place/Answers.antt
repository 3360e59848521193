use Rattle.std.proofs.Common.{rules, ℕ, ◌+◌, ◌*◌, arith}
use Rattle.std.proofs.lemmas.Iterator.{YieldsList-from_range, serves_from_Range, first_from_Range}
use Rattle.std.proofs.lemmas.Iterator.Search.{find_from_yields_List}
use Rattle.simulated_chip.specs.Memory.{card_replies}
use Rattle.simulated_chip.specs.RangeLaws.{few_cards, card_fits, sent_fits}
use Rattle.simulated_chip.specs.SearchLaws.{sent_test, reply_searched, below_places}
use Rattle.simulated_chip.proofs.range.Ranged.reply_place.Goals as goal

pub find-requires-clause-callable : goal.find-requires-clause-callable
find-requires-clause-callable c =
    let chip = c.args.self.chip.now in
    let f = few_cards chip c.args.self.in_range in
    let n = (card_fits chip c.args.self.in_range c.args.card c.requires).replies in
    serves_from_Range (λ x q k. search rules) (λ x low high. let t = sent_fits chip c.args.self.in_range x (omega arith) in search rules)

pub returns-clause-reply : goal.returns-clause-reply
returns-clause-reply c =
    let a = c.args in
    let chip = a.self.chip.now in
    let first : ℕ = card_replies * a.card in
    let n = c.from-count.result in
    reply_searched chip a.card a.bytes.now first n _ (search rules) (search rules)
    (find_from_yields_List (sent_test chip.sent a.bytes.now) _ _ _ c.find.ensures.ran (YieldsList-from_range first (first + n) n (cc) (omega arith)) (λ x b q k. search rules))

pub returns-clause-few : goal.returns-clause-few
returns-clause-few c =
    let chip = c.args.self.chip.now in
    let f = few_cards chip c.args.self.in_range in
    let k = c.requires in
    let n = (card_fits chip c.args.self.in_range c.args.card k).replies in
    below_places _ _ _ (omega arith) _ (λ x. Unit {0}) _ (first_from_Range _ _ _ _ (λ x. Unit {0}) (λ x. Unit {0}) c.find.ensures.ran (λ x q k. tt) (λ x q k. (search rules, tt)))
