use Rattle.std.proofs.Common.{◌≡◌, rules}
use Rattle.std.proofs.lemmas.Fn.{always_returns_same}
use Rattle.presence_list.proofs.Searches.{searched, order_to}
use Rattle.presence_list.proofs.lists.search.Goals as goal

pub returns : goal.returns
returns c =
    searched c.args.cards.now c.args.card.now c.binary_search_by.result c.requires c.binary_search_by.ensures.bound
    (c.binary_search_by.ensures.position (order_to c.args.card.now) (always_returns_same _ (λ a r. r ≡ order_to c.args.card.now a.0.now) _ (λ a r g k. search rules)))
