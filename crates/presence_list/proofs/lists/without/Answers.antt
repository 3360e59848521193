use Rattle.std.proofs.Common.{arith, refl, ◌∙◌, get_or, []}
use Rattle.presence_list.specs.Growth.{without_grows, grown_none, grown_more, grown_all}
use Rattle.presence_list.specs.Keyed.{without as without_of}
use Rattle.presence_list.specs.Memory.{card_in}
use Rattle.presence_list.specs.MemoryLaws.{whole_each}
use Rattle.presence_list.proofs.Searches.{not_found, is_found}
use Rattle.presence_list.specs.Puts.{not_missing, put_missing}
use Rattle.presence_list.proofs.lists.without.Goals as goal
use Rattle.presence_list.proofs.lists.without.Goals.{then-is_err, else-is_err}

pub loop-card-init : goal.loop-card-init
loop-card-init c =
    let a = c.args in
    grown_none (without_of card_in a.other.now) (without_grows a.other.now) a.cards.now a.out.now (whole_each a.cards.now c.told-cards) c.requires.1

pub put_at-requires : goal.put_at-requires
put_at-requires c = let i = c.loop-card.invariant in let p = c.requires in omega arith

pub loop-card-preserved : goal.loop-card-preserved
loop-card-preserved c =
    let a = c.args in
    let l = c.loop-card in
    let i = l.card-index in
    let h = c.loop-card-test.true in
    let w = whole_each a.cards.now c.told-cards in
    let f = without_of card_in a.other.now in
    let g = without_grows a.other.now in
    elim c.if-is_err.branch [
      | then-is_err b ↦
          let m = not_found c.card_of.result.now a.other.now c.search.result _ c.search.ensures c.is_err.ensures.value b.if-is_err.true in
          let k = put_missing (get_or a.cards.now i []) l.out l.n a.other.now _ (c.told-cards i h) (rw c.card_of.ensures at m) b.put_at.ensures in
          grown_more f g a.cards.now a.out.now w c.requires.1 i l.n _ l.out _ _ l.invariant h refl (b.n-is ∙ k.0) (b.out-is ∙ k.1)
      | else-is_err b ↦
          let m = is_found c.card_of.result.now a.other.now c.search.result _ c.search.ensures c.is_err.ensures.value b.if-is_err.false in
          let k = not_missing (get_or a.cards.now i []) l.out l.n a.other.now (rw c.card_of.ensures at m) in
          grown_more f g a.cards.now a.out.now w c.requires.1 i l.n _ l.out _ _ l.invariant h refl (b.n-is ∙ k.0) (b.out-is ∙ k.1)
    ]

pub returns : goal.returns
returns c =
    let a = c.args in
    let l = c.loop-card in
    grown_all (without_of card_in a.other.now) (without_grows a.other.now) a.cards.now a.out.now (whole_each a.cards.now c.told-cards) c.requires.1 l.card-index l.n l.out l.invariant c.loop-card-test.false
