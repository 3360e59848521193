use Rattle.std.proofs.Common.{arith, refl, ◌∙◌, get_or, []}
use Rattle.presence_list.specs.Growth.{aged_grows, grown_none, grown_more, grown_all}
use Rattle.presence_list.specs.Memory.{aged}
use Rattle.presence_list.specs.MemoryLaws.{whole_each}
use Rattle.presence_list.specs.Puts.{not_aged, put-aged}
use Rattle.presence_list.proofs.lists.age.Goals as goal
use Rattle.presence_list.proofs.lists.age.Goals.{then-card-eq0, else-card-eq0}

pub loop-card-init : goal.loop-card-init
loop-card-init c = grown_none aged aged_grows c.args.cards.now c.args.out.now (whole_each c.args.cards.now c.told-cards) c.requires

pub put_at-requires : goal.put_at-requires
put_at-requires c = let i = c.loop-card.invariant in let p = c.requires in omega arith

pub loop-card-preserved : goal.loop-card-preserved
loop-card-preserved c =
    let a = c.args in
    let l = c.loop-card in
    let i = l.card-index in
    let h = c.loop-card-test.true in
    let w = whole_each a.cards.now c.told-cards in
    elim c.if-card-eq0.branch [
      | then-card-eq0 b ↦
          let k = put-aged (get_or a.cards.now i []) l.out l.n _ (c.told-cards i h) b.if-card-eq0.true b.put_at.ensures in
          grown_more aged aged_grows a.cards.now a.out.now w c.requires i l.n _ l.out _ _ l.invariant h refl (b.n-is ∙ k.0) (b.out-is ∙ k.1)
      | else-card-eq0 b ↦
          let k = not_aged (get_or a.cards.now i []) l.out l.n b.if-card-eq0.false in
          grown_more aged aged_grows a.cards.now a.out.now w c.requires i l.n _ l.out _ _ l.invariant h refl (b.n-is ∙ k.0) (b.out-is ∙ k.1)
    ]

pub returns : goal.returns
returns c =
    let l = c.loop-card in
    grown_all aged aged_grows c.args.cards.now c.args.out.now (whole_each c.args.cards.now c.told-cards) c.requires l.card-index l.n l.out l.invariant c.loop-card-test.false
