use Rattle.std.proofs.Common.{arith, refl, get_or, []}
use Rattle.std.proofs.lemmas.Result.{err_from_is_err_and}
use Rattle.presence_list.specs.MemoryLaws.{whole_each}
use Rattle.presence_list.specs.Fills.{filled_none, filled_cards_at, filled_fit, filled_more, filled_over, filled_all}
use Rattle.presence_list.proofs.put.supersede_all.Goals as goal

pub loop-record-init : goal.loop-record-init
loop-record-init c = let a = c.args in let p = c.requires in filled_none a.cards.now a.count a.records.now p.1 p.2 p.3 (whole_each a.records.now c.told-records) p.0

pub supersede-requires : goal.supersede-requires
supersede-requires c =
    let a = c.args in
    let p = c.requires in
    let l = c.loop-record in
    let w = whole_each a.records.now c.told-records in (
      filled_fit a.cards.now a.count a.records.now p.1 p.2 p.3 w p.0 l.record-index l.n l.cards l.invariant _ c.loop-record-test.true refl,
      filled_cards_at a.cards.now a.count a.records.now p.1 p.2 p.3 w p.0 l.record-index l.n l.cards l.invariant,
      l.invariant.1,
      omega arith,
    )

pub returns-in_err-n : goal.returns-in_err-n
returns-in_err-n c =
    let a = c.args in
    let p = c.requires in
    let l = c.loop-record in
    let e = err_from_is_err_and c.from_residual.result c.from_residual.ensures.1 in
    rw (e.1, e.2)
    (filled_over a.cards.now a.count a.records.now p.1 p.2 p.3 (whole_each a.records.now c.told-records) p.0 l.record-index l.n l.cards l.invariant (get_or a.records.now l.record-index []) c.loop-record-test.true refl c.in_err-n.field-0.0 c.supersede.new.cards c.in_err-n.ensures)

pub loop-record-preserved : goal.loop-record-preserved
loop-record-preserved c =
    let a = c.args in
    let p = c.requires in
    let l = c.loop-record in
    filled_more a.cards.now a.count a.records.now p.1 p.2 p.3 (whole_each a.records.now c.told-records) p.0 l.record-index l.n l.cards l.invariant _ c.loop-record-test.true refl _ _ c.in_ok-n.ensures

pub returns : goal.returns
returns c =
    let a = c.args in
    let p = c.requires in
    let l = c.loop-record in
    filled_all a.cards.now a.count a.records.now p.1 p.2 p.3 (whole_each a.records.now c.told-records) p.0 l.record-index l.n l.cards l.invariant c.loop-record-test.false
