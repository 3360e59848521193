use Rattle.std.proofs.Common.{◌≡◌, rules, arith, length}
use Rattle.std.proofs.lemmas.Result.{err_from_is_err_and}
use Rattle.presence_list.specs.Names.{cards_size}
use Rattle.presence_list.specs.MemoryLaws.{whole_each, length-pieces}
use Rattle.presence_list.specs.Admissions.{range_cards_at}
use Rattle.presence_list.specs.Accepts.{aged_cards_at, accept_full, put_cards_at, accept_done}
use Rattle.presence_list.proofs.list.Presence.accept.Goals as goal

pub age-aged-requires : goal.age-aged-requires
age-aged-requires c =
    let s = c.args.self.now in
    let k = range_cards_at s.state s.cards (search rules) c.requires.0 in
    let n = length-pieces s.state.count s.cards in
    rw (c.first_records-cards.ensures, c.from.ensures) (omega arith)

pub supersede_all-requires : goal.supersede_all-requires
supersede_all-requires c =
    let s = c.args.self.now in
    let k = range_cards_at s.state s.cards (search rules) c.requires.0 in
    let p = rw (c.first_records-cards.ensures, c.from.ensures) at c.age-aged.ensures in
    let r = aged_cards_at s c.args.records.now (whole_each c.args.records.now c.told-records) k.0 k.1 c.requires.1 _ _ p in
    (c.requires.1, r.0, r.1, r.2)

pub returns-in_err-n : goal.returns-in_err-n
returns-in_err-n c =
    let s = c.args.self.now in
    let k = range_cards_at s.state s.cards (search rules) c.requires.0 in
    let p = rw (c.first_records-cards.ensures, c.from.ensures) at c.age-aged.ensures in
    let e = err_from_is_err_and c.from_residual.result c.from_residual.ensures.1 in
    rw (e.1, e.2)
    (accept_full s c.args.records.now (whole_each c.args.records.now c.told-records) k.0 k.1 c.requires.1 _ _ p c.supersede_all.new.cards c.args.number c.in_err-n.field-0.0 c.in_err-n.ensures)

pub without-arrived-requires : goal.without-arrived-requires
without-arrived-requires c =
    let s = c.args.self.now in
    let k = range_cards_at s.state s.cards (search rules) c.requires.0 in
    let l : length s.arrived ≡ cards_size = search rules in
    let p = rw (c.first_records-cards.ensures, c.from.ensures) at c.age-aged.ensures in
    let n = put_cards_at s c.args.records.now (whole_each c.args.records.now c.told-records) k.0 k.1 c.requires.1 _ _ p _ _ c.in_ok-n.ensures in
    let m = length-pieces c.in_ok-n.n c.supersede_all.new.cards in
    rw (c.first_records-cards.ensures, c.from.ensures, c.first_records-next.ensures) (k.0.sorted, let r = c.in_ok-n.ensures.1 in omega arith)

pub without-departed-requires : goal.without-departed-requires
without-departed-requires c =
    let s = c.args.self.now in
    let k = range_cards_at s.state s.cards (search rules) c.requires.0 in
    let l : length s.departed ≡ cards_size = search rules in
    let p = rw (c.first_records-cards.ensures, c.from.ensures) at c.age-aged.ensures in
    let n = put_cards_at s c.args.records.now (whole_each c.args.records.now c.told-records) k.0 k.1 c.requires.1 _ _ p _ _ c.in_ok-n.ensures in
    let m = length-pieces s.state.count s.cards in
    rw (c.first_records-next.ensures, c.first_records-cards.ensures, c.from.ensures) (n.sorted, omega arith)

pub returns : goal.returns
returns c =
    let s = c.args.self.now in
    let k = range_cards_at s.state s.cards (search rules) c.requires.0 in
    let p = rw (c.first_records-cards.ensures, c.from.ensures) at c.age-aged.ensures in
    let a = rw (c.first_records-cards.ensures, c.from.ensures, c.first_records-next.ensures) at c.without-arrived.ensures in
    let d = rw (c.first_records-cards.ensures, c.from.ensures, c.first_records-next.ensures) at c.without-departed.ensures in
    accept_done s c.args.records.now (whole_each c.args.records.now c.told-records) k.0 k.1 c.requires.1 _ _ p _ _ c.in_ok-n.ensures _ _ c.args.number _ _ a d
