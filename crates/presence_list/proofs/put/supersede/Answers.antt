use Rattle.std.proofs.Common.{arith}
use Rattle.presence_list.specs.Puts.{old_place, new_place, put_old, put_new, put_not}
use Rattle.presence_list.proofs.put.supersede.Goals as goal

pub put_at-requires : goal.put_at-requires
put_at-requires c =
    let a = c.args in
    let p = c.requires in
    let s = rw (c.card_of.ensures, c.first_records.ensures) at c.in-Ok.ensures in
    let o = old_place a.cards.now a.found.now a.count c.in-Ok.place c.told-found p.0 p.1 p.2 s.0 s.1 in
    let r = p.1.room in
    omega arith

pub insert-requires : goal.insert-requires
insert-requires c =
    let a = c.args in
    let p = c.requires in
    let s = rw (c.card_of.ensures, c.first_records.ensures) at c.in-Err.ensures in
    let n = new_place a.cards.now a.found.now a.count c.in-Err.place c.told-found p.0 p.1 p.2 s.0 s.1 in
    omega arith

pub returns-then-count-lt-CARD_LIMIT : goal.returns-then-count-lt-CARD_LIMIT
returns-then-count-lt-CARD_LIMIT c =
    let a = c.args in
    let p = c.requires in
    let s = rw (c.card_of.ensures, c.first_records.ensures) at c.in-Err.ensures in
    put_new a.cards.now a.found.now a.count c.in-Err.place c.told-found p.0 p.1 p.2 s.0 s.1 _ _ c.entry_of-entry.ensures c.if-count-lt-CARD_LIMIT.true c.insert.ensures

pub returns-in-Ok : goal.returns-in-Ok
returns-in-Ok c =
    let a = c.args in
    let p = c.requires in
    let s = rw (c.card_of.ensures, c.first_records.ensures) at c.in-Ok.ensures in
    put_old a.cards.now a.found.now a.count c.in-Ok.place c.told-found p.0 p.1 p.2 s.0 s.1 _ _ c.entry_of-entry.ensures c.put_at.ensures

pub returns-else-count-lt-CARD_LIMIT : goal.returns-else-count-lt-CARD_LIMIT
returns-else-count-lt-CARD_LIMIT c =
    let a = c.args in
    let p = c.requires in
    let s = rw (c.card_of.ensures, c.first_records.ensures) at c.in-Err.ensures in
    put_not a.cards.now a.found.now a.count c.in-Err.place c.told-found p.0 p.1 p.2 s.0 s.1 a.cards.now c.if-count-lt-CARD_LIMIT.false
