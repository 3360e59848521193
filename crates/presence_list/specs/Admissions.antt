-- What an admitted round shows of the list and the records.
use Rattle.std.specs.Prelude.{◌≡◌, refl, Bool, true, false, List as Seq, ℕ, ◌≤◌, leb, eqb, length, Result, Ok, Err}
use Rattle.std.proofs.Common.{arith}
use borrow.Author.Tests.{leb-true, eqb-true}
use Rattle.errors.specs.Choice.{pick}
use Rattle.errors.specs.declared.Refusal.TheVariants.{OverLong, OutOfTurn, BadArgument}
use Rattle.errors.specs.declared.RoundRefusal.TheVariants.{AtOnce, StaleRound}
use Rattle.errors.specs.declared.RoundRefusal.{RoundRefusal}
use Rattle.presence_list.specs.declared.list.State.{State}
use Rattle.presence_list.specs.Names.{card_limit, cards_size}
use Rattle.presence_list.specs.CardsAt.{CardsAt}
use Rattle.presence_list.specs.Lookups.{cards_at_in_range}
use Rattle.presence_list.specs.Memory.{pieces, long_in, in_range_in, ascending}
use Rattle.presence_list.specs.Presence.{any, every}
use Rattle.presence_list.specs.Steps.{list_in_range, records_of, admission_of, readable_in, stale_at}

-- a choice that is true has a true test, where its other way is false
chosen : (t u : Bool) → pick t u false ≡ true → (t ≡ true) × (u ≡ true)
unfolding pick
chosen true u h = (refl, h)
chosen false u h = (cc, cc)

pub range_cards_at : (s : State) (c : Seq ℕ) → length c ≡ cards_size → list_in_range s c ≡ true → CardsAt s.count c × (s.count ≤ card_limit)
unfolding list_in_range pick pieces every ascending
range_cards_at s c l h = go (eqb s.begun 0) h
  where
    none : (k : ℕ) → k ≡ 0 → CardsAt k c × (k ≤ card_limit)
    none k e = rw e (record { room = omega arith; fit = tt; sorted = tt }, omega arith)

    some : pick (eqb s.begun 1) (pick (leb s.count card_limit) (pick (every in_range_in (pieces s.count c)) (ascending (pieces s.count c)) false) false) false ≡ true
        → CardsAt s.count c × (s.count ≤ card_limit)
    some h =
        let a = chosen (leb s.count card_limit) _ (chosen (eqb s.begun 1) _ h).1 in
        let b = chosen (every in_range_in (pieces s.count c)) _ a.1 in
        let m = leb-true s.count card_limit a.0 in
        (cards_at_in_range s.count c (omega arith) b.0 b.1, m)

    go : (t : Bool)
        → pick t (eqb s.count 0)
        (pick (eqb s.begun 1) (pick (leb s.count card_limit) (pick (every in_range_in (pieces s.count c)) (ascending (pieces s.count c)) false) false) false) ≡ true
        → CardsAt s.count c × (s.count ≤ card_limit)
    go true h = none s.count (eqb-true s.count 0 h)
    go false h = some h

-- it has no more cards than a list takes
pub range_few : (s : State) (c : Seq ℕ) → list_in_range s c ≡ true → s.count ≤ card_limit
unfolding list_in_range pick
range_few s c h = go (eqb s.begun 0) h
  where
    go : (t : Bool)
        → pick t (eqb s.count 0)
        (pick (eqb s.begun 1) (pick (leb s.count card_limit) (pick (every in_range_in (pieces s.count c)) (ascending (pieces s.count c)) false) false) false) ≡ true
        → s.count ≤ card_limit
    go true h = let z = eqb-true s.count 0 h in omega arith
    go false h = leb-true s.count card_limit (chosen (leb s.count card_limit) _ (chosen (eqb s.begun 1) _ h).1).0

pub admitted : (s : State) (c : Seq ℕ) (n : ℕ) (b : Seq ℕ) → ◌≡◌ {A = Result (Unit {0}) RoundRefusal} (Ok tt) (admission_of s c n b) → (list_in_range s c ≡ true) × (any long_in (records_of b) ≡ false)
unfolding admission_of pick
admitted s c n b p = go (any long_in (records_of b)) (list_in_range s c) refl refl p
  where
    go : (t u : Bool) → any long_in (records_of b) ≡ t → list_in_range s c ≡ u
        → ◌≡◌ {A = Result (Unit {0}) RoundRefusal} (Ok tt)
        (pick t (Err (AtOnce OverLong)) (pick u (pick (readable_in b) (pick (stale_at s n) (Err StaleRound) (Ok tt)) (Err (AtOnce BadArgument))) (Err (AtOnce OutOfTurn))))
        → (list_in_range s c ≡ true) × (any long_in (records_of b) ≡ false)
    go true u e f h = (cc, cc)
    go false true e f h = (f, e)
    go false false e f h = (cc, cc)
