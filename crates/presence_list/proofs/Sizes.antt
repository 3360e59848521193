-- No list that a round leaves, and no report, has more cards than a list takes.
use Rattle.std.specs.Prelude.{◌≡◌, refl, Bool, true, false, List as Seq, ℕ, ◌≤◌, ltb, length, Result, Ok, Err}
use Rattle.std.proofs.Common.{sym, arith, ltb-false}
use Rattle.errors.specs.Choice.{pick}
use Rattle.errors.specs.declared.RoundRefusal.{RoundRefusal}
use Rattle.errors.specs.declared.RoundRefusal.TheVariants.{ListFull}
use Rattle.presence_list.specs.declared.list.Presence.{Presence}
use Rattle.presence_list.specs.declared.list.Counts.{Counts}
use Rattle.presence_list.specs.Names.{card_limit}
use Rattle.presence_list.specs.Memory.{pieces}
use Rattle.presence_list.specs.MemoryLaws.{length-pieces}
use Rattle.presence_list.specs.Growth.{without_short}
use Rattle.presence_list.specs.Admissions.{range_few, admitted}
use Rattle.presence_list.specs.Steps.{rounded, records_of, admission_of, list_after, changed, refused_round, by_admission, accept_of, round_of}
use Rattle.presence_list.specs.Sizes.{FewAfter}

pub few_after : (l : Presence) (n : ℕ) (b : Seq ℕ) → FewAfter (round_of l n b).answer (round_of l n b).list.state.count
unfolding round_of accept_of pick
few_after l n b = by-admission (admission_of l.state l.cards n b) refl
  where
    by-room : l.state.count ≤ card_limit → (next : Seq (Seq ℕ)) (t : Bool) → ltb card_limit (length next) ≡ t
        → FewAfter (pick t (refused_round l ListFull) (changed l (pieces l.state.count l.cards) next n)).answer
        (pick t (refused_round l ListFull) (changed l (pieces l.state.count l.cards) next n)).list.state.count
    by-room few next true h = tt
    by-room few next false h =
        let m = ltb-false card_limit (length next) h in
        let c = without_short (pieces l.state.count l.cards) next in
        let d = without_short next (pieces l.state.count l.cards) in
        let s = length-pieces l.state.count l.cards in
        (omega arith, omega arith, m)

    by-admission : (a : Result (Unit {0}) RoundRefusal) → admission_of l.state l.cards n b ≡ a
        → FewAfter (by_admission a l n (records_of b)).answer (by_admission a l n (records_of b)).list.state.count
    by-admission (Err e) h = tt
    by-admission (Ok u) h =
        by-room (range_few l.state l.cards (admitted l.state l.cards n b (sym h)).0)
        (list_after (pieces l.state.count l.cards) (records_of b)) (ltb card_limit (length (list_after (pieces l.state.count l.cards) (records_of b)))) refl

-- the counts that a caller gets
pub few_known : (l : Presence) (n : ℕ) (b : Seq ℕ) (m : Presence) (c : Counts) → rounded m (Ok c) ≡ round_of l n b
    → (c.arrived ≤ card_limit) × (c.departed ≤ card_limit) × (m.state.count ≤ card_limit)
few_known l n b m c p = rw (← p) at (few_after l n b)
