-- Document 02, N9, of any list of rounds from empty, the refused ones among them: the list that the code keeps is the one worked out afresh from
-- the accepted rounds, and each answer, with its arrivals and departures, is the one defined there.
use Rattle.std.specs.Prelude.{◌≡◌}
use Rattle.std.proofs.Math.Bool.{true}
use mathlib.Core.List.{List as Seq, [], ◌∷◌, map}
use Rattle.std.proofs.Math.ListN.{length}
use Rattle.presence_list.specs.declared.list.State.{State}
use Rattle.presence_list.specs.declared.list.Presence.{Presence}
use Rattle.presence_list.specs.Names.{cards_size}
use Rattle.presence_list.specs.Keyed.{only}
use Rattle.presence_list.specs.Memory.{pieces, in_range_in, found_in}
use Rattle.presence_list.specs.Afresh.{seen_last, last_found}
use Rattle.presence_list.specs.Presence.{Round, every, present_of, answer_to, accepted_with}
use Rattle.presence_list.specs.Steps.{Rounded, list_in_range}
use Rattle.presence_list.specs.Runs.{RoundInput, round_in, present_in, round_answer_in}

-- the numbers of a list whose accepted rounds these are
abbrev pub Numbered : Seq Round → State → Type 0
Numbered [] s = (s.begun ≡ 0) × (s.count ≡ 0)
Numbered (p ∷ ps) s = (s.begun ≡ 1) × (s.number ≡ p.number)

-- a list is the one of these accepted rounds
pub record ListRepresents (past : Seq Round) (l : Presence) : Type 0 where
  pub room : length l.cards ≡ cards_size
  pub numbered : Numbered past l.state
  pub range : list_in_range l.state l.cards ≡ true
  pub records : every in_range_in (pieces l.state.count l.cards) ≡ true
  pub present : present_in l ≡ present_of past
  pub last : map found_in (only seen_last (pieces l.state.count l.cards)) ≡ last_found past

-- one round: its answer, and the list after it
pub record RoundAgrees (past : Seq Round) (i : RoundInput) (r : Rounded) : Type 0 where
  pub answered : round_answer_in r ≡ answer_to past (round_in i)
  pub leaves : ListRepresents (accepted_with (answer_to past (round_in i)) (round_in i) past) r.list
