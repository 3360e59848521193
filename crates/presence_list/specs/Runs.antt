-- Any list of rounds, the refused ones among them, handed to the code one after the other.
use Rattle.std.specs.Prelude.{List as Seq, [], ◌∷◌, map, ℕ, ◌%◌, eqb, length, Result, Ok, Err}
use Rattle.errors.specs.Refusals.{round_numbered}
use Rattle.presence_list.specs.declared.list.Presence.{Presence}
use Rattle.presence_list.specs.declared.list.Counts.{Counts}
use Rattle.errors.specs.declared.RoundRefusal.{RoundRefusal}
use Rattle.presence_list.specs.Names.{record_size}
use Rattle.presence_list.specs.Memory.{pieces, found_in}
use Rattle.presence_list.specs.Presence.{Found, Round, RoundAnswer, accepted, refused}
use Rattle.presence_list.specs.Steps.{Rounded, records_of, round_of}

-- a round as it is handed in: its number, and its records' bytes
pub record RoundInput : Type 0 where
  pub number : ℕ
  pub records : Seq ℕ

-- the round that it stands for
abbrev pub round_in : RoundInput → Round
round_in i = record { number = i.number; found = map found_in (records_of i.records); whole = eqb (length i.records % record_size) 0 }

-- the cards of a list
abbrev pub present_in : Presence → Seq Found
present_in l = map found_in (pieces l.state.count l.cards)

-- what a round's answer says
abbrev pub answer_said : Presence → Result Counts RoundRefusal → RoundAnswer
answer_said l (Ok n) =
    accepted (record { arrived = map found_in (pieces n.arrived l.arrived); departed = map found_in (pieces n.departed l.departed); present = present_in l })
answer_said l (Err e) = refused (round_numbered e).number

abbrev pub round_answer_in : Rounded → RoundAnswer
round_answer_in r = answer_said r.list r.answer

-- the list that is kept, and all the answers
unfoldable pub presence_after : Presence → Seq RoundInput → Presence
presence_after l [] = l
presence_after l (i ∷ is) = presence_after (round_of l i.number i.records).list is

unfoldable pub round_answers_in : Presence → Seq RoundInput → Seq RoundAnswer
round_answers_in l [] = []
round_answers_in l (i ∷ is) = round_answer_in (round_of l i.number i.records) ∷ round_answers_in (round_of l i.number i.records).list is
