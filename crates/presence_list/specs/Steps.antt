-- What a round does to a list in memory.
use Rattle.std.specs.Prelude.{Bool, false, List as Seq, ℕ, ◌/◌, ◌%◌, ltb, leb, eqb, length, replicate, Result, Ok, Err}
use Rattle.errors.specs.Choice.{pick}
use Rattle.errors.specs.declared.Refusal.TheVariants.{OverLong, OutOfTurn, BadArgument}
use Rattle.errors.specs.declared.RoundRefusal.{RoundRefusal}
use Rattle.errors.specs.declared.RoundRefusal.TheVariants.{AtOnce, StaleRound, ListFull}
use Rattle.presence_list.specs.declared.list.State.{State}
use Rattle.presence_list.specs.declared.list.Presence.{Presence}
use Rattle.presence_list.specs.declared.list.Counts.{Counts}
use Rattle.presence_list.specs.Names.{record_size, card_limit, cards_size}
use Rattle.presence_list.specs.Keyed.{supersede_all, without}
use Rattle.presence_list.specs.Memory.{pieces, laid, card_in, long_in, is_known_in, in_range_in, ascending, aged, kept_records}
use Rattle.presence_list.specs.Presence.{any, every}

-- a list of which nothing is out of range or order; it is empty before the first accepted round
unfoldable pub list_in_range : State → Seq ℕ → Bool
list_in_range s cards =
    pick (eqb s.begun 0) (eqb s.count 0)
    (pick (eqb s.begun 1) (pick (leb s.count card_limit) (pick (every in_range_in (pieces s.count cards)) (ascending (pieces s.count cards)) false) false) false)

unfoldable pub stale_at : State → ℕ → Bool
stale_at s n = pick (eqb s.begun 0) false (leb n s.number)

-- the lent records
abbrev pub records_of : Seq ℕ → Seq (Seq ℕ)
records_of b = pieces (length b / record_size) b

unfoldable pub readable_in : Seq ℕ → Bool
readable_in b = pick (eqb (length b % record_size) 0) (every is_known_in (records_of b)) false

unfoldable pub admission_of : State → Seq ℕ → ℕ → Seq ℕ → Result (Unit {0}) RoundRefusal
admission_of s cards n b =
    pick (any long_in (records_of b)) (Err (AtOnce OverLong))
    (pick (list_in_range s cards)
    (pick (readable_in b) (pick (stale_at s n) (Err StaleRound) (Ok tt)) (Err (AtOnce BadArgument)))
    (Err (AtOnce OutOfTurn)))

-- a list after a round, and what the round was answered
pub record Rounded : Type 0 where
  pub list : Presence
  pub answer : Result Counts RoundRefusal

abbrev pub rounded : Presence → Result Counts RoundRefusal → Rounded
rounded l r = record { list = l; answer = r }

abbrev pub refused_round : Presence → RoundRefusal → Rounded
refused_round l r = rounded l (Err r)

-- the list's records after a round
abbrev pub list_after : Seq (Seq ℕ) → Seq (Seq ℕ) → Seq (Seq ℕ)
list_after now found = supersede_all card_in (aged now) (kept_records found)

-- what is left of a list where its records now become others
abbrev pub changed : Presence → Seq (Seq ℕ) → Seq (Seq ℕ) → ℕ → Rounded
changed l now next n =
    rounded
    (record {
      cards = laid next (replicate cards_size 0);
      arrived = laid (without card_in now next) l.arrived;
      departed = laid (without card_in next now) l.departed;
      state = record { number = n; begun = 1; count = length next };
    })
    (Ok (record { arrived = length (without card_in now next); departed = length (without card_in next now) }))

unfoldable pub accept_of : Presence → ℕ → Seq (Seq ℕ) → Rounded
accept_of l n found =
    pick (ltb card_limit (length (list_after (pieces l.state.count l.cards) found))) (refused_round l ListFull)
    (changed l (pieces l.state.count l.cards) (list_after (pieces l.state.count l.cards) found) n)

abbrev pub by_admission : Result (Unit {0}) RoundRefusal → Presence → ℕ → Seq (Seq ℕ) → Rounded
by_admission (Ok admitted) l n found = accept_of l n found
by_admission (Err r) l n found = refused_round l r

unfoldable pub round_of : Presence → ℕ → Seq ℕ → Rounded
round_of l n b = by_admission (admission_of l.state l.cards n b) l n (records_of b)

abbrev pub empty_list : Presence
empty_list =
    record
    { cards = replicate cards_size 0; arrived = replicate cards_size 0; departed = replicate cards_size 0; state = record { number = 0; begun = 0; count = 0 } }
