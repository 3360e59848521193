-- A card or a reply added to the chip's memory.
use Rattle.std.specs.Prelude.{Result, Ok, Err, Bool, false, List, ℕ, ◌+◌, ◌*◌, ◌-◌, ◌/◌, ◌%◌, ◌≤◌, ◌<◌, eqb, leb, ltb, length, get_or, set}
use Rattle.errors.specs.Choice.{pick}
use Rattle.errors.specs.declared.Refusal.{Refusal}
use Rattle.errors.specs.declared.Refusal.TheVariants.{OutOfTurn, OverLong}
use Rattle.targets.specs.TypeA.{is_type2}
use Rattle.targets.specs.declared.Bitrate.{Bitrate}
use Rattle.protocol.specs.Starts.{data_limit}
use Rattle.chip_protocol.specs.Names.{longest_list_data, longest_reply, most_cards, most_replies}
use Rattle.chip_protocol.specs.Field.{kind_number, br_ty, is_bitrate_of, wupb, least_list_data, protocol_fits, sel_res_byte}
use Rattle.chip_protocol.specs.Add.{Added as Outcome, added, refuses, wake_up_reply, add_card, add_reply}
use Rattle.simulated_chip.specs.Memory.{card_size, sent_size, reply_size, card_replies, br_ty_place, reply_count_place, list_data_place, text_at_of, put_text, cards_in}
use Rattle.simulated_chip.specs.Range.{in_range}
use Rattle.chip_protocol.specs.declared.Kind.{Kind}
use Rattle.chip_protocol.specs.declared.Kind.TheVariants.{TypeA, TypeB, TypeF, Dep}
use Rattle.simulated_chip.specs.declared.chip.State.{State}
use Rattle.simulated_chip.specs.declared.chip.Chip.{Chip}

-- ---- whether it is taken

-- that it was added, or a refusal
abbrev pub Addition : Type 0
Addition = Result (Unit {0}) Refusal

abbrev pub addition_in : Outcome → Addition
addition_in (added f) = Ok tt
addition_in (refuses e) = Err e

-- but for lengths
unfoldable pub is_sound : ℕ → Kind → Bitrate → List ℕ → Bool
is_sound count k r l = pick (ltb count most_cards) (pick (is_bitrate_of k r) (pick (leb (least_list_data k) (length l)) (protocol_fits k l) false) false) false

unfoldable pub is_protocol_byte_of : ℕ → Bool
is_protocol_byte_of byte = pick (eqb (byte % 2) 1) (eqb (byte / 8 % 2) 0) false

-- the card that starts at a place is a Type 2 card
unfoldable pub is_type2_in : ℕ → List ℕ → Bool
is_type2_in at cards = pick (eqb (get_or cards at 0) 0) (pick (eqb (get_or cards (at + br_ty_place) 0) 0) (is_type2 (get_or (text_at_of (at + list_data_place) cards) sel_res_byte 0)) false) false

unfoldable pub limit_of_kind : ℕ → ℕ
limit_of_kind kind = pick (eqb kind 1) card_replies most_replies

unfoldable pub lengths_addition : List ℕ → List ℕ → ℕ → ℕ → Addition
lengths_addition bytes reply count limit =
    pick (leb (length reply) longest_reply) (pick (leb (length bytes) data_limit) (pick (ltb count limit) (Ok tt) (Err OverLong)) (Err OverLong)) (Err OverLong)

-- what is known of a card or a reply that is taken
pub record CardAdmitted (count : ℕ) (k : Kind) (l w : List ℕ) : Type 0 where
  pub few : count < most_cards
  pub list_data : length l ≤ longest_list_data
  pub wake_up : length (wake_up_reply k w) ≤ longest_reply

pub record ReplyAdmitted (count : ℕ) (cards bytes reply : List ℕ) : Type 0 where
  pub some : 0 < count
  pub few : count ≤ most_cards
  pub replies : get_or cards (card_size * (count - 1) + reply_count_place) 0 < card_replies
  pub sent_short : length bytes ≤ data_limit
  pub reply_short : length reply ≤ longest_reply

-- ---- memory with it

unfoldable pub put_card_of : ℕ → ℕ → ℕ → ℕ → List ℕ → List ℕ → List ℕ
put_card_of at kind code count l cards = put_text (at + list_data_place) l (set (set (set cards at kind) (at + br_ty_place) code) (at + reply_count_place) count)

-- a Type B card has the reply to WUPB from its start
abbrev pub first_count : Kind → ℕ
first_count TypeA = 0
first_count TypeB = 1
first_count TypeF = 0
first_count Dep = 0

abbrev pub first_sent : Kind → ℕ → List ℕ → List ℕ
first_sent TypeA place sent = sent
first_sent TypeB place sent = put_text (sent_size * place) wupb sent
first_sent TypeF place sent = sent
first_sent Dep place sent = sent

abbrev pub first_reply : Kind → ℕ → List ℕ → List ℕ → List ℕ
first_reply TypeA place w replies = replies
first_reply TypeB place w replies = put_text (reply_size * place) w replies
first_reply TypeF place w replies = replies
first_reply Dep place w replies = replies

-- ---- the chip after it

pub record AfterAddition : Type 0 where
  pub state : State
  pub cards : List ℕ
  pub sent : List ℕ
  pub replies : List ℕ
  pub addition : Addition

abbrev pub after_addition : State → List ℕ → List ℕ → List ℕ → Addition → AfterAddition
after_addition s c t r a = record { state = s; cards = c; sent = t; replies = r; addition = a }

abbrev pub after_with : Chip → Addition → AfterAddition
after_with c a = after_addition c.state c.cards c.sent c.replies a

abbrev pub by_addition : AfterAddition → (Refusal → AfterAddition) → Addition → AfterAddition
by_addition x f (Ok t) = x
by_addition x f (Err e) = f e

module _ (s : State) (cards sent replies : List ℕ) where
  abbrev pub refused_with : Refusal → AfterAddition
  refused_with e = after_addition s cards sent replies (Err e)

  unfoldable pub card_put : Kind → Bitrate → List ℕ → List ℕ → AfterAddition
  card_put k r l w =
      after_addition (record { count = s.count + 1; found = s.found; on = s.on })
      (put_card_of (card_size * s.count) (kind_number k) (br_ty r) (first_count k) l cards)
      (first_sent k (card_replies * s.count) sent) (first_reply k (card_replies * s.count) w replies) (Ok tt)

  -- a chip out of range first, then 4 and 3 as `add_card` has them
  unfoldable pub add_card_in : Kind → Bitrate → List ℕ → List ℕ → AfterAddition
  add_card_in k r l w =
      pick (in_range s cards sent replies)
      (by_addition (card_put k r l w) refused_with (addition_in (add_card (cards_in s.count cards sent replies) k r l w)))
      (refused_with OutOfTurn)

  -- how many replies the last card has, and the place of the next
  abbrev pub last_replies : ℕ
  last_replies = get_or cards (card_size * (s.count - 1) + reply_count_place) 0

  abbrev pub next_place : ℕ
  next_place = card_replies * (s.count - 1) + last_replies

  unfoldable pub reply_put : List ℕ → List ℕ → AfterAddition
  reply_put bytes reply =
      after_addition s (set cards (card_size * (s.count - 1) + reply_count_place) (last_replies + 1)) (put_text (sent_size * next_place) bytes sent)
      (put_text (reply_size * next_place) reply replies) (Ok tt)

  unfoldable pub add_reply_in : List ℕ → List ℕ → AfterAddition
  add_reply_in bytes reply =
      pick (in_range s cards sent replies)
      (by_addition (reply_put bytes reply) refused_with (addition_in (add_reply (cards_in s.count cards sent replies) bytes reply)))
      (refused_with OutOfTurn)

-- ---- the same of the whole chip

pub record ChipAdded : Type 0 where
  pub chip : Chip
  pub addition : Addition

abbrev pub added_by : Chip → Addition → ChipAdded
added_by c a = record { chip = c; addition = a }

abbrev pub chip_added : AfterAddition → ChipAdded
chip_added x = added_by (record { cards = x.cards; sent = x.sent; replies = x.replies; state = x.state }) x.addition

unfoldable pub add_card_of : Chip → Kind → Bitrate → List ℕ → List ℕ → ChipAdded
add_card_of c k r l w = chip_added (add_card_in c.state c.cards c.sent c.replies k r l w)

unfoldable pub add_reply_of : Chip → List ℕ → List ℕ → ChipAdded
add_reply_of c bytes reply = chip_added (add_reply_in c.state c.cards c.sent c.replies bytes reply)
