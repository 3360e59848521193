-- The chip's memory: cards, bytes sent and replies, each at its place, and the definitions' state that stands there. A text is its length in two bytes,
-- low byte first, and its bytes. A card is kind, BrTy, how many replies it has, and its list data as a text; its replies are the nine from nine times
-- its place on.
use Rattle.std.specs.Prelude.{Option as Found, Some, None, Bool, true, false, List, ◌∷◌, ◌++◌, ℕ, zero, suc, ◌+◌, ◌*◌, ◌/◌, ◌%◌, eqb, length, take, drop, get_or}
use Rattle.std.proofs.Math.Option.{Option, none, some}
use Rattle.errors.specs.Choice.{pick}
use Rattle.targets.specs.declared.Bitrate.{Bitrate}
use Rattle.targets.specs.declared.Bitrate.TheVariants.{B106A, B212F, B424F, B106B}
use Rattle.chip_protocol.specs.Field.{StatedReply, Card}
use Rattle.chip_protocol.specs.Chip.{ChipState}
use Rattle.simulated_chip.specs.Counted.{list_from}
use Rattle.chip_protocol.specs.declared.Kind.{Kind}
use Rattle.chip_protocol.specs.declared.Kind.TheVariants.{TypeA, TypeB, TypeF, Dep}
use Rattle.simulated_chip.specs.declared.chip.State.{State}
use Rattle.simulated_chip.specs.declared.chip.Chip.{Chip}

-- the bytes of a card, of a text of bytes sent and of a reply's; the replies of a card, and of all
abbrev pub card_size : ℕ
card_size = 1015

abbrev pub sent_size : ℕ
sent_size = 514

abbrev pub reply_size : ℕ
reply_size = 1013

abbrev pub card_replies : ℕ
card_replies = 9

abbrev pub places : ℕ
places = 36

-- where a card has its BrTy, the number of its replies and its list data
abbrev pub br_ty_place : ℕ
br_ty_place = 1

abbrev pub reply_count_place : ℕ
reply_count_place = 2

abbrev pub list_data_place : ℕ
list_data_place = 3

-- ---- texts

abbrev pub text_length : ℕ → List ℕ → ℕ
text_length at b = get_or b at 0 + 256 * get_or b (at + 1) 0

unfoldable pub text_at_of : ℕ → List ℕ → List ℕ
text_at_of at b = take (text_length at b) (drop (at + 2) b)

abbrev pub text_bytes : List ℕ → List ℕ
text_bytes t = length t % 256 ∷ length t / 256 ∷ t

unfoldable pub put_text : ℕ → List ℕ → List ℕ → List ℕ
put_text at t b = take at b ++ (text_bytes t ++ drop (at + length (text_bytes t)) b)

-- ---- cards

unfoldable pub kind_at : ℕ → Kind
kind_at n = pick (eqb n 0) TypeA (pick (eqb n 1) TypeB (pick (eqb n 2) TypeF Dep))

unfoldable pub bitrate_at : ℕ → Bitrate
bitrate_at n = pick (eqb n 0) B106A (pick (eqb n 1) B212F (pick (eqb n 2) B424F B106B))

abbrev pub reply_at : ℕ → List ℕ → List ℕ
reply_at j replies = text_at_of (reply_size * j) replies

abbrev pub stated_at : ℕ → List ℕ → List ℕ → StatedReply
stated_at j sent replies = record { sent = text_at_of (sent_size * j) sent; reply = reply_at j replies }

-- n replies from the place j on
abbrev pub stated_from : ℕ → ℕ → List ℕ → List ℕ → List StatedReply
stated_from n j sent replies = list_from (λ (k : ℕ). stated_at k sent replies) n j

abbrev pub stored_card : ℕ → List ℕ → List ℕ → List ℕ → Card
stored_card i cards sent replies =
    record {
      kind = kind_at (get_or cards (card_size * i) 0);
      bitrate = bitrate_at (get_or cards (card_size * i + br_ty_place) 0);
      list_data = text_at_of (card_size * i + list_data_place) cards;
      replies = stated_from (get_or cards (card_size * i + reply_count_place) 0) (card_replies * i) sent replies;
    }

abbrev pub cards_in : ℕ → List ℕ → List ℕ → List ℕ → List Card
cards_in n cards sent replies = list_from (λ (i : ℕ). stored_card i cards sent replies) n 0

-- of the kind with this number, at the bitrate that has this code
unfoldable pub is_stored_at : ℕ → ℕ → ℕ → List ℕ → Bool
is_stored_at kind code at cards = pick (eqb (get_or cards at 0) kind) (eqb (get_or cards (at + br_ty_place) 0) code) false

-- the replies of a card
abbrev pub card_replies_in : ℕ → Chip → List StatedReply
card_replies_in i c = stated_from (get_or c.cards (card_size * i + reply_count_place) 0) (card_replies * i) c.sent c.replies

-- ---- places: what a search found; in the chip's numbers the number behind one, 0 for none

abbrev pub place_of : Found ℕ → Option ℕ
place_of None = none
place_of (Some n) = some n

-- the reply at such a place
abbrev pub reply_found : Found ℕ → List ℕ → Option (List ℕ)
reply_found None replies = none
reply_found (Some j) replies = some (reply_at j replies)

abbrev pub place_in : ℕ → Option ℕ
place_in zero = none
place_in (suc n) = some n

abbrev pub place_number : Option ℕ → ℕ
place_number none = zero
place_number (some n) = suc n

-- ---- the chip

abbrev pub bit : Bool → ℕ
bit true = 1
bit false = 0

abbrev pub state_in : State → List ℕ → List ℕ → List ℕ → ChipState
state_in s cards sent replies = record { field = cards_in s.count cards sent replies; found = place_in s.found; is_rf_field_on = eqb s.on 1 }

-- the numbers of a state with so many cards
abbrev pub numbers_of : ℕ → ChipState → State
numbers_of count s = record { count = count; found = place_number s.found; on = bit s.is_rf_field_on }

abbrev pub chip_state : Chip → ChipState
chip_state c = state_in c.state c.cards c.sent c.replies

-- the cards of its field
abbrev pub field_in : Chip → List Card
field_in c = (chip_state c).field

abbrev pub fresh_numbers : State
fresh_numbers = record { count = 0; found = 0; on = 0 }
