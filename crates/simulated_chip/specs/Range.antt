-- A chip that can be: each number and each length in memory within its limit.
use Rattle.std.specs.Prelude.{Bool, false, List, ℕ, ◌+◌, ◌*◌, leb, get_or}
use Rattle.errors.specs.Choice.{pick}
use Rattle.protocol.specs.Starts.{data_limit}
use Rattle.chip_protocol.specs.Names.{longest_list_data, longest_reply, most_cards}
use Rattle.simulated_chip.specs.Memory.{card_size, sent_size, reply_size, card_replies, places, br_ty_place, reply_count_place, list_data_place, text_length}
use Rattle.simulated_chip.specs.Counted.{all_from}
use Rattle.simulated_chip.specs.declared.chip.State.{State}
use Rattle.simulated_chip.specs.declared.chip.Chip.{Chip}

-- the last kind, DEP, and the last BrTy, 106B
abbrev pub last_kind : ℕ
last_kind = 3

abbrev pub last_br_ty : ℕ
last_br_ty = 3

unfoldable pub card_in_range : ℕ → List ℕ → Bool
card_in_range at cards =
    pick (leb (get_or cards at 0) last_kind)
    (pick (leb (get_or cards (at + br_ty_place) 0) last_br_ty)
    (pick (leb (get_or cards (at + reply_count_place) 0) card_replies) (leb (text_length (at + list_data_place) cards) longest_list_data) false) false) false

abbrev pub cards_in_range : List ℕ → Bool
cards_in_range cards = all_from (λ (i : ℕ). card_in_range (card_size * i) cards) most_cards 0

-- texts that have so many bytes of memory each
abbrev pub texts_in_range : ℕ → ℕ → List ℕ → Bool
texts_in_range size limit b = all_from (λ (i : ℕ). leb (text_length (size * i) b) limit) places 0

abbrev pub sent_in_range : List ℕ → Bool
sent_in_range sent = texts_in_range sent_size data_limit sent

abbrev pub replies_in_range : List ℕ → Bool
replies_in_range replies = texts_in_range reply_size longest_reply replies

unfoldable pub in_range : State → List ℕ → List ℕ → List ℕ → Bool
in_range s cards sent replies =
    pick (leb s.count most_cards)
    (pick (leb s.found s.count)
    (pick (leb s.on 1) (pick (cards_in_range cards) (pick (sent_in_range sent) (replies_in_range replies) false) false) false) false) false

abbrev pub chip_in_range : Chip → Bool
chip_in_range c = in_range c.state c.cards c.sent c.replies
