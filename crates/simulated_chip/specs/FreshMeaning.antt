-- The fresh chip's memory is in range, and is the definitions' fresh chip.
use Rattle.std.specs.Prelude.{◌≡◌, refl, true, ℕ, ◌+◌, ◌*◌, ◌<◌, leb, length, get_or}
use Rattle.std.proofs.Common.{ap₂, arith, le-leb}
use Rattle.std.proofs.lemmas.List.{get_or-replicate, length-replicate}
use Rattle.errors.specs.Choice.{pick}
use Rattle.protocol.specs.Starts.{data_limit}
use Rattle.chip_protocol.specs.Names.{longest_reply, most_cards}
use Rattle.chip_protocol.specs.Chip.{fresh_chip}
use Rattle.simulated_chip.specs.Counted.{list_from}
use Rattle.simulated_chip.specs.Memory.{card_size, sent_size, reply_size, places, br_ty_place, reply_count_place, list_data_place, text_length, chip_state}
use Rattle.simulated_chip.specs.Range.{card_in_range, cards_in_range, sent_in_range, replies_in_range, in_range}
use Rattle.simulated_chip.specs.SlotLaws.{from_all, in_range_by}
use Rattle.simulated_chip.specs.Steps.{zeros, fresh_chip_memory}

zero_at : (n k : ℕ) → k < n → get_or (zeros n) k 0 ≡ 0
unfolding zeros
zero_at n k h = get_or-replicate n k 0 0 h

no_text : (n at : ℕ) → at + 1 < n → text_length at (zeros n) ≡ 0
no_text n at h = ap₂ (λ (i j : ℕ). i + 256 * j) (zero_at n at (omega arith)) (zero_at n (at + 1) h)

cards_fit_lem : cards_in_range (zeros (most_cards * card_size)) ≡ true
cards_fit_lem = from_all (λ (i : ℕ). card_in_range (card_size * i) (zeros (most_cards * card_size))) most_cards 0 (λ i a b. card i (omega arith))
  where
    card : (i : ℕ) → i < most_cards → card_in_range (card_size * i) (zeros (most_cards * card_size)) ≡ true
    card i h =
        in_range_by (card_size * i) (zeros (most_cards * card_size))
        (rw (zero_at (most_cards * card_size) (card_size * i) (omega arith)) (omega arith))
        (rw (zero_at (most_cards * card_size) (card_size * i + br_ty_place) (omega arith)) (omega arith))
        (rw (zero_at (most_cards * card_size) (card_size * i + reply_count_place) (omega arith)) (omega arith))
        (let e = no_text (most_cards * card_size) (card_size * i + list_data_place) (omega arith) in omega arith)

sent_fit_lem : sent_in_range (zeros (places * sent_size)) ≡ true
sent_fit_lem =
    from_all (λ (i : ℕ). leb (text_length (sent_size * i) (zeros (places * sent_size))) data_limit) places 0
    (λ i a b. le-leb (text_length (sent_size * i) (zeros (places * sent_size))) data_limit (let e = no_text (places * sent_size) (sent_size * i) (omega arith) in omega arith))

replies-fit : replies_in_range (zeros (places * reply_size)) ≡ true
replies-fit =
    from_all (λ (i : ℕ). leb (text_length (reply_size * i) (zeros (places * reply_size))) longest_reply) places 0
    (λ i a b. le-leb (text_length (reply_size * i) (zeros (places * reply_size))) longest_reply (let e = no_text (places * reply_size) (reply_size * i) (omega arith) in omega arith))

pub fresh_in_range : in_range fresh_chip_memory.state fresh_chip_memory.cards fresh_chip_memory.sent fresh_chip_memory.replies ≡ true
unfolding in_range pick
fresh_in_range = rw (cards_fit_lem, sent_fit_lem) replies-fit

pub fresh_means : chip_state fresh_chip_memory ≡ fresh_chip
unfolding list_from
fresh_means = refl

-- the arrays have their lengths
pub zeros-length : (n : ℕ) → length (zeros n) ≡ n
unfolding zeros
zeros-length n = length-replicate {A = ℕ} n 0
