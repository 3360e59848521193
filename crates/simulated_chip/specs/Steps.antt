-- A step of the chip on its memory.
use Rattle.std.specs.Prelude.{◌≡◌, Option, Some, None, Result, Ok, Err, List, ◌++◌, ℕ, ◌*◌, ltb, length, drop, replicate}
use Rattle.errors.specs.Choice.{pick}
use Rattle.errors.specs.declared.Refusal.{Refusal}
use Rattle.errors.specs.declared.Refusal.TheVariants.{OutOfTurn, ShortBuffer}
use Rattle.chip_protocol.specs.Names.{longest_packet, most_cards}
use Rattle.chip_protocol.specs.Packets.{Received, received, no_command, received_in, response_packet}
use Rattle.chip_protocol.specs.Chip.{response_to, state_after}
use Rattle.simulated_chip.specs.Memory.{card_size, sent_size, reply_size, places, state_in, numbers_of, fresh_numbers}
use Rattle.simulated_chip.specs.Range.{in_range}
use Rattle.simulated_chip.specs.declared.chip.State.{State}
use Rattle.simulated_chip.specs.declared.chip.Chip.{Chip}

-- ---- a packet at the buffer's start

abbrev pub at_start : List ℕ → List ℕ → List ℕ
at_start packet b = packet ++ drop (length packet) b

pub record PutPacket (packet b : List ℕ) (n : ℕ) (b₁ : List ℕ) : Type 0 where
  pub count : n ≡ length packet
  pub buffer : b₁ ≡ at_start packet b

-- ---- a step

-- what the chip sends: nothing; ACK and a packet of so many bytes, which stands at the buffer's start; or a refusal
abbrev pub Answer : Type 0
Answer = Result (Option ℕ) Refusal

-- the chip's numbers after it, what it sends, and the buffer
pub record AfterStep : Type 0 where
  pub state : State
  pub answer : Answer
  pub buffer : List ℕ

abbrev pub after_step : State → Answer → List ℕ → AfterStep
after_step s a b = record { state = s; answer = a; buffer = b }

module _ (s : State) (cards sent replies : List ℕ) where
  unfoldable pub command_step : ℕ → List ℕ → List ℕ → AfterStep
  command_step code bytes b =
      after_step (numbers_of s.count (state_after (state_in s cards sent replies) code bytes))
      (Ok (Some (length (response_packet code (response_to (state_in s cards sent replies) code bytes)))))
      (at_start (response_packet code (response_to (state_in s cards sent replies) code bytes)) b)

  abbrev pub received_step : Received → List ℕ → AfterStep
  received_step (received code bytes) b = command_step code bytes b
  received_step no_command b = after_step s (Ok None) b

  -- a short buffer first, then a chip out of range
  unfoldable pub step_in : List ℕ → List ℕ → AfterStep
  step_in written b =
      pick (ltb (length b) longest_packet) (after_step s (Err ShortBuffer) b)
      (pick (in_range s cards sent replies) (received_step (received_in written) b) (after_step s (Err OutOfTurn) b))

-- ---- the same of the whole chip

unfoldable pub zeros : ℕ → List ℕ
zeros n = replicate n 0

abbrev pub fresh_chip_memory : Chip
fresh_chip_memory = record { cards = zeros (most_cards * card_size); sent = zeros (places * sent_size); replies = zeros (places * reply_size); state = fresh_numbers }

pub record ChipStep : Type 0 where
  pub chip : Chip
  pub answer : Answer

pub record LeftBy : Type 0 where
  pub step : ChipStep
  pub buffer : List ℕ

abbrev pub left_by : Chip → Answer → List ℕ → LeftBy
left_by c a b = record { step = record { chip = c; answer = a }; buffer = b }

abbrev pub by_value : List ℕ → List ℕ → List ℕ → AfterStep → LeftBy
by_value cards sent replies x =
    left_by (record { cards = cards; sent = sent; replies = replies; state = x.state }) x.answer x.buffer

unfoldable pub step_of : Chip → List ℕ → List ℕ → LeftBy
step_of c written b = by_value c.cards c.sent c.replies (step_in c.state c.cards c.sent c.replies written b)
