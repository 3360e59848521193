-- Document 02, N10: a reader and a chip, over a channel that loses nothing and is never late.
use Rattle.std.specs.Prelude.{List, [], ◌∷◌, ◌++◌, ℕ, zero, suc}
use Rattle.exchange.specs.Exchange.{Order, write, read, drain, pause, Event, ok, pkt, time, slept}
use Rattle.protocol.specs.Session.{Output, orders, answers, rejects}
use Rattle.protocol.specs.Machine.{Machine}
use Rattle.chip_protocol.specs.Chip.{ChipState, chip_step}

-- ---- the chip's end: for the bytes that the host wrote, the packets that it sends, and its state then

pub record Chip : Type 1 where
  pub State : Type 0
  pub packets : State → List ℕ → List (List ℕ)
  pub next : State → List ℕ → State

abbrev pub simulated : Chip
simulated = record { State = ChipState; packets = λ s written. (chip_step s written).packets; next = λ s written. (chip_step s written).state }

-- each of its states says itself
abbrev pub as_is : ChipState → ChipState
as_is s = s

-- ---- the channel: the chip, and the packets that it sent and that are not yet read

module _ (C : Chip) where
  pub record Channel : Type 0 where
    pub chip : C.State
    pub unread : List (List ℕ)

  abbrev pub channel : C.State → List (List ℕ) → Channel
  channel s q = record { chip = s; unread = q }

  abbrev pub next_packet : List (List ℕ) → Event
  next_packet [] = time
  next_packet (p ∷ q) = pkt p

  abbrev pub behind_next : List (List ℕ) → List (List ℕ)
  behind_next [] = []
  behind_next (p ∷ q) = q

  -- a write succeeds; a read or a drain gets the next packet, and times out where there is none; a pause is over
  abbrev pub event_for : Channel → Order → Event
  event_for l (write bytes) = ok
  event_for l (read ms) = next_packet l.unread
  event_for l drain = next_packet l.unread
  event_for l (pause us) = slept

  abbrev pub channel_after : Channel → Order → Channel
  channel_after l (write bytes) = channel (C.next l.chip bytes) (l.unread ++ C.packets l.chip bytes)
  channel_after l (read ms) = channel l.chip (behind_next l.unread)
  channel_after l drain = channel l.chip (behind_next l.unread)
  channel_after l (pause us) = l

-- ---- a run: while the reader orders, and for so many events at most, it is given what its order gets

-- give: what the reader is lent for an event, with so many events left
module _ (M : Machine) (C : Chip) (give : ℕ → Event → M.Input) where
  pub record End : Type 0 where
    pub state : M.State
    pub channel : Channel C
    pub output : Output ℕ
    pub left : ℕ

  abbrev pub end : M.State → Channel C → Output ℕ → ℕ → End
  end s l out n = record { state = s; channel = l; output = out; left = n }

  abbrev pub run : ℕ → M.State → Channel C → Output ℕ → End
  run zero s l out = end s l out zero
  run (suc n) s l (answers a) = end s l (answers a) (suc n)
  run (suc n) s l (rejects r) = end s l (rejects r) (suc n)
  run (suc n) s l (orders x) = run n (M.act s (give n (event_for C l x))).state (channel_after C l x) (M.act s (give n (event_for C l x))).output

  -- a call, and then so many events at most
  abbrev pub call_run : ℕ → M.State → Channel C → M.Input → End
  call_run n s l i = run n (M.act s i).state l (M.act s i).output
