-- Orders and events, and the exchange of one command: steps 1 to 5 of document 01, `command` of chipset.rs.
use Rattle.std.specs.Prelude.{ℕ, cond, List, ◌==◌}
use Rattle.errors.specs.declared.Fault.{Fault}
use Rattle.errors.specs.declared.Fault.TheVariants.{Transport, TimeOut, FalseStart}
use Rattle.framing.specs.Frames.{ack}
use Rattle.exchange.specs.Packets.{has_start, ack_led, is_empty, Reply, failed, reply_of}

-- what the engine asks of the host, in the words of the bench program
pub data Order : Type 0 where
  write : List ℕ → Order
  read : ℕ → Order  -- ms
  drain : Order
  pause : ℕ → Order  -- µs

-- what the host returns
pub data Event : Type 0 where
  ok : Event
  bad : Event  -- the write failed
  pkt : List ℕ → Event
  time : Event
  fail : Event  -- the read failed
  late : Event  -- the deadline passed
  slept : Event

-- what an event does: it does not fit the order, another order is pending in a new state S, or all has ended with R
pub data Result (S R : Type 0) : Type 0 where
  unfit : Result S R
  pending : Order → S → Result S R
  ended : R → Result S R

-- by the event: those that fit a write, a read or a pause; u for the others
module _ {X : Type 0} where
  abbrev pub on_write : X → X → X → Event → X
  on_write u a b ok = a
  on_write u a b bad = b
  on_write u a b (pkt p) = u
  on_write u a b time = u
  on_write u a b fail = u
  on_write u a b late = u
  on_write u a b slept = u

  abbrev pub on_read : X → (List ℕ → X) → X → X → X → Event → X
  on_read u p t f l ok = u
  on_read u p t f l bad = u
  on_read u p t f l (pkt packet) = p packet
  on_read u p t f l time = t
  on_read u p t f l fail = f
  on_read u p t f l late = l
  on_read u p t f l slept = u

  abbrev pub on_pause : X → X → Event → X
  on_pause u a ok = u
  on_pause u a bad = u
  on_pause u a (pkt p) = u
  on_pause u a time = u
  on_pause u a fail = u
  on_pause u a late = u
  on_pause u a slept = a

-- where an exchange stands; with the command's code and its clock in ms as far as they are still needed
pub data ExchangePhase : Type 0 where
  sending : ℕ → ℕ → ExchangePhase  -- step 1: the frame is being written
  reading : ℕ → ℕ → ExchangePhase  -- step 2: the first packet is awaited
  waiting : ℕ → ℕ → ExchangePhase  -- step 4: a packet is awaited under the clock
  cancelling : Fault → ExchangePhase  -- ACK is being written, and the exchange then ends with this fault
  rejecting : ExchangePhase  -- step 3: ACK is being written
  draining : ExchangePhase  -- step 3: the drain

abbrev pub ExchangeResult : Type 0
ExchangeResult = Result ExchangePhase Reply

-- step 4, after an ACK-led packet. A clock of 0 ms has passed at once.
abbrev pub after_ack : ℕ → ℕ → ExchangeResult
after_ack code clock = cond (clock == 0) (pending (write ack) (cancelling TimeOut)) (pending (read clock) (waiting code clock))

-- steps 4 and 5 on a packet that is not empty
abbrev pub on_packet : ℕ → ℕ → List ℕ → ExchangeResult
on_packet code clock packet = cond (ack_led packet) (after_ack code clock) (ended (reply_of code packet))

abbrev pub on_first_packet : ℕ → ℕ → List ℕ → ExchangeResult
on_first_packet code clock packet =
    cond
    (is_empty packet)
    (ended (failed TimeOut))
    (cond (has_start packet) (on_packet code clock packet) (pending (write ack) rejecting))

abbrev pub on_later_packet : ℕ → ℕ → List ℕ → ExchangeResult
on_later_packet code clock packet = cond (is_empty packet) (ended (failed TimeOut)) (on_packet code clock packet)

abbrev pub on_drained : List ℕ → ExchangeResult
on_drained packet = cond (is_empty packet) (ended (failed FalseStart)) (pending drain draining)

-- the ms in which the first packet is due
abbrev pub first_read_time : ℕ
first_read_time = 100

-- what an event does to the exchange
abbrev pub advance : ExchangePhase → Event → ExchangeResult
advance (sending code clock) e = on_write unfit (pending (read first_read_time) (reading code clock)) (pending (write ack) (cancelling Transport)) e
advance (reading code clock) e = on_read unfit (on_first_packet code clock) (ended (failed TimeOut)) (ended (failed Transport)) unfit e
advance (waiting code clock) e =
    on_read
    unfit
    (on_later_packet code clock)
    (ended (failed TimeOut))
    (ended (failed Transport))
    (pending (write ack) (cancelling TimeOut))
    e
advance (cancelling r) e = on_write unfit (ended (failed r)) (ended (failed r)) e
advance rejecting e = on_write unfit (pending drain draining) (pending drain draining) e
advance draining e = on_read unfit on_drained (ended (failed FalseStart)) (pending drain draining) (ended (failed FalseStart)) e
