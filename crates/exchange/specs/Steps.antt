-- The code's values in the terms of the definitions: an exchange as a step, its event, what it comes to.
use Rattle.std.specs.Prelude.{◌≡◌, ℕ, ◌≤◌, cond, List, ◌==◌}
use Rattle.errors.specs.declared.Fault.TheVariants.{Transport, TimeOut}
use Rattle.framing.specs.Frames.{ack}
use Rattle.exchange.specs.Packets.{failed, reply_of}
use Rattle.exchange.specs.Exchange.{Order, write, read, drain, pause, Event as EventOf, ok, bad, pkt, time, fail, late, slept, unfit, pending, ended, ExchangePhase, sending, reading, waiting, cancelling, rejecting, draining, ExchangeResult}
use Rattle.exchange.specs.declared.Event.{Event}
use Rattle.exchange.specs.declared.Event.TheVariants.{Ok, Bad, Packet, Time, Fail, Late, Slept}
use Rattle.exchange.specs.declared.Order.{Order as CodeOrder}
use Rattle.exchange.specs.declared.Order.TheVariants.{Ack, Read, Drain, Pause}
use Rattle.exchange.specs.declared.Exchange.{Exchange}
use Rattle.exchange.specs.declared.Advanced.{Advanced}
use Rattle.exchange.specs.declared.Advanced.TheVariants.{Unfit, Pending, Arrived, Failed}

abbrev pub exchange_at : ℕ → ℕ → ℕ → Exchange
exchange_at phase code clock = record { phase = phase; code = code; clock = clock }

-- the phases' numbers
abbrev pub sending_phase : ℕ
sending_phase = 0

abbrev pub reading_phase : ℕ
reading_phase = 1

abbrev pub waiting_phase : ℕ
waiting_phase = 2

abbrev pub unsent_phase : ℕ
unsent_phase = 3

abbrev pub overdue_phase : ℕ
overdue_phase = 4

abbrev pub rejecting_phase : ℕ
rejecting_phase = 5

abbrev pub draining_phase : ℕ
draining_phase = 6

-- any number above is taken for the drain
unfoldable pub phase_in : Exchange → ExchangePhase
phase_in x =
    cond (x.phase == sending_phase) (sending x.code x.clock)
    (cond (x.phase == reading_phase) (reading x.code x.clock)
    (cond (x.phase == waiting_phase) (waiting x.code x.clock)
    (cond (x.phase == unsent_phase) (cancelling Transport)
    (cond (x.phase == overdue_phase) (cancelling TimeOut)
    (cond (x.phase == rejecting_phase) rejecting draining)))))

-- the packet's bytes go with Packet alone
abbrev pub event_of : Event → List ℕ → EventOf
event_of Ok packet = ok
event_of Bad packet = bad
event_of Packet packet = pkt packet
event_of Time packet = time
event_of Fail packet = fail
event_of Late packet = late
event_of Slept packet = slept

abbrev pub order_of : CodeOrder → Order
order_of Ack = write ack
order_of (Read ms) = read ms
order_of Drain = drain
order_of (Pause us) = pause us

-- x is the exchange that the event met; step 5 follows a packet that has arrived
abbrev pub result_in : Exchange → List ℕ → Advanced → ExchangeResult
result_in x packet Unfit = unfit
result_in x packet (Pending next y) = pending (order_of next) (phase_in y)
result_in x packet Arrived = ended (reply_of x.code packet)
result_in x packet (Failed fault) = ended (failed fault)

-- x goes on in one of the seven phases, with its code and its clock
abbrev pub SameCommand : Exchange → Advanced → Type 0
SameCommand x Unfit = Unit
SameCommand x (Pending next y) = (y.phase ≤ draining_phase) × (y.code ≡ x.code) × (y.clock ≡ x.clock)
SameCommand x Arrived = Unit
SameCommand x (Failed fault) = Unit

-- both promises of an event's handler
pub record Handled (x : Exchange) (packet : List ℕ) (to : ExchangeResult) (r : Advanced) : Type 0 where
  pub result : result_in x packet r ≡ to
  pub kept : SameCommand x r

-- what these say once the variant is known
pub same_command : (x : Exchange) (r : Advanced) → SameCommand x r → (next : CodeOrder) (y : Exchange) → r ≡ Pending next y
    → (y.phase ≤ draining_phase) × (y.code ≡ x.code) × (y.clock ≡ x.clock)
same_command x r kept next y e = rw e at kept
