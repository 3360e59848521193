-- The program's values in the terms of the definitions' play.
use Rattle.std.specs.Prelude.{◌≡◌, ℕ, ◌*◌, ◌≤◌, true, Option, Some, None, List, length, take, ◌==◌}
use Rattle.errors.specs.Choice.{pick}
use Rattle.framing.specs.Names.{ack_size}
use Rattle.exchange.specs.declared.Event.{Event}
use Rattle.exchange.specs.declared.Event.TheVariants.{Time, Packet}
use Rattle.protocol.specs.Machine.{output_values}
use Rattle.engine.specs.Inputs.{output_of}
use Rattle.engine.specs.Relation.{SessionRepresents}
use Rattle.engine.specs.declared.running.Output.{Output}
use Rattle.engine.specs.declared.running.Output.TheVariants.{Ack, Command, Read, Drain, Pause, Done, Type1, UidAndAts, Nothing, Failed, FailedAfter, Refused}
use Rattle.engine.specs.declared.session.Session.{Session}
use Rattle.bench_session.specs.Outputs.{text_limit}
use Rattle.chip_protocol.specs.Channel.{simulated, Channel}
use Rattle.chip_protocol.specs.Names.{most_cards}
use Rattle.simulated_chip.specs.Memory.{card_size, sent_size, reply_size, places, chip_state}
use Rattle.simulated_chip.specs.Range.{chip_in_range}
use Rattle.simulator_lines.specs.Ring.{unread_in}
use Rattle.simulator_lines.specs.Plays.{Playing}
use Rattle.simulator_lines.specs.Lines.{Simulator, SimulatorLine}
use Rattle.simulator_lines.specs.declared.channel.Channel.{Channel as End}
use Rattle.simulator_lines.specs.declared.play.Order.{Order}
use Rattle.simulator_lines.specs.declared.play.Order.TheVariants.{Write, Next, Pause as Pauses}
use Rattle.simulator_lines.specs.declared.play.Simulator.{Simulator as Program}

-- what an output asks of the channel; none where the call is over
abbrev pub order_asked : Output → Option Order
order_asked Ack = Some (Write ack_size)
order_asked (Command n) = Some (Write n)
order_asked (Read ms) = Some Next
order_asked Drain = Some Next
order_asked (Pause us) = Some Pauses
order_asked (Done n) = None
order_asked (Type1 n) = None
order_asked (UidAndAts n uid ats) = None
order_asked Nothing = None
order_asked (Failed r) = None
order_asked (FailedAfter r n) = None
order_asked (Refused r) = None

-- what a read or a drain gets, with so many packets unread
unfoldable pub next_event_of : ℕ → Event
next_event_of n = pick (n == 0) Time Packet

-- the chip's end in memory: in range, and the channel's; its arrays have their lengths
pub record ChannelIn (c : End) (l : Channel simulated) : Type 0 where
  pub chip : chip_state c.chip ≡ l.chip
  pub range : chip_in_range c.chip ≡ true
  pub unread : unread_in c.unread ≡ l.unread
  pub cards_size : length c.chip.cards ≡ most_cards * card_size
  pub sent_bytes : length c.chip.sent ≡ places * sent_size
  pub reply_bytes : length c.chip.replies ≡ places * reply_size

-- the reader with its last output, whose bytes stand in the buffer
pub record ReaderIn (s : Session) (out : Output) (b : List ℕ) (p : Playing) : Type 0 where
  pub session : SessionRepresents s p.session
  pub output : output_of out b ≡ output_values p.output

pub record PlayIn (x : Program) (out : Output) (p : Playing) : Type 0 where
  pub reader : ReaderIn x.session out x.buffer p
  pub chip : ChannelIn x.channel p.channel

-- reader and chip in the program, between two lines
pub record SimulatorIn (x : Program) (z : Simulator) : Type 0 where
  pub session : SessionRepresents x.session z.session
  pub chip : ChannelIn x.channel z.channel

-- the program after a line, whose text of n bytes stands at the start of its room
pub record Answers (x : Program) (n : ℕ) (a : SimulatorLine) : Type 0 where
  pub simulator : SimulatorIn x a.simulator
  pub text : take n x.out ≡ a.text
  pub short : n ≤ text_limit
