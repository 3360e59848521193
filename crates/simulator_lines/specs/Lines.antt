-- The program `simulator` between two lines, by the definitions, and how a call's line ends. With the trace on, each order and event of the call is printed before it.
use Rattle.std.specs.Prelude.{ℕ, List}
use Rattle.protocol.specs.Session.{Session}
use Rattle.chip_protocol.specs.Channel.{simulated, Channel}
use Rattle.simulator_lines.specs.Plays.{Playing, end_text}

-- the reader, and the chip with the packets unread
pub record Simulator : Type 0 where
  pub session : Session
  pub channel : Channel simulated

pub record SimulatorLine : Type 0 where
  pub simulator : Simulator
  pub text : List ℕ

abbrev pub call_ended : Playing → SimulatorLine
call_ended p = record { simulator = record { session = p.session; channel = p.channel }; text = end_text p }
