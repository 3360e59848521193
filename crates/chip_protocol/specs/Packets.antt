-- The packets of the chip's end: the command in the bytes that the host wrote, and the packets of its response (PN532 user manual, section 6.2.1).
use Rattle.std.specs.Prelude.{List, [], ◌∷◌, ℕ, ◌≤◌, length}
use Rattle.framing.specs.Commands.{command_in}
use Rattle.framing.specs.Frames.{ack, frame_of}
use Rattle.framing.specs.Lists.{Bytes}
use Rattle.framing.specs.Settings.{response_payload}
use Rattle.framing.specs.declared.LengthEncoding.TheVariants.{NormalOrExtendedBigEndian}
use Rattle.exchange.specs.Packets.{error_identifier}
use Rattle.chip_protocol.specs.Names.{longest_response}

-- ---- what the host wrote

pub data Received : Type 0 where
  received : ℕ → List ℕ → Received  -- a command: its code, its data
  no_command : Received

abbrev pub received_command : List ℕ → Received
received_command [] = no_command
received_command (code ∷ bytes) = received code bytes

-- a frame that fills the bytes written
unfoldable pub received_in : List ℕ → Received
received_in written = received_command (command_in written)

-- ---- what the chip sends for a command

-- a response's bytes, or the manual's error frame
pub data Response : Type 0 where
  responds : List ℕ → Response
  syntax_error : Response

-- the error frame has 7F alone
abbrev pub payload_for : ℕ → Response → List ℕ
payload_for code (responds bytes) = response_payload code bytes
payload_for code syntax_error = error_identifier ∷ []

unfoldable pub response_packet : ℕ → Response → List ℕ
response_packet code r = frame_of NormalOrExtendedBigEndian (payload_for code r)

-- ACK, then the response
abbrev pub packets_of : ℕ → Response → List (List ℕ)
packets_of code r = ack ∷ response_packet code r ∷ []

-- it fits a packet
abbrev pub ResponseFits : Response → Type 0
ResponseFits (responds bytes) = Bytes bytes × (length bytes ≤ longest_response)
ResponseFits syntax_error = Unit {0}
