-- The packets of one exchange: the frame of a command, and what steps 3 to 5 of document 01 find in a packet.
use Rattle.std.specs.Prelude.{ℕ, ◌+◌, ◌%◌, Bool, true, false, cond, List, [], ◌∷◌, length, ◌==◌, Option, Some, None}
use Rattle.errors.specs.declared.Fault.{Fault}
use Rattle.errors.specs.declared.Fault.TheVariants.{BrokenFrame, Length, FrameKind, Identifier, Code, Status}
use Rattle.framing.specs.Frames.{sof, ack, frame_of}
use Rattle.errors.specs.Choice.{same}
use Rattle.framing.specs.Lists.{starts}
use Rattle.framing.specs.Parse.{parse_of, payload_of}
use Rattle.framing.specs.Settings.{rcs956, command_payload}
use Rattle.framing.specs.declared.FrameType.{FrameType}
use Rattle.framing.specs.declared.FrameType.TheVariants.{Ack, Error, Data}
use Rattle.framing.specs.declared.LengthEncoding.TheVariants.{NormalOrExtendedBigEndian}
use Rattle.framing.specs.Names.{controller_to_host}

-- the frame of a command: D4, the code, the data
unfoldable pub command_frame : ℕ → List ℕ → List ℕ
command_frame code bytes = frame_of NormalOrExtendedBigEndian (command_payload code bytes)

-- the bare ACK
unfoldable pub is_ack : List ℕ → Bool
is_ack bytes = same ack bytes

-- step 3: the packet starts with 00 00 FF
unfoldable pub has_start : List ℕ → Bool
has_start packet = starts sof packet

-- "ACK-led": step 4 finds ACK at the packet's start
unfoldable pub ack_led : List ℕ → Bool
ack_led packet = starts ack packet

abbrev pub is_empty : List ℕ → Bool
is_empty [] = true
is_empty (b ∷ bs) = false

-- what a command's exchange comes to: the response, or a fault
pub data Reply : Type 0 where
  response : List ℕ → Reply
  failed : Fault → Reply

-- the payload of an error frame, where a response has its identifier
abbrev pub error_identifier : ℕ
error_identifier = 0x7F

-- step 5. Byte 1 of the payload is the code plus 1, as a byte.
abbrev pub code_reply : ℕ → List ℕ → Reply
code_reply code [] = failed Code
code_reply code (b ∷ bs) = cond (b == (code + 1) % 256) (response bs) (failed Code)

abbrev pub payload_reply : ℕ → List ℕ → Reply
payload_reply code [] = failed Identifier
payload_reply code (b ∷ bs) = cond (b == error_identifier) (failed (Status error_identifier)) (cond (b == controller_to_host) (code_reply code bs) (failed Identifier))

-- the frame fills the packet
abbrev pub filling : ℕ → List ℕ → Reply → Reply
filling frame packet reply = cond (frame == length packet) reply (failed Length)

abbrev pub frame_reply : ℕ → List ℕ → Option FrameType → Reply
frame_reply code packet None = failed BrokenFrame
frame_reply code packet (Some (Ack frame)) = filling frame packet (failed FrameKind)
frame_reply code packet (Some (Error frame)) = filling frame packet (failed FrameKind)
frame_reply code packet (Some (Data start len frame)) = filling frame packet (payload_reply code (payload_of (Some (Data start len frame)) packet))

-- "Intact" is a packet that gives a response here, for the code of the command it serves.
unfoldable pub reply_of : ℕ → List ℕ → Reply
reply_of code packet = frame_reply code packet (parse_of rcs956 packet)
