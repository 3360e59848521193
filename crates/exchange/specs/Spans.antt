-- Step 5 by the places of a packet: where the payload of an intact response stands, and the fault of any other packet.
use Rattle.std.specs.Prelude.{ℕ, Bool, true, false, cond, List, length, take, drop, ◌==◌, slice_index, Option, Some, None}
use Rattle.errors.specs.declared.Fault.{Fault}
use Rattle.errors.specs.declared.Fault.TheVariants.{BrokenFrame, Length, FrameKind, Identifier, Code, Status}
use Rattle.framing.specs.Parse.{parse_of}
use Rattle.framing.specs.Settings.{rcs956}
use Rattle.framing.specs.declared.FrameType.{FrameType}
use Rattle.framing.specs.declared.FrameType.TheVariants.{Ack, Error, Data}
use Rattle.exchange.specs.Packets.{Reply, response, failed, is_empty, reply_of, error_identifier}
use Rattle.framing.specs.Names.{controller_to_host}

-- a part of a packet
pub record Span : Type 0 where
  pub start : ℕ
  pub len : ℕ

abbrev pub nowhere : Span
nowhere = record { start = 0; len = 0 }

abbrev pub part_at : Span → List ℕ → List ℕ
part_at span packet = take span.len (drop span.start packet)

abbrev pub is_response : Reply → Bool
is_response (response bytes) = true
is_response (failed fault) = false

abbrev pub payload_span : Option FrameType → Span
payload_span None = nowhere
payload_span (Some (Ack frame)) = nowhere
payload_span (Some (Error frame)) = nowhere
payload_span (Some (Data start len frame)) = record { start = start; len = len }

-- where the payload of an intact response stands: identifier, code and response
unfoldable pub response_span : ℕ → List ℕ → Span
response_span code packet = cond (is_response (reply_of code packet)) (payload_span (parse_of rcs956 packet)) nowhere

abbrev pub frame_length : FrameType → ℕ
frame_length (Ack frame) = frame
frame_length (Error frame) = frame
frame_length (Data start len frame) = frame

-- the first check that fails, of a payload and of a packet; the code's check is the last
abbrev pub payload_fault : List ℕ → Fault
payload_fault l = cond (is_empty l) Identifier (cond (slice_index l 0 == error_identifier) (Status error_identifier) (cond (slice_index l 0 == controller_to_host) Code Identifier))

abbrev pub filling_fault : ℕ → List ℕ → Fault → Fault
filling_fault frame packet fault = cond (frame == length packet) fault Length

abbrev pub frame_fault : List ℕ → Option FrameType → Fault
frame_fault packet None = BrokenFrame
frame_fault packet (Some (Ack frame)) = filling_fault frame packet FrameKind
frame_fault packet (Some (Error frame)) = filling_fault frame packet FrameKind
frame_fault packet (Some (Data start len frame)) = filling_fault frame packet (payload_fault (take len (drop start packet)))

unfoldable pub fault_of : List ℕ → Fault
fault_of packet = frame_fault packet (parse_of rcs956 packet)
