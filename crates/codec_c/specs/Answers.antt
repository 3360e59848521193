-- What the C functions answer, and what they leave in the caller's memory. An answer is 0, or document 01's number of a refusal.
use Rattle.std.specs.Prelude.{true, List, ℕ, Option, Some, None}
use Rattle.crc.specs.Answers.{added}
use Rattle.crc.specs.Crc.{type_b}
use Rattle.errors.specs.Refusals.{Returned, answered, refused, plain}
use Rattle.framing.specs.Build.{build_of}
use Rattle.framing.specs.Padded.{parse_padded_of}
use Rattle.framing.specs.Parse.{parse_of}
use Rattle.framing.specs.declared.FrameType.{FrameType}
use Rattle.framing.specs.declared.FrameType.TheVariants.{Ack, Error, Data}
use Rattle.framing.specs.declared.padded.Padded.{Padded}
use Rattle.framing.specs.declared.FrameFormat.{FrameFormat}
use Rattle.codec_c.specs.declared.Found.{Found}

-- the answer, the buffer and the number of bytes written at its start
pub record Written : Type 0 where
  pub answer : ℕ
  pub buffer : List ℕ
  pub count : ℕ

abbrev pub written : ℕ → List ℕ → ℕ → Written
written answer buffer count = record { answer = answer; buffer = buffer; count = count }

-- a refusal leaves the count as it was
unfoldable pub written_of : Returned → List ℕ → ℕ → Written
written_of (answered n) buffer count = written 0 buffer n
written_of (refused e) buffer count = written e.number buffer count

-- a frame under a setting; where there is no such setting, refusal 4 and nothing written
unfoldable pub build_for : Option FrameFormat → List ℕ → List ℕ → ℕ → Written
build_for (Some f) payload buffer count = written_of (build_of f payload buffer).result (build_of f payload buffer).buffer count
build_for None payload buffer count = written_of (refused (plain 4)) buffer count

-- bytes with their CRC_B
unfoldable pub append_b : List ℕ → List ℕ → ℕ → Written
append_b bytes out count = written_of (added type_b bytes out).0 (added type_b bytes out).1 count

-- kind 0 is no frame, 1 Ack, 2 Error, 3 Data; the payload's start and length, 0 where there is none; the frame's length
abbrev pub found : ℕ → ℕ → ℕ → ℕ → Found
found kind start len frame = record { kind = kind; start = start; len = len; frame = frame }

abbrev pub frame_found : Option FrameType → Found
frame_found (Some (Ack n)) = found 1 0 0 n
frame_found (Some (Error n)) = found 2 0 0 n
frame_found (Some (Data start len frame)) = found 3 start len frame
frame_found None = found 0 0 0 0

-- the answer, and what the four places hold after it
pub record Parsed : Type 0 where
  pub answer : ℕ
  pub places : Found

abbrev pub parse_answer : ℕ → Found → Parsed
parse_answer answer places = record { answer = answer; places = places }

-- where there is no such setting, refusal 4 and nothing written
unfoldable pub parse_for : Option FrameFormat → List ℕ → Found → Parsed
parse_for (Some f) packet before = parse_answer 0 (frame_found (parse_of f packet))
parse_for None packet before = parse_answer 4 before

-- the padded answer: the same, and the number of extra zeros
pub record ParsedPadded : Type 0 where
  pub answer : ℕ
  pub places : Found
  pub zeros : ℕ

abbrev pub parsed_padded : ℕ → Found → ℕ → ParsedPadded
parsed_padded answer places extra = record { answer = answer; places = places; zeros = extra }

abbrev pub padded_of : Padded → ParsedPadded
padded_of a = parsed_padded 0 (frame_found a.found) a.zeros

unfoldable pub padded_for : Option FrameFormat → List ℕ → Found → ℕ → ParsedPadded
padded_for (Some f) packet before extra = padded_of (parse_padded_of f true packet)
padded_for None packet before extra = parsed_padded 4 before extra
