-- What a packet is, in document 01's order: start bytes, Ack, Error by the error form, then a frame at the packet's start.
use Rattle.std.specs.Prelude.{ℕ, ◌+◌, ◌*◌, Bool, true, false, List, [], length, take, drop, ◌==◌, slice_index, Option, Some, None}
use Rattle.framing.specs.Frames.{sof, ack, error_frame, normal_frame, extended_frame}
use Rattle.errors.specs.Choice.{pick, same}
use Rattle.framing.specs.Lists.{both, starts}
use Rattle.framing.specs.Names.{len_offset, first_len_offset, second_len_offset, normal_start, extended_start, normal_overhead, extended_overhead, ack_size, status_error_offset, status_error_byte}
use Rattle.framing.specs.declared.ErrorDetection.{ErrorDetection}
use Rattle.framing.specs.declared.ErrorDetection.TheVariants.{ErrorFrame, StatusByte}
use Rattle.framing.specs.declared.FrameFormat.{FrameFormat}
use Rattle.framing.specs.declared.FrameType.{FrameType}
use Rattle.framing.specs.declared.FrameType.TheVariants.{Ack, Error, Data}
use Rattle.framing.specs.declared.LengthEncoding.{LengthEncoding}
use Rattle.framing.specs.declared.LengthEncoding.TheVariants.{Normal, ExtendedLittleEndian, NormalOrExtendedBigEndian}

-- the error form's own test: the six-byte error frame, or byte 5 at 0x7F
unfoldable pub is_error_of : ErrorDetection → List ℕ → Bool
is_error_of ErrorFrame p = same error_frame p
is_error_of StatusByte p = slice_index p status_error_offset == status_error_byte

-- whether a length form has extended frames
unfoldable pub extends : LengthEncoding → Bool
extends Normal = false
extends ExtendedLittleEndian = true
extends NormalOrExtendedBigEndian = true

-- the length that the bytes 5 and 6 of an extended frame give
unfoldable pub length_at : LengthEncoding → List ℕ → ℕ
length_at Normal p = slice_index p first_len_offset * 256 + slice_index p second_len_offset
length_at ExtendedLittleEndian p = slice_index p second_len_offset * 256 + slice_index p first_len_offset
length_at NormalOrExtendedBigEndian p = slice_index p first_len_offset * 256 + slice_index p second_len_offset

-- the packet starts with the normal frame of the n bytes from byte 5 on, n being its LEN
unfoldable pub normal_at : List ℕ → Bool
normal_at p = starts (normal_frame (take (slice_index p len_offset) (drop normal_start p))) p

-- the packet starts with the extended frame of the n bytes from byte 8 on, n being its length
unfoldable pub extended_at : LengthEncoding → List ℕ → Bool
extended_at e p = both (extends e) (starts (extended_frame e (take (length_at e p) (drop extended_start p))) p)

-- where the payload starts, its length, the frame's length
unfoldable pub normal_of : List ℕ → Option FrameType
normal_of p = pick (normal_at p) (Some (Data normal_start (slice_index p len_offset) (slice_index p len_offset + normal_overhead))) None

unfoldable pub extended_of : LengthEncoding → List ℕ → Option FrameType
extended_of e p = pick (extended_at e p) (Some (Data extended_start (length_at e p) (length_at e p + extended_overhead))) None

-- a data frame at the packet's start
unfoldable pub data_of : LengthEncoding → List ℕ → Option FrameType
data_of e p = pick (normal_at p) (normal_of p) (extended_of e p)

unfoldable pub parse_of : FrameFormat → List ℕ → Option FrameType
parse_of f p =
    pick (starts sof p)
    (pick (same ack p) (Some (Ack ack_size))
    (pick (is_error_of f.error p) (Some (Error (length p))) (data_of f.length p)))
    None

-- the part of the packet that a data frame's payload occupies
unfoldable pub payload_of : Option FrameType → List ℕ → List ℕ
payload_of (Some (Ack n)) p = []
payload_of (Some (Error n)) p = []
payload_of (Some (Data start len frame)) p = take len (drop start p)
payload_of None p = []
