-- What `parse` tests of a packet, byte by byte: the laws in `Valid` say that it comes to `normal_at` and `extended_at`.
use Rattle.std.specs.Prelude.{ℕ, ◌+◌, ◌-◌, ◌*◌, ◌%◌, Bool, List, length, ◌==◌, nat_le, slice_index, slice_range, Option, Some, None}
use Rattle.errors.specs.Choice.{pick}
use Rattle.framing.specs.Frames.{total}
use Rattle.framing.specs.Lists.{both}
use Rattle.framing.specs.Names.{len_offset, lcs_offset, marker_byte, ending_size}
use Rattle.framing.specs.Parse.{extends}
use Rattle.framing.specs.declared.FrameType.{FrameType}
use Rattle.framing.specs.declared.FrameType.TheVariants.{Data}
use Rattle.framing.specs.declared.LengthEncoding.{LengthEncoding}
use Rattle.framing.specs.declared.LengthEncoding.TheVariants.{Normal, ExtendedLittleEndian, NormalOrExtendedBigEndian}

-- the marker FF FF of an extended frame
unfoldable pub has_marker_of : List ℕ → Bool
has_marker_of p = both (slice_index p len_offset == marker_byte) (slice_index p lcs_offset == marker_byte)

unfoldable pub marked : LengthEncoding → List ℕ → Bool
marked e p = both (extends e) (has_marker_of p)

unfoldable pub pair_length_of : LengthEncoding → ℕ → ℕ → ℕ
pair_length_of Normal a b = a * 256 + b
pair_length_of ExtendedLittleEndian a b = b * 256 + a
pair_length_of NormalOrExtendedBigEndian a b = a * 256 + b

unfoldable pub matches : List ℕ → ℕ → Bool
matches bs b = (total bs + b) % 256 == 0

-- the bytes from a up to e
abbrev pub between : ℕ → ℕ → List ℕ → List ℕ
between a e p = slice_range p a e

-- room for the frame, LCS right of the length bytes from l on, DCS right of the n payload bytes from s on, postamble
unfoldable pub checked : ℕ → ℕ → ℕ → List ℕ → Bool
checked l s n p =
    both (nat_le (s + n + ending_size) (length p))
    (both (matches (between l (s - 1) p) (slice_index p (s - 1)))
    (both (matches (between s (s + n) p) (slice_index p (s + n)))
    (slice_index p (s + n + 1) == 0)))

-- the data frame of these places, where it fits the packet
unfoldable pub frame_at_of : ℕ → ℕ → ℕ → List ℕ → Option FrameType
frame_at_of from start n p = pick (checked from start n p) (Some (Data start n (start + n + ending_size))) None
