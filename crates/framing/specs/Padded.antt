-- Packets of boards that pad the start (document 02, N2): up to 16 zeros before the start bytes, and what such a packet is.
use Rattle.std.specs.Prelude.{ℕ, zero, suc, ◌+◌, Bool, true, false, List, ◌++◌, drop, replicate, Option, Some, None}
use Rattle.framing.specs.Frames.{sof}
use Rattle.errors.specs.Choice.{pick}
use Rattle.framing.specs.Lists.{starts}
use Rattle.framing.specs.Parse.{parse_of}
use Rattle.framing.specs.declared.FrameFormat.{FrameFormat}
use Rattle.framing.specs.declared.FrameType.{FrameType}
use Rattle.framing.specs.declared.FrameType.TheVariants.{Ack, Error, Data}
use Rattle.framing.specs.declared.padded.Padded.{Padded}

abbrev pub most_zeros : ℕ
most_zeros = 16

-- the packet p is z zeros before a packet that has the start bytes
unfoldable pub is_padded : ℕ → List ℕ → Bool
is_padded z p = starts (replicate z 0x00 ++ sof) p

-- the z up to n of which that holds; 0 where it holds of none
unfoldable pub zeros_up_to : ℕ → List ℕ → ℕ
zeros_up_to zero p = 0
zeros_up_to (suc n) p = pick (is_padded (suc n) p) (suc n) (zeros_up_to n p)

-- how many extra zeros a packet has
unfoldable pub extra_zeros_of : List ℕ → ℕ
extra_zeros_of p = zeros_up_to most_zeros p

-- the packet without them
unfoldable pub unpadded : List ℕ → List ℕ
unpadded p = drop (extra_zeros_of p) p

-- how many bytes are stepped over: with the padded mode on the extra zeros, off none
abbrev pub zeros_in : Bool → List ℕ → ℕ
zeros_in true p = extra_zeros_of p
zeros_in false p = 0

-- an answer with its place counted from z bytes further in front
abbrev pub shifted_by : ℕ → Option FrameType → Option FrameType
shifted_by z (Some (Ack n)) = Some (Ack n)
shifted_by z (Some (Error n)) = Some (Error n)
shifted_by z (Some (Data start len n)) = Some (Data (z + start) len n)
shifted_by z None = None

abbrev pub padded : ℕ → Option FrameType → Padded
padded z t = record { zeros = z; found = t }

-- the plain answer of the packet without the bytes that are stepped over, its place that of the packet as it came
unfoldable pub parse_padded_of : FrameFormat → Bool → List ℕ → Padded
parse_padded_of f on p = padded (zeros_in on p) (shifted_by (zeros_in on p) (parse_of f (drop (zeros_in on p) p)))
