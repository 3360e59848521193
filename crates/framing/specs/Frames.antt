-- Frames on the host link, from the PN532 user manual (UM0701-02), section 6.2.1. A byte string is a list of numbers.
-- The manual's payload is TFI and data together, as document 01 has it. ExtendedLittleEndian is document 01's alone.
use Rattle.std.specs.Prelude.{ℕ, ◌+◌, ◌-◌, ◌/◌, ◌%◌, List, [], ◌∷◌, ◌++◌, length, nat_lt}
use Rattle.errors.specs.Choice.{pick}
use Rattle.framing.specs.Names.{normal_start, extended_start, longest_normal, longest_extended, shortest_extended}
use Rattle.framing.specs.declared.LengthEncoding.{LengthEncoding}
use Rattle.framing.specs.declared.LengthEncoding.TheVariants.{Normal, ExtendedLittleEndian, NormalOrExtendedBigEndian}

unfoldable pub total : List ℕ → ℕ
total [] = 0
total (b ∷ bs) = b + total bs

-- LCS and DCS: the byte that brings the sum of the bytes to a multiple of 256
unfoldable pub checksum_of : List ℕ → ℕ
checksum_of bs = (256 - total bs % 256) % 256

-- preamble 00 and start code 00 FF
abbrev pub sof : List ℕ
sof = 0x00 ∷ 0x00 ∷ 0xFF ∷ []

-- DCS and postamble
abbrev pub ending : List ℕ → List ℕ
ending payload = checksum_of payload ∷ 0x00 ∷ []

-- preamble, start code, LEN, LCS
abbrev pub normal_head : ℕ → List ℕ
normal_head len = 0x00 ∷ 0x00 ∷ 0xFF ∷ len ∷ checksum_of (len ∷ []) ∷ []

-- preamble, start code, FF FF, the two length bytes, LCS
abbrev pub extended_head : List ℕ → List ℕ
extended_head lens = 0x00 ∷ 0x00 ∷ 0xFF ∷ 0xFF ∷ 0xFF ∷ lens ++ (checksum_of lens ∷ [])

-- LENM and LENL, in the order of the form
unfoldable pub length_bytes : LengthEncoding → ℕ → List ℕ
length_bytes Normal n = n / 256 ∷ n % 256 ∷ []
length_bytes ExtendedLittleEndian n = n % 256 ∷ n / 256 ∷ []
length_bytes NormalOrExtendedBigEndian n = n / 256 ∷ n % 256 ∷ []

-- the normal and the extended information frame of a payload
unfoldable pub normal_frame : List ℕ → List ℕ
normal_frame payload = normal_head (length payload) ++ payload ++ ending payload

unfoldable pub extended_frame : LengthEncoding → List ℕ → List ℕ
extended_frame e payload = extended_head (length_bytes e (length payload)) ++ payload ++ ending payload

-- the head of a frame by the length form and the payload's length
unfoldable pub head_of : LengthEncoding → ℕ → List ℕ
head_of Normal n = normal_head n
head_of ExtendedLittleEndian n = extended_head (length_bytes ExtendedLittleEndian n)
head_of NormalOrExtendedBigEndian n = pick (nat_lt n shortest_extended) (normal_head n) (extended_head (length_bytes NormalOrExtendedBigEndian n))

-- how long that is
unfoldable pub data_start_of : LengthEncoding → ℕ → ℕ
data_start_of Normal n = normal_start
data_start_of ExtendedLittleEndian n = extended_start
data_start_of NormalOrExtendedBigEndian n = pick (nat_lt n shortest_extended) normal_start extended_start

-- the frame that carries a payload under a length form: normal, extended, or normal below 256 bytes and else extended
unfoldable pub frame_of : LengthEncoding → List ℕ → List ℕ
frame_of e payload = head_of e (length payload) ++ payload ++ ending payload

-- the longest payload that a length form can carry
abbrev pub longest : LengthEncoding → ℕ
longest Normal = longest_normal
longest ExtendedLittleEndian = longest_extended
longest NormalOrExtendedBigEndian = longest_extended

abbrev pub ack : List ℕ
ack = 0x00 ∷ 0x00 ∷ 0xFF ∷ 0x00 ∷ 0xFF ∷ 0x00 ∷ []

-- document 01's six-byte error frame
abbrev pub error_frame : List ℕ
error_frame = 0x00 ∷ 0x00 ∷ 0xFF ∷ 0xFF ∷ 0xFF ∷ 0x00 ∷ []
