-- CRC_A and CRC_B of ISO/IEC 14443-3, annex B: a shift register of 16 bits, the polynomial x^16 + x^12 + x^5 + 1, each byte's bits taken lowest first.
-- A register, a byte and a bit are numbers; `bit_xor` adds two numbers bit by bit, without carry.
-- Assumes nothing.
use Rattle.std.specs.Prelude.{Bool, true, false, List, [], ◌∷◌, ℕ, zero, suc, ◌+◌, ◌-◌, ◌*◌, ◌/◌, ◌%◌, ◌^◌, ltb, length, take, drop}
use Rattle.std.specs.Int.Bits.{bit_xor}
use Rattle.errors.specs.Choice.{pick, same}

-- The register shifts right, so the polynomial's term x^e stands at bit 15 - e: 0x8408. The term x^16 is the bit that leaves.
unfoldable pub polynomial : ℕ
polynomial = 2 ^ (15 - 12) + 2 ^ (15 - 5) + 2 ^ (15 - 0)

-- A bit: the register shifts by one, and where the bit that leaves it differs from the one that comes, the polynomial is added.
unfoldable pub bit_in : ℕ → ℕ → ℕ
bit_in register bit = bit_xor (register / 2) (bit_xor (register % 2) bit * polynomial)

-- The register after a list of bits.
unfoldable pub bits_in : ℕ → List ℕ → ℕ
bits_in register [] = register
bits_in register (b ∷ bs) = bits_in (bit_in register b) bs

-- The n low bits of x, lowest first.
unfoldable pub bits : ℕ → ℕ → List ℕ
bits zero x = []
bits (suc n) x = x % 2 ∷ bits n (x / 2)

-- The register after a list of bytes.
unfoldable pub register_after : ℕ → List ℕ → ℕ
register_after register [] = register
register_after register (b ∷ bs) = register_after (bits_in register (bits 8 b)) bs

-- The two kinds differ in the register's initial value, and in whether the result is inverted.
pub record CrcKind : Type 0 where
  pub initial : ℕ
  pub inverted : Bool

abbrev pub crc_kind : ℕ → Bool → CrcKind
crc_kind initial inverted = record { initial = initial; inverted = inverted }

abbrev pub type_a : CrcKind
type_a = crc_kind 0x6363 false

abbrev pub type_b : CrcKind
type_b = crc_kind 0xFFFF true

-- Inverted: each of the register's 16 bits is the other.
unfoldable pub result : Bool → ℕ → ℕ
result true register = 0xFFFF - register
result false register = register

unfoldable pub crc_of : CrcKind → List ℕ → ℕ
crc_of k s = result k.inverted (register_after k.initial s)

-- The CRC as it is sent: two bytes, the low one first.
unfoldable pub crc_bytes : CrcKind → List ℕ → List ℕ
crc_bytes k s = crc_of k s % 256 ∷ crc_of k s / 256 % 256 ∷ []

-- The last two bytes are the CRC of all before them. Under two bytes: no.
unfoldable pub checks : CrcKind → List ℕ → Bool
checks k s = pick (ltb (length s) 2) false (same (drop (length s - 2) s) (crc_bytes k (take (length s - 2) s)))
