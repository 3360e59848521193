-- The worked examples of ISO/IEC 14443-3, annex B, by computation from the definition.
-- Assumes nothing.
use Rattle.std.specs.Prelude.{◌≡◌, refl, [], ◌∷◌}
use Rattle.crc.specs.Crc.{polynomial, bit_in, bits_in, bits, register_after, type_a, type_b, result, crc_of, crc_bytes}

pub polynomial_is : polynomial ≡ 0x8408
unfolding polynomial
polynomial_is = refl

pub crc_a_of_00_00 : crc_bytes type_a (0x00 ∷ 0x00 ∷ []) ≡ 0xA0 ∷ 0x1E ∷ []
unfolding polynomial bit_in bits_in bits register_after result crc_of crc_bytes
crc_a_of_00_00 = refl

pub crc_a_of_12_34 : crc_bytes type_a (0x12 ∷ 0x34 ∷ []) ≡ 0x26 ∷ 0xCF ∷ []
unfolding polynomial bit_in bits_in bits register_after result crc_of crc_bytes
crc_a_of_12_34 = refl

pub crc_b_of_00_00_00 : crc_bytes type_b (0x00 ∷ 0x00 ∷ 0x00 ∷ []) ≡ 0xCC ∷ 0xC6 ∷ []
unfolding polynomial bit_in bits_in bits register_after result crc_of crc_bytes
crc_b_of_00_00_00 = refl

pub crc_b_of_0f_aa_ff : crc_bytes type_b (0x0F ∷ 0xAA ∷ 0xFF ∷ []) ≡ 0xFC ∷ 0xD1 ∷ []
unfolding polynomial bit_in bits_in bits register_after result crc_of crc_bytes
crc_b_of_0f_aa_ff = refl

pub crc_b_of_0a_12_34_56 : crc_bytes type_b (0x0A ∷ 0x12 ∷ 0x34 ∷ 0x56 ∷ []) ≡ 0x2C ∷ 0xF6 ∷ []
unfolding polynomial bit_in bits_in bits register_after result crc_of crc_bytes
crc_b_of_0a_12_34_56 = refl
