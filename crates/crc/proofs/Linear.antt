-- A byte goes into the register at once: eight bits of it are the register's high byte added to an entry of a table of 256.
-- The bit step is linear, and a register whose low bits are the byte's only shifts.
-- Assumes nothing.
use mathlib.Core.Path.{◌≡◌, refl, sym, ap, ap₂, ◌∙◌}
use Prim.Native.Nat.{ℕ, zero, suc, ◌+◌, ◌*◌, ◌/◌, ◌%◌, ◌^◌, ◌<◌}
use native.Mathlib.Nat.{mod-lt, mod-eq_of_lt, pow-suc, zero-add}
use native.Mathlib.Omega.{arith}
use lib.Arith.{bin_ind, lt-one}
use lib.Bits.{bit_xor, differ, xor_step, xor_comm, xor_self, xor_zero_r, xor_shr, xor_mod, xor_block, block_half, block_odd}
use lib.Pow.{split}
use lib.Dec.{lit<}
use Rattle.crc.specs.Crc.{polynomial, bit_in, bits_in, bits}

half : (a b : ℕ) → bit_xor a b / 2 ≡ bit_xor (a / 2) (b / 2)
half a b = xor_shr a b 1

odd : (a b : ℕ) → bit_xor a b % 2 ≡ bit_xor (a % 2) (b % 2)
odd a b = xor_mod a b 1

-- what holds at 0 and 1 holds of every bit
bit : (P : ℕ → Type 0) → P 0 → P 1 → (a : ℕ) → P (a % 2)
bit P p q a = below (a % 2) (mod-lt a (lit< tt))
  where
    below : (b : ℕ) → b < 2 → P b
    below zero h = p
    below (suc zero) h = q
    below (suc (suc b)) h = absurd (omega arith)

two_bits : (P : ℕ → ℕ → Type 0) → P 0 0 → P 0 1 → P 1 0 → P 1 1 → (a b : ℕ) → P (a % 2) (b % 2)
two_bits P p q r s a b =
    bit (λ (x : ℕ). P x (b % 2)) (bit (λ (y : ℕ). P 0 y) p q b) (bit (λ (y : ℕ). P 1 y) r s b) a

bits_assoc : (a b c : ℕ) → differ (bit_xor (a % 2) (b % 2)) (c % 2) ≡ differ (a % 2) (bit_xor (b % 2) (c % 2))
bits_assoc a b c =
    two_bits (λ (x y : ℕ). differ (bit_xor x y) (c % 2) ≡ differ x (bit_xor y (c % 2)))
    refl
    (bit (λ (z : ℕ). differ 1 z ≡ bit_xor 1 z) refl refl c)
    refl
    (bit (λ (z : ℕ). z ≡ differ 1 (bit_xor 1 z)) refl refl c)
    a
    b

xor_assoc : (a b c : ℕ) → bit_xor (bit_xor a b) c ≡ bit_xor a (bit_xor b c)
xor_assoc =
    bin_ind (λ (a : ℕ). (b c : ℕ) → bit_xor (bit_xor a b) c ≡ bit_xor a (bit_xor b c))
    (λ b c. refl)
    (λ a ih b c.
    xor_step (bit_xor a b) c
    ∙ ap₂ (λ (q r : ℕ). q * 2 + r)
    (ap (λ (x : ℕ). bit_xor x (c / 2)) (half a b) ∙ ih (b / 2) (c / 2) ∙ ap (bit_xor (a / 2)) (sym (half b c)))
    (ap (λ (x : ℕ). differ x (c % 2)) (odd a b) ∙ bits_assoc a b c ∙ ap (differ (a % 2)) (sym (odd b c)))
    ∙ sym (xor_step a (bit_xor b c)))

-- the middle two change places
exchange : (a b c d : ℕ) → bit_xor (bit_xor a b) (bit_xor c d) ≡ bit_xor (bit_xor a c) (bit_xor b d)
exchange a b c d =
    xor_assoc a b (bit_xor c d)
    ∙ ap (bit_xor a) (sym (xor_assoc b c d) ∙ ap (λ (x : ℕ). bit_xor x d) (xor_comm b c) ∙ xor_assoc c b d)
    ∙ sym (xor_assoc a c (bit_xor b d))

-- the polynomial, added or not
fed : (a b : ℕ) → bit_xor (a % 2) (b % 2) * polynomial ≡ bit_xor (a % 2 * polynomial) (b % 2 * polynomial)
unfolding polynomial
fed = two_bits (λ (x y : ℕ). bit_xor x y * polynomial ≡ bit_xor (x * polynomial) (y * polynomial)) refl refl refl refl

-- the sum of two registers, and of what goes into them, gives the sum of the results
bit_linear : (r s a b : ℕ) → bit_in (bit_xor r s) (bit_xor a b % 2) ≡ bit_xor (bit_in r (a % 2)) (bit_in s (b % 2))
unfolding bit_in
bit_linear r s a b =
    ap₂ bit_xor (half r s)
    (ap₂ (λ (x y : ℕ). bit_xor x y * polynomial) (odd r s) (odd a b)
    ∙ ap (λ (x : ℕ). x * polynomial) (exchange (r % 2) (s % 2) (a % 2) (b % 2))
    ∙ rw (← odd r a, ← odd s b) (fed (bit_xor r a) (bit_xor s b)))
    ∙ exchange (r / 2) (s / 2) (bit_xor (r % 2) (a % 2) * polynomial) (bit_xor (s % 2) (b % 2) * polynomial)

bits_linear : (n r s a b : ℕ) → bits_in (bit_xor r s) (bits n (bit_xor a b)) ≡ bit_xor (bits_in r (bits n a)) (bits_in s (bits n b))
unfolding bits_in bits
bits_linear zero r s a b = refl
bits_linear (suc n) r s a b =
    ap₂ (λ (x y : ℕ). bits_in x (bits n y)) (bit_linear r s a b) (half a b)
    ∙ bits_linear n (bit_in r (a % 2)) (bit_in s (b % 2)) (a / 2) (b / 2)

-- where the register's low bits are those that come, the polynomial is never added
shifts : (n h b : ℕ) → b < 2 ^ n → bits_in (h * 2 ^ n + b) (bits n b) ≡ h
unfolding bits_in bits bit_in polynomial
shifts zero h b l = ap (λ (x : ℕ). h * 1 + x) (lt-one l) ∙ omega arith
shifts (suc n) h b l =
    ap (λ (x : ℕ). bits_in x (bits n (b / 2)))
    (ap₂ (λ (x y : ℕ). bit_xor x (bit_xor y (b % 2) * polynomial)) (block_half h n b) (block_odd h n b)
    ∙ ap (λ (x : ℕ). bit_xor (h * 2 ^ n + b / 2) (x * polynomial)) (xor_self (b % 2))
    ∙ xor_zero_r (h * 2 ^ n + b / 2))
    ∙ shifts n h (b / 2) (omega (arith, pow-suc 2 n))

module _ (r b : ℕ) (byte : b < 256) where
  low : bit_xor r b % 256 ≡ bit_xor (r % 256) b
  low = xor_mod r b 8 ∙ ap (bit_xor (r % 256)) (mod-eq_of_lt byte)

  parts : bit_xor (bit_xor r b % 256) (r / 256 * 256 + b) ≡ r
  parts =
      ap (λ (x : ℕ). bit_xor x (r / 256 * 256 + b)) (sym (zero-add (bit_xor r b % 256)))
      ∙ xor_block 8 0 (r / 256) (bit_xor r b % 256) b (mod-lt (bit_xor r b) (lit< tt)) byte
      ∙ ap (λ (x : ℕ). r / 256 * 256 + x)
      (ap (λ (x : ℕ). bit_xor x b) low ∙ xor_assoc (r % 256) b b ∙ ap (bit_xor (r % 256)) (xor_self b) ∙ xor_zero_r (r % 256))
      ∙ split r 8

  pub byte_at_once : bits_in r (bits 8 b) ≡ bit_xor (r / 256) (bits_in (bit_xor r b % 256) (bits 8 0))
  byte_at_once =
      ap (λ (x : ℕ). bits_in x (bits 8 b)) (sym parts)
      ∙ bits_linear 8 (bit_xor r b % 256) (r / 256 * 256 + b) 0 b
      ∙ ap (bit_xor (bits_in (bit_xor r b % 256) (bits 8 0))) (shifts 8 (r / 256) b byte)
      ∙ xor_comm (bits_in (bit_xor r b % 256) (bits 8 0)) (r / 256)
