-- The fewest digits that hold a number are its decimal digits.
use Rattle.std.specs.Prelude.{◌≡◌, refl, Bool, List, [], ◌∷◌, ◌++◌, ℕ, zero, suc, ◌+◌, ◌-◌, ◌*◌, ◌/◌, ◌%◌, ◌^◌, ◌≤◌, ◌<◌, ltb, length}
use Rattle.std.proofs.Common.{ap, ap₂, arith, lt-ltb, ltb-true, ltb-false, length-append}
use Rattle.std.proofs.Math.Bool.{true, false}
use Rattle.errors.specs.Choice.{pick}
use Rattle.io.specs.Digits.{last_digits, hex_digit_ascii, IsDigitCount}
use Rattle.bench.specs.Texts.{decimal_under, decimal_of}

glyph_low : (d : ℕ) → d < 10 → hex_digit_ascii d ≡ 48 + d
glyph_low d h = rw (lt-ltb d 10 h)

pow_pos : (k : ℕ) → 0 < 10 ^ k
pow_pos zero = omega arith
pow_pos (suc k) = omega (arith, pow_pos k)

-- of k + 2 digits the highest is not 0
full : (n k : ℕ) → IsDigitCount 10 1 n (suc (suc k)) → 10 * 10 ^ k ≤ n
full n k f =
    let e : suc (suc k) - 1 ≡ suc k = omega arith in
    let g : 10 ^ suc k ≤ n = rw e at (f.2 (omega arith)) in
    omega arith

one_digit : (n k : ℕ) → n < 10 → IsDigitCount 10 1 n k → last_digits 10 k n ≡ (48 + n) ∷ []
one_digit n zero h f = absurd (omega arith)
one_digit n (suc zero) h f =
    let m : n % 10 ≡ n = omega arith in
    rw m (ap (λ x. x ∷ []) (glyph_low n h))
one_digit n (suc (suc k)) h f = absurd (omega (arith, full n k f, pow_pos k))

fewer : (n k : ℕ) → IsDigitCount 10 1 n (suc (suc k)) → IsDigitCount 10 1 (n / 10) (suc k)
fewer n k f =
    let g = full n k f in
    let e : suc k - 1 ≡ k = omega arith in
    (omega arith, omega arith, λ h. rw e (omega arith))

-- the digits of n / 10 are right
module _ (k : ℕ) (below : (m i : ℕ) → m < 10 ^ suc k → IsDigitCount 10 1 m i → last_digits 10 i m ≡ decimal_under (suc k) m) where
  more-digits : (n j : ℕ) → 10 ≤ n → n < 10 ^ suc (suc k) → IsDigitCount 10 1 n j → last_digits 10 j n ≡ decimal_under (suc k) (n / 10) ++ ((48 + n % 10) ∷ [])
  more-digits n zero b h f = absurd (omega arith)
  more-digits n (suc zero) b h f = absurd (omega arith)
  more-digits n (suc (suc j)) b h f =
      ap₂ (λ (l : List ℕ) (x : ℕ). l ++ (x ∷ [])) (below (n / 10) (suc j) (omega arith) (fewer n j f)) (glyph_low (n % 10) (omega arith))

  by_size : (n j : ℕ) → n < 10 ^ suc (suc k) → IsDigitCount 10 1 n j → (t : Bool) → ltb n 10 ≡ t
      → last_digits 10 j n ≡ pick t ((48 + n) ∷ []) (decimal_under (suc k) (n / 10) ++ ((48 + n % 10) ∷ []))
  unfolding pick
  by_size n j h f true e = one_digit n j (ltb-true n 10 e) f
  by_size n j h f false e = more-digits n j (ltb-false n 10 e) h f

under : (k n j : ℕ) → n < 10 ^ suc k → IsDigitCount 10 1 n j → last_digits 10 j n ≡ decimal_under (suc k) n
unfolding decimal_under pick
under zero n j h f = let b : n < 10 = omega arith in rw (lt-ltb n 10 b) (one_digit n j b f)
under (suc k) n j h f = by_size k (under k) n j h f (ltb n 10) refl

pub decimal_digits : (n j : ℕ) → n < 2 ^ 64 → IsDigitCount 10 1 n j → last_digits 10 j n ≡ decimal_of n
unfolding decimal_of
decimal_digits n j h f = under 19 n j (omega arith) f

length_under : (k n : ℕ) → length (decimal_under k n) ≤ k
unfolding decimal_under pick
length_under zero n = omega arith
length_under (suc k) n = go (length_under k (n / 10)) (ltb n 10)
  where
    go : length (decimal_under k (n / 10)) ≤ k → (t : Bool) → length (pick t ((48 + n) ∷ []) (decimal_under k (n / 10) ++ ((48 + n % 10) ∷ []))) ≤ suc k
    go h true = omega arith
    go h false = rw (length-append (decimal_under k (n / 10)) ((48 + n % 10) ∷ [])) (omega arith)

pub decimal_short : (n : ℕ) → length (decimal_of n) ≤ 20
unfolding decimal_of
decimal_short n = length_under 20 n
