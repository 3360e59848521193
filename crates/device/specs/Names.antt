-- The opening's answer: three version bytes and the chip's name.
use Rattle.std.specs.Prelude.{◌≡◌, List, [], ◌∷◌, ◌++◌, ℕ, ◌/◌, ◌%◌, ◌<◌, ◌≤◌, length, take, get_or}
use Rattle.std.proofs.Common.{ap₂, ◌∙◌, subst, lt-ltb, le-ltb, drop-cons}
use Rattle.std.proofs.Math.Path.{ap}
use native.Mathlib.Omega.{arith}
use Rattle.errors.specs.Choice.{pick}
use Rattle.stages.specs.Decided.{Lays}
use Rattle.stages.specs.declared.Layout.{Layout}
use Rattle.protocol.specs.Device.{hex_digit_of, hex, dotted, name_bytes}
use Rattle.protocol.specs.Names.{version_need}

-- the version bytes and the name
abbrev pub opened_bytes : ℕ → ℕ → ℕ → List ℕ
opened_bytes ic ver rev = ic ∷ ver ∷ rev ∷ name_bytes ver rev

-- ---- laws

pub first_three : (l : List ℕ) → 3 ≤ length l → take 3 l ≡ get_or l 0 0 ∷ get_or l 1 0 ∷ get_or l 2 0 ∷ []
first_three l h =
    ap (take 3) (drop-cons l 0 0 (omega arith)
    ∙ ap (λ r. get_or l 0 0 ∷ r) (drop-cons l 1 0 (omega arith)
    ∙ ap (λ r. get_or l 1 0 ∷ r) (drop-cons l 2 0 (omega arith))))

module _ (b one : ℕ) (low : one ≡ hex_digit_of (b % 16)) where
  pub hex_short : b < 16 → one ∷ [] ≡ hex b
  unfolding hex pick
  hex_short h =
      let e : b % 16 ≡ b = omega arith in
      rw (lt-ltb b 16 h) (ap (λ d. d ∷ []) (low ∙ ap hex_digit_of e))

  pub hex_long : (ten : ℕ) → ten ≡ hex_digit_of (b / 16) → 16 ≤ b → ten ∷ one ∷ [] ≡ hex b
  unfolding hex pick
  hex_long ten high h = rw (le-ltb b 16 h) (ap₂ (λ t o. t ∷ o ∷ []) high low)

pub dotted_is : (x y : List ℕ) (ver rev : ℕ) → x ≡ hex ver → y ≡ hex rev → x ++ (0x2E ∷ y) ≡ dotted ver rev
unfolding dotted
dotted_is x y ver rev p q = ap₂ (λ a b. a ++ (0x2E ∷ b)) p q

-- the first three bytes of a response, and the name behind them
pub lays_opened : (f b : List ℕ) (r : Layout) → version_need ≤ length b → Lays f b r (take 3 b ++ name_bytes (get_or b 1 0) (get_or b 2 0))
    → Lays f b r (opened_bytes (get_or b 0 0) (get_or b 1 0) (get_or b 2 0))
lays_opened f b r h k = subst (λ l. Lays f b r (l ++ name_bytes (get_or b 1 0) (get_or b 2 0))) (first_three b (omega arith)) k
