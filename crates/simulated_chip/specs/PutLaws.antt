-- Memory in which a part was written: the part is read back, and what lies outside it is as it was.
use Rattle.std.specs.Prelude.{◌≡◌, refl, take, set}
use Rattle.std.proofs.Math.Path.{sym, ap, ap₂}
use Rattle.std.proofs.Common.{◌∙◌, length-set, length-drop, get_or-set_other, take_at}
use mathlib.Core.List.{List, ◌++◌}
use Prim.Native.Nat.{ℕ, suc, ◌+◌, ◌*◌, ◌/◌, ◌%◌, ◌-◌, ◌≤◌, ◌<◌}
use native.Mathlib.Omega.{arith}
use Rattle.std.proofs.Math.ListN.{length, drop, get_or, length-append}
use Rattle.std.proofs.Math.Seq.{length-take-le, get_or-take, get_or-drop, ext_get_or}
use Rattle.framing.specs.Copied.{copied_here, copied_behind}
use Rattle.simulated_chip.specs.Memory.{text_length, text_at_of, text_bytes, put_text}

-- ---- a part that was written

pub record Within (low high : ℕ) (b b₁ : List ℕ) : Type 0 where
  pub size : length b₁ ≡ length b
  pub below : (k : ℕ) → k < low → get_or b₁ k 0 ≡ get_or b k 0
  pub above : (k : ℕ) → high ≤ k → get_or b₁ k 0 ≡ get_or b k 0

pub within_none : (low high : ℕ) (b : List ℕ) → Within low high b b
within_none low high b = record { size = refl; below = λ k h. refl; above = λ k h. refl }

pub within_then : (low high : ℕ) (b b₁ b₂ : List ℕ) → Within low high b b₁ → Within low high b₁ b₂ → Within low high b b₂
within_then low high b b₁ b₂ u v =
    record { size = v.size ∙ u.size; below = λ k h. v.below k h ∙ u.below k h; above = λ k h. v.above k h ∙ u.above k h }

pub within_wider : (low high low₁ high₁ : ℕ) (b b₁ : List ℕ) → low₁ ≤ low → high ≤ high₁ → Within low high b b₁ → Within low₁ high₁ b b₁
within_wider low high low₁ high₁ b b₁ p q w = record { size = w.size; below = λ k h. w.below k (omega arith); above = λ k h. w.above k (omega arith) }

pub within_set : (i v : ℕ) (b : List ℕ) → Within i (i + 1) b (set b i v)
within_set i v b =
    record {
      size = length-set b i v;
      below = λ k h. get_or-set_other b i k v 0 (λ e. omega arith);
      above = λ k h. get_or-set_other b i k v 0 (λ e. omega arith);
    }

-- ---- a text that was put

module _ (b t : List ℕ) (at : ℕ) (room : at + (length t + 2) ≤ length b) where
  fits : at + length (text_bytes t) ≤ length b
  fits = omega arith

  pub put_within : Within at (at + (length t + 2)) b (put_text at t b)
  unfolding put_text
  put_within =
      let l : length (take at b) ≡ at = length-take-le at b (omega arith) in
      record {
        size = length-append (take at b) (text_bytes t ++ drop (at + length (text_bytes t)) b)
            ∙ ap₂ (λ (i j : ℕ). i + j) l (length-append (text_bytes t) (drop (at + length (text_bytes t)) b) ∙ ap (λ (j : ℕ). length (text_bytes t) + j) (length-drop (at + length (text_bytes t)) b))
            ∙ whole (length t) at (length b) (omega arith);
        below = λ k h.
            sym (get_or-take at (take at b ++ (text_bytes t ++ drop (at + length (text_bytes t)) b)) k 0 h)
            ∙ ap (λ (x : List ℕ). get_or x k 0) (take_at (take at b) (text_bytes t ++ drop (at + length (text_bytes t)) b) at l)
            ∙ get_or-take at b k 0 h;
        above = λ k h.
            ap (λ (n : ℕ). get_or (take at b ++ (text_bytes t ++ drop (at + length (text_bytes t)) b)) n 0) (split k (length t) h)
            ∙ sym (get_or-drop (at + length (text_bytes t)) (take at b ++ (text_bytes t ++ drop (at + length (text_bytes t)) b)) (k - (at + (length t + 2))) 0)
            ∙ ap (λ (x : List ℕ). get_or x (k - (at + (length t + 2))) 0) behind
            ∙ get_or-drop (at + length (text_bytes t)) b (k - (at + (length t + 2))) 0
            ∙ ap (λ (n : ℕ). get_or b n 0) (sym (split k (length t) h));
      }
    where
      whole : (n at m : ℕ) → at + (n + 2) ≤ m → at + (suc (suc n) + (m - (at + suc (suc n)))) ≡ m
      whole n at m h = omega arith

      split : (k n : ℕ) → at + (n + 2) ≤ k → k ≡ at + suc (suc n) + (k - (at + (n + 2)))
      split k n h = omega arith

      none : (n : ℕ) → n ≡ n + 0
      none n = omega arith

      behind : drop (at + length (text_bytes t)) (take at b ++ (text_bytes t ++ drop (at + length (text_bytes t)) b)) ≡ drop (at + length (text_bytes t)) b
      behind =
          ap (λ (n : ℕ). drop n (take at b ++ (text_bytes t ++ drop (at + length (text_bytes t)) b))) (none (at + length (text_bytes t)))
          ∙ copied_behind b (text_bytes t) at fits 0
          ∙ ap (λ (n : ℕ). drop n b) (sym (none (at + length (text_bytes t))))

  -- each byte of it
  stands : (k : ℕ) → k < length t + 2 → get_or (put_text at t b) (at + k) 0 ≡ get_or (text_bytes t) k 0
  unfolding put_text
  stands k h =
      sym (get_or-drop at (take at b ++ (text_bytes t ++ drop (at + length (text_bytes t)) b)) k 0)
      ∙ sym (get_or-take (length (text_bytes t)) (drop at (take at b ++ (text_bytes t ++ drop (at + length (text_bytes t)) b))) k 0 (omega arith))
      ∙ ap (λ (x : List ℕ). get_or x k 0) (copied_here b (text_bytes t) at fits)

  pub put-length : text_length at (put_text at t b) ≡ length t
  put-length =
      let low : get_or (put_text at t b) at 0 ≡ length t % 256 = ap (λ (n : ℕ). get_or (put_text at t b) n 0) (none at) ∙ stands 0 (omega arith) in
      let high : get_or (put_text at t b) (at + 1) 0 ≡ length t / 256 = stands 1 (omega arith) in
      omega arith
    where
      none : (n : ℕ) → n ≡ n + 0
      none n = omega arith

  -- it is read back
  pub put_read : text_at_of at (put_text at t b) ≡ t
  unfolding text_at_of
  put_read =
      let w = put_within in
      let n : length (take (text_length at (put_text at t b)) (drop (at + 2) (put_text at t b))) ≡ length t =
      ap (λ (k : ℕ). length (take k (drop (at + 2) (put_text at t b)))) put-length
      ∙ length-take-le (length t) (drop (at + 2) (put_text at t b)) (rw (length-drop (at + 2) (put_text at t b), w.size) (omega arith)) in
      ext_get_or 0 _ t n (λ i h.
      get_or-take (text_length at (put_text at t b)) (drop (at + 2) (put_text at t b)) i 0 (let e = put-length in omega arith)
      ∙ get_or-drop (at + 2) (put_text at t b) i 0
      ∙ ap (λ (k : ℕ). get_or (put_text at t b) k 0) (further i)
      ∙ stands (suc (suc i)) (omega arith))
    where
      further : (i : ℕ) → at + 2 + i ≡ at + suc (suc i)
      further i = omega arith

-- ---- a text that lies outside a part that was written

module _ (at : ℕ) (b b₁ : List ℕ) (size : length b₁ ≡ length b) (inside : at + 2 + text_length at b ≤ length b)
    (same : (k : ℕ) → at ≤ k → k < at + 2 + text_length at b → get_or b₁ k 0 ≡ get_or b k 0) where
  pub length-same : text_length at b₁ ≡ text_length at b
  length-same = ap₂ (λ (i j : ℕ). i + 256 * j) (same at (omega arith) (omega arith)) (same (at + 1) (omega arith) (omega arith))

  pub text_same : text_at_of at b₁ ≡ text_at_of at b
  unfolding text_at_of
  text_same =
      let n : length (take (text_length at b₁) (drop (at + 2) b₁)) ≡ text_length at b =
      ap (λ (k : ℕ). length (take k (drop (at + 2) b₁))) length-same
      ∙ length-take-le (text_length at b) (drop (at + 2) b₁) (rw (length-drop (at + 2) b₁, size) (omega arith)) in
      let m : length (take (text_length at b) (drop (at + 2) b)) ≡ text_length at b = length-take-le (text_length at b) (drop (at + 2) b) (rw (length-drop (at + 2) b) (omega arith)) in
      ext_get_or 0 _ _ (n ∙ sym m) (λ i h.
      get_or-take (text_length at b₁) (drop (at + 2) b₁) i 0 (let e = length-same in omega arith)
      ∙ get_or-drop (at + 2) b₁ i 0
      ∙ same (at + 2 + i) (omega arith) (omega arith)
      ∙ sym (get_or-drop (at + 2) b i 0)
      ∙ sym (get_or-take (text_length at b) (drop (at + 2) b) i 0 (omega arith)))
