-- Laws of a list that was copied into a buffer from a place on, through the part of the buffer from there.
use Rattle.std.specs.Prelude.{◌≡◌, ℕ, suc, ◌+◌, ◌-◌, ◌≤◌, List, [], ◌∷◌, ◌++◌, length, take, drop, slice_set, refl}
use Rattle.std.proofs.Common.{sym, ap, ap₂, ◌∙◌, append_assoc, append-nil, add-one, arith, length-set, length-append, length-drop, drop_of_length-le, take_all, length-take-le, drop_at, take_at, drop-drop}
use Rattle.std.proofs.Math.Seq.{take-length, drop-append-add}
use Rattle.std.proofs.lemmas.List.Edits.{sets-eq}
use borrow.Rule.Slice.PartMut.{put_mid}

module _ (b p : List ℕ) (s : ℕ) (room : s + length p ≤ length b) where
  pub copied : (part : List ℕ) → part ≡ take (length p) p ++ drop (length p) (take (length b - s) (drop s b))
      → put_mid s (length b - s) b part ≡ take s b ++ (p ++ drop (s + length p) b)
  copied part e =
      let rest : length (drop s b) ≤ length b - s = rw (length-drop s b) (omega arith) in
      rw (e, take-length p, take_all (length b - s) (drop s b), drop_of_length-le (drop s b) {i = length b - s} rest, append-nil, drop-drop (length p) s b)

  -- the copy is what stands there now
  pub copied_here : take (length p) (drop s (take s b ++ (p ++ drop (s + length p) b))) ≡ p
  copied_here =
      let l : length (take s b) ≡ s = length-take-le s b (omega arith) in
      rw (drop_at (take s b) (p ++ drop (s + length p) b) s l) (take_at p (drop (s + length p) b) (length p) refl)

  -- behind it the buffer is as it was
  pub copied_behind : (k : ℕ) → drop (s + length p + k) (take s b ++ (p ++ drop (s + length p) b)) ≡ drop (s + length p + k) b
  copied_behind k =
      let l : length (take s b ++ p) ≡ s + length p = length-append (take s b) p ∙ ap (λ j. j + length p) (length-take-le s b (omega arith)) in
      ap (λ x. drop (s + length p + k) x) (sym (append_assoc (take s b) p (drop (s + length p) b)))
      ∙ ap (λ j. drop (j + k) (take s b ++ p ++ drop (s + length p) b)) (sym l)
      ∙ drop-append-add (take s b ++ p) (drop (s + length p) b) k
      ∙ drop-drop k (s + length p) b

-- two bytes put at s, and a list copied behind them
pub copied_two : (b l : List ℕ) (s x y : ℕ) → s + (length l + 2) ≤ length b → (part : List ℕ)
    → part ≡ take (length l) l ++ drop (length l) (take (length b - (s + 2)) (drop (s + 2) (slice_set (slice_set b s x) (s + 1) y)))
    → put_mid (s + 2) (length b - (s + 2)) (slice_set (slice_set b s x) (s + 1) y) part ≡ take s b ++ ((x ∷ y ∷ l) ++ drop (s + length (x ∷ y ∷ l)) b)
copied_two b l s x y room part e =
    let b₁ : List ℕ = slice_set (slice_set b s x) (s + 1) y in
    let same : length b₁ ≡ length b = length-set (slice_set b s x) (s + 1) y ∙ length-set b s x in
    let two : b₁ ≡ take s b ++ (x ∷ y ∷ []) ++ drop (s + 2) b
    = ap (λ k. slice_set (slice_set b s x) k y) (add-one s) ∙ sets-eq (x ∷ y ∷ []) b s (omega arith) in
    let l₀ : length (take s b ++ (x ∷ y ∷ [])) ≡ s + 2 = length-append (take s b) (x ∷ y ∷ []) ∙ ap (λ k. k + 2) (length-take-le s b (omega arith)) in
    let front : take (s + 2) b₁ ≡ take s b ++ (x ∷ y ∷ []) = ap (take (s + 2)) two ∙ take_at (take s b ++ (x ∷ y ∷ [])) (drop (s + 2) b) (s + 2) l₀ in
    let back : drop (s + 2 + length l) b₁ ≡ drop (s + length (x ∷ y ∷ l)) b
    = ap₂ (λ k m. drop (k + length l) m) (sym l₀) two ∙ drop-append-add (take s b ++ (x ∷ y ∷ [])) (drop (s + 2) b) (length l)
    ∙ drop-drop (length l) (s + 2) b ∙ ap (λ k. drop k b) (longer s (length l)) in
    ap (λ k. put_mid (s + 2) (k - (s + 2)) b₁ part) (sym same)
    ∙ copied b₁ l (s + 2) (rw same (omega arith)) part (e ∙ ap (λ k. take (length l) l ++ drop (length l) (take (k - (s + 2)) (drop (s + 2) b₁))) (sym same))
    ∙ ap₂ (λ f d. f ++ (l ++ d)) front back
    ∙ append_assoc (take s b) (x ∷ y ∷ []) (l ++ drop (s + length (x ∷ y ∷ l)) b)
  where
    longer : (s n : ℕ) → s + 2 + n ≡ s + suc (suc n)
    longer s n = omega arith
