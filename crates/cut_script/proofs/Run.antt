-- One stretch's run, by index: what the inner loop holds, and when it may give up before the last line.
use Rattle.std.specs.Prelude.{◌≡◌, refl, true, false, List, [], ◌∷◌, ℕ, zero, suc, ◌+◌, ◌-◌, ◌≤◌, ◌<◌, length, drop, take, get_or}
use Rattle.std.proofs.Common.{sym, ap, ◌∙◌, arith, length-drop, drop-drop}
use Rattle.std.proofs.Math.Option.{some}
use Rattle.cut_script.specs.LineSession.{LineSession, Lawful, next, says, after, prints}
use Rattle.cut_script.specs.Loop.{NoneFrom}
use Rattle.cut_script.proofs.Loop.{loop_tried}
use Rattle.cut_script.specs.Run.{reached}

module _ (M : LineSession) where
  pub run-starts : (xs : List M.Line) (i : ℕ) → reached M xs i i ≡ M.fresh
  run-starts xs i = let q : i - i ≡ 0 = omega arith in rw q

  one_more : (d : M.Line) (s : M.State) (n i : ℕ) (xs : List M.Line) → i + n < length xs
      → after M s (take (suc n) (drop i xs)) ≡ next M (after M s (take n (drop i xs))) (get_or xs (i + n) d)
  one_more d s n i [] h = absurd (omega arith)
  one_more d s n (suc i) (l ∷ ls) h = let q : suc i + n ≡ suc (i + n) = omega arith in rw q (one_more d s n i ls (omega arith))
  one_more d s zero zero (l ∷ ls) h = refl
  one_more d s (suc n) zero (l ∷ ls) h =
      let q : 0 + suc n ≡ suc n = omega arith in
      let r : 0 + n ≡ n = omega arith in
      rw q (rw r at (one_more d (next M s l) n zero ls (omega arith)))

  pub run_goes_on : (d : M.Line) (xs : List M.Line) (i m : ℕ) → i ≤ m → m < length xs → reached M xs i (suc m) ≡ next M (reached M xs i m) (get_or xs m d)
  run_goes_on d xs i m a b =
      let q : suc m - i ≡ suc (m - i) = omega arith in
      let r : i + (m - i) ≡ m = omega arith in
      rw q (rw r at (one_more d M.fresh (m - i) i xs (omega arith)))

  split : (s : M.State) (n : ℕ) (ys : List M.Line) → n < length ys → prints M s ys ≡ prints M (after M s (take n ys)) (drop n ys)
  split s n [] h = absurd (omega arith)
  split s zero (l ∷ ls) h = refl
  split s (suc n) (l ∷ []) h = absurd (omega arith)
  split s (suc n) (l ∷ m ∷ ls) h = split (next M s l) n (m ∷ ls) (omega arith)

  pub prints-from : (xs : List M.Line) (i m : ℕ) → i ≤ m → m < length xs → prints M M.fresh (drop i xs) ≡ prints M (reached M xs i m) (drop m xs)
  prints-from xs i m a b =
      let r : i + (m - i) ≡ m = omega arith in
      split M.fresh (m - i) (drop i xs) (simp length-drop (omega arith)) ∙ rw (drop-drop (m - i) i xs, r)

  last_one : (d : M.Line) (s : M.State) (m : ℕ) (xs : List M.Line) → suc m ≡ length xs → prints M s (drop m xs) ≡ some (says M s (get_or xs m d))
  last_one d s m [] h = absurd (omega arith)
  last_one d s zero (l ∷ []) h = refl
  last_one d s zero (l ∷ m ∷ ls) h = absurd (omega arith)
  last_one d s (suc m) (l ∷ ls) h = last_one d s m ls (omega arith)

  -- what the inner loop ends with
  pub run_ends : (d : M.Line) (xs : List M.Line) (i m : ℕ) → i ≤ m → suc m ≡ length xs → prints M M.fresh (drop i xs) ≡ some (says M (reached M xs i m) (get_or xs m d))
  run_ends d xs i m a h = prints-from xs i m a (omega arith) ∙ last_one d (reached M xs i m) m xs h

  -- ---- given up: the run is where a shorter stretch's run is

  pub loop_caught : (xs : List M.Line) (i j m : ℕ) → NoneFrom M xs (suc i) → i < j → j ≤ m → m < length xs → reached M xs i m ≡ reached M xs j m → NoneFrom M xs i
  loop_caught xs i j m n a b c e =
      let r = prints-from xs i m (omega arith) c ∙ ap (λ s. prints M s (drop m xs)) e ∙ sym (prints-from xs j m b c) in
      loop_tried M xs i n (rw r (n.none_from j a (omega arith)))

  first-line : (d : M.Line) (xs : List M.Line) (j : ℕ) → j < length xs → reached M xs j (suc j) ≡ next M M.fresh (get_or xs j d)
  first-line d xs j l = run_goes_on d xs j j (omega arith) l ∙ ap (λ s. next M s (get_or xs j d)) (run-starts xs j)

  -- a run that takes a further opening is where the stretch from there on is, if a line follows
  pub loop_overtaken : Lawful M → (d : M.Line) (xs : List M.Line) (i j : ℕ) → NoneFrom M xs (suc i) → i < j → suc j < length xs
      → M.is_opening (get_or xs j d) ≡ true → M.is_at_once (says M (reached M xs i j) (get_or xs j d)) ≡ false → NoneFrom M xs i
  loop_overtaken L d xs i j n a b o t =
      loop_caught xs i j (suc j) n a (omega arith) b (run_goes_on d xs i j (omega arith) (omega arith) ∙ L.resets (reached M xs i j) (get_or xs j d) o t ∙ sym (first-line d xs j (omega arith)))
