-- Which stretches need be tried: the last line alone, and those that begin with an opening that a fresh session takes.
use Rattle.std.specs.Prelude.{◌≡◌, ◌≢◌, true, false, List, [], ◌∷◌, ℕ, zero, suc, ◌-◌, ◌<◌, eqb, length, drop}
use Rattle.std.proofs.Common.{sym, ap, ◌∙◌, arith}
use Rattle.cut_script.specs.LineSession.{LineSession, Lawful, next, says, prints}
use Rattle.cut_script.specs.First.{never, decide, apart}
use Rattle.cut_script.specs.Cut.{ending, Shortest, starts, begins, tried}

module _ (M : LineSession) (L : Lawful M) where
  -- a line that does not start leaves a fresh session fresh
  pub stays_fresh : (l : M.Line) → starts M l ≡ false → next M M.fresh l ≡ M.fresh
  stays_fresh l e =
      decide (M.is_opening l)
      (λ o. decide (M.is_at_once (says M M.fresh l)) (L.kept M.fresh l) (λ a. never (sym e ∙ (rw (o, a)))))
      (L.closed l)

  -- so it may be left out, if a line follows
  pub left_out : (l m : M.Line) (ls : List M.Line) → starts M l ≡ false → prints M M.fresh (l ∷ m ∷ ls) ≡ prints M M.fresh (m ∷ ls)
  left_out l m ls e = ap (λ s. prints M s (m ∷ ls)) (stays_fresh l e)

  -- a stretch that begins with no start prints what the one without its first line does
  pub one_shorter : (i : ℕ) (xs : List M.Line) → suc i < length xs → begins M (drop i xs) ≡ false → prints M M.fresh (drop i xs) ≡ prints M M.fresh (drop (suc i) xs)
  one_shorter zero [] h e = absurd (omega arith)
  one_shorter zero (l ∷ []) h e = absurd (omega arith)
  one_shorter zero (l ∷ m ∷ ls) h e = left_out l m ls e
  one_shorter (suc i) [] h e = absurd (omega arith)
  one_shorter (suc i) (l ∷ ls) h e = one_shorter i ls (omega arith) e

  -- so the shortest one is among those tried
  pub shortest_tried : (xs : List M.Line) (k : ℕ) → Shortest M xs k → tried M xs k ≡ true
  shortest_tried xs k s = decide (eqb k 1) (λ e. rw e) (λ e. rw e (decide (begins M (ending k xs)) (λ b. b) (λ b. never (contrary (apart k 1 e) b))))
    where
      contrary : k ≢ 1 → begins M (ending k xs) ≡ false → false ≡ true
      contrary d b =
          let u = s.some_line in
          let v = s.within in
          let q : length xs - (k - 1) ≡ suc (length xs - k) = omega arith in
          let r = one_shorter (length xs - k) xs (omega arith) b in
          sym (s.none_shorter (k - 1) (omega arith) (omega arith)) ∙ rw (q, ← r) s.same
