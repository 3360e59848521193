-- The same by the index at which a stretch starts, as a loop in code goes: from the last line down to the first.
use Rattle.std.specs.Prelude.{◌≡◌, true, false, List, ℕ, suc, ◌-◌, ◌<◌, eqb, length, drop}
use Rattle.std.proofs.Common.{sym, ◌∙◌, arith}
use Rattle.cut_script.specs.LineSession.{LineSession, Lawful}
use Rattle.cut_script.specs.First.{never, decide, equal, apart}
use Rattle.cut_script.specs.Cut.{shows, Faulty, Shortest, begins}
use Rattle.cut_script.proofs.Shortest.{whole_shows, some_lines}
use Rattle.cut_script.specs.Fast.{one_shorter}
use Rattle.cut_script.specs.Loop.{NoneFrom}

module _ (M : LineSession) where
  pub loop_start : (xs : List M.Line) → NoneFrom M xs (length xs)
  loop_start xs = record { none_from = λ j a b. absurd (omega arith) }

  -- a stretch is tried and does not show it
  pub loop_tried : (xs : List M.Line) (i : ℕ) → NoneFrom M xs (suc i) → shows M xs (drop i xs) ≡ false → NoneFrom M xs i
  loop_tried xs i n e = record { none_from = λ j a b. decide (eqb i j) (λ q. rw (← equal i j q) e) (λ q. let d = apart i j q in n.none_from j (omega arith) b) }

  -- it does
  pub loop_stops : (xs : List M.Line) (i : ℕ) → NoneFrom M xs (suc i) → i < length xs → shows M xs (drop i xs) ≡ true → Shortest M xs (length xs - i)
  loop_stops xs i n l e =
      let q : length xs - (length xs - i) ≡ i = omega arith in
      record { some_line = omega arith; within = omega arith; same = rw q e; none_shorter = λ j a b. n.none_from (length xs - j) (omega arith) (omega arith) }

  module _ (L : Lawful M) where
    -- a stretch need not be tried
    pub loop_skips : (xs : List M.Line) (i : ℕ) → NoneFrom M xs (suc i) → suc i < length xs → begins M (drop i xs) ≡ false → NoneFrom M xs i
    loop_skips xs i n l e = loop_tried xs i n (rw (one_shorter M L i xs l e) (n.none_from (suc i) (omega arith) l))

    -- the loop never runs out
    pub loop_finds : (xs : List M.Line) → Faulty M xs → ¬ (NoneFrom M xs 0)
    loop_finds xs f n =
        let q : length xs - length xs ≡ 0 = omega arith in
        absurd (never (sym (n.none_from 0 (omega arith) (some_lines M L xs f)) ∙ (rw q at (whole_shows M L xs f))))
