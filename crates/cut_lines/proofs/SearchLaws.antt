-- Laws of the search: a stretch that is tried, and the shortest one.
use Rattle.std.specs.Prelude.{◌≡◌, ℕ, zero, suc, ◌+◌, ◌-◌, ◌<◌, ◌≤◌, Bool, true, false, not, List, [], ◌∷◌, length, drop, Option as Found}
use mathlib.Core.Path.{refl, sym, ap, ◌∙◌}
use mathlib.Core.Option.{Option, none, some}
use native.Mathlib.Omega.{arith}
use lib.Seq.{slice}
use Rattle.errors.specs.declared.Numbered.{Numbered}
use Rattle.bench_input.specs.Readings.{input_in}
use Rattle.bench_input.specs.Table.{Said, unreadable}
use Rattle.cut_script.specs.LineSession.{prints}
use Rattle.cut_script.specs.First.{never}
use Rattle.cut_script.specs.Bench.{is_opening, refusal_of, is_some, same_refusal, bench}
use Rattle.cut_script.specs.BenchLaws.{refusal_itself, lawful}
use Rattle.cut_script.specs.Cut.{shows, same_out_of, refuses, begins, Shortest}
use Rattle.cut_script.specs.Loop.{NoneFrom}
use Rattle.cut_script.proofs.Loop.{loop_start, loop_tried, loop_stops, loop_skips}
use Rattle.cut_script.proofs.Run.{loop_overtaken}
use Rattle.cut_lines.specs.Readings.{entry_at}
use Rattle.cut_lines.specs.Shown.{shown_in}
use Rattle.cut_lines.specs.Runs.{line_at, Holds, shown_by_of, last_shown, RunShows, ran, overtaken, StretchTried}
use Rattle.cut_lines.specs.declared.entries.Entry.{Entry}
use Rattle.cut_lines.proofs.ShownLaws.{not-true}

same_none : (o : Option Numbered) → same_refusal o none ≡ false
same_none none = refl
same_none (some a) = refl

same-shown : (p q : Option bench.Out) → same_out_of bench p q ≡ same_refusal (shown_by_of p) (shown_by_of q)
same-shown none q = refl
same-shown (some o) none = sym (same_none (refusal_of o))
same-shown (some o) (some p) = refl

pub faulty : (p : Option bench.Out) → refuses bench p ≡ is_some (shown_by_of p)
faulty none = refl
faulty (some o) = refl

-- the whole script shows its own fault
whole_shows : (p : Option bench.Out) (fault : Numbered) → shown_by_of p ≡ some fault → same_out_of bench p p ≡ true
whole_shows p fault e = same-shown p p ∙ refusal_itself (shown_by_of p) (ap is_some e)

no_opening_lem : (i : ℕ) (xs : List Said) → is_opening (line_at xs i) ≡ false → begins bench (drop i xs) ≡ false
no_opening_lem zero [] h = refl
no_opening_lem zero (x ∷ xs) h = rw h
no_opening_lem (suc i) [] h = refl
no_opening_lem (suc i) (x ∷ xs) h = no_opening_lem i xs h

module _ (xs : List Said) (i : ℕ) (fault : Numbered) where
  -- it begins with no opening and has a line more
  pub tried_skipped : suc i < length xs → is_opening (line_at xs i) ≡ false → StretchTried xs i fault false
  tried_skipped l h = record {
    does = λ f e. never e;
    does_not = λ f e n. loop_skips bench lawful xs i n l (no_opening_lem i xs h);
  }

  shows-as : last_shown xs 0 ≡ some fault → (w : Option Numbered) → w ≡ last_shown xs i → shows bench xs (drop i xs) ≡ same_refusal (some fault) w
  shows-as f w e = same-shown (prints bench bench.fresh xs) (prints bench bench.fresh (drop i xs)) ∙ rw (f, ← e)

  -- it was run
  pub tried-run : (w : Found Numbered) (r : Bool) → RunShows i xs i w → r ≡ same_refusal (some fault) (shown_in w) → StretchTried xs i fault r
  tried-run w r (ran e) s = record {
    does = λ f t. shows-as f (shown_in w) e ∙ sym s ∙ t;
    does_not = λ f t n. loop_tried bench xs i n (shows-as f (shown_in w) e ∙ sym s ∙ t);
  }
  tried-run w r (overtaken j is a b c o t) s = record {
    does = λ f u. never (sym (s ∙ ap (λ z. same_refusal (some fault) (shown_in z)) is) ∙ u);
    does_not = λ f u n. loop_overtaken bench lawful unreadable xs i j n a c o t;
  }

-- the same by an entry
pub tried_other : (es : List Entry) (b : List ℕ) (xs : List Said) → Holds es b xs → (i : ℕ) (fault : Numbered) → i + 1 < length es
    → (t : Bool) → ((p : List ℕ) → is_opening (input_in p (entry_at es i).input) ≡ t) → not t ≡ true → StretchTried xs i fault false
tried_other es b xs h i fault more t opens other =
    let p : List ℕ = slice (entry_at es i).from (entry_at es i).to b in
    tried_skipped xs i fault (omega (arith, h.count)) (ap is_opening (sym (h.says i (omega (arith, h.count)))) ∙ opens p ∙ not-true t other)

-- the whole script's run does not stop
pub whole_ran : (xs : List Said) (w : Found Numbered) (n : ℕ) → n ≡ length xs → RunShows n xs 0 w → shown_in w ≡ last_shown xs 0
whole_ran xs w n e (ran h) = h
whole_ran xs w n e (overtaken j is a b c o t) = absurd (omega arith)

pub search_begins : (xs : List Said) (n : ℕ) → n ≡ length xs → NoneFrom bench xs n
search_begins xs n e = rw e (loop_start bench xs)

module _ (xs : List Said) (i : ℕ) (fault : Numbered) (inside : i < length xs) (f : last_shown xs 0 ≡ some fault) (n : NoneFrom bench xs (suc i)) where
  pub search_stops : StretchTried xs i fault true → Shortest bench xs (length xs - i)
  search_stops t = loop_stops bench xs i n inside (t.does f refl)

  pub search_goes_on : StretchTried xs i fault false → NoneFrom bench xs i
  search_goes_on t = t.does_not f refl n

-- none from line i on, the second at most
pub search_ends : (xs : List Said) (fault : Numbered) → 0 < length xs → last_shown xs 0 ≡ some fault → {i : ℕ} → NoneFrom bench xs i → i ≤ 1 → Shortest bench xs (length xs - 0)
search_ends xs fault h f n few =
    loop_stops bench xs 0 (record { none_from = λ j a b. n.none_from j (omega arith) b }) h (whole_shows (prints bench bench.fresh xs) fault f)
