-- The shortest stretch is there, is the only one, and counting up from one line finds it.
use Rattle.std.specs.Prelude.{◌≡◌, Bool, true, List, [], ◌∷◌, ℕ, ◌-◌, ◌≤◌, ◌<◌, length}
use Rattle.std.proofs.Common.{sym, ◌∙◌, arith}
use Rattle.std.proofs.Math.Option.{Option, none, some}
use Rattle.cut_script.specs.LineSession.{LineSession, Lawful, prints}
use Rattle.cut_script.specs.First.{never, IsFirst, first_is_lem, first_unique}
use Rattle.cut_script.specs.Cut.{ending, refuses, same_out_of, shows, Faulty, Shortest, shortest_count}

module _ (M : LineSession) where
  pub shortest_first : (xs : List M.Line) (k : ℕ) → Shortest M xs k → IsFirst (λ j. shows M xs (ending j xs)) 1 k
  shortest_first xs k s = record { reached = s.some_line; passes = s.same; before = s.none_shorter }

  pub shortest_unique : (xs : List M.Line) (j k : ℕ) → Shortest M xs j → Shortest M xs k → j ≡ k
  shortest_unique xs j k a b = first_unique (λ i. shows M xs (ending i xs)) 1 j k (shortest_first xs j a) (shortest_first xs k b)

  module _ (L : Lawful M) where
    same_self : (o : Option M.Out) → refuses M o ≡ true → same_out_of M o o ≡ true
    same_self none e = never e
    same_self (some o) e = L.itself o e

    -- the script itself does
    whole : (xs : List M.Line) → ending (length xs) xs ≡ xs
    whole xs = let z : length xs - length xs ≡ 0 = omega arith in rw z

    pub whole_shows : (xs : List M.Line) → Faulty M xs → shows M xs (ending (length xs) xs) ≡ true
    whole_shows xs f = rw whole (same_self (prints M M.fresh xs) f)

    pub some_lines : (xs : List M.Line) → Faulty M xs → 1 ≤ length xs
    some_lines [] f = never f
    some_lines (x ∷ xs) f = omega arith

    pub count_shortest : (xs : List M.Line) → Faulty M xs → Shortest M xs (shortest_count M xs)
    count_shortest xs f =
        let p : ℕ → Bool = λ k. shows M xs (ending k xs) in
        let l = some_lines xs f in
        let r = first_is_lem (length xs) 1 (length xs) p (whole_shows xs f) l (omega arith) in
        record {
          some_line = r.reached;
          within = not-over xs f r;
          same = r.passes;
          none_shorter = r.before;
        }
      where
        not-over : (xs : List M.Line) → Faulty M xs → IsFirst (λ k. shows M xs (ending k xs)) 1 (shortest_count M xs) → shortest_count M xs ≤ length xs
        not-over xs f r =
            let l = some_lines xs f in
            let n : ¬ (length xs < shortest_count M xs) = λ l. never (sym (r.before (length xs) (some_lines xs f) l) ∙ whole_shows xs f) in
            omega arith

    pub shortest_exists : (xs : List M.Line) → Faulty M xs → (k : ℕ) × Shortest M xs k
    shortest_exists xs f = (shortest_count M xs, count_shortest xs f)
