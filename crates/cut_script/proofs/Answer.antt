-- The cut of a script, its bytes in: 3 for an over-long script, then 29 for one without a refusal at its end, else where the stretch starts; and the
-- theorem: the stretch is the shortest end of the script, of whole lines, whose last line prints the script's refusal.
use Rattle.std.specs.Prelude.{◌≡◌, refl, true, false, List, [], ◌∷◌, map, ℕ, zero, suc, ◌-◌, length, drop, take}
use Rattle.std.proofs.Common.{ap, ◌∙◌, arith, take-append-drop}
use Rattle.errors.specs.Choice.{pick}
use Rattle.cut_script.specs.LineSession.{prints}
use Rattle.cut_script.specs.Cut.{refuses, Faulty, Shortest, shortest_count}
use Rattle.cut_script.proofs.Shortest.{count_shortest}
use Rattle.cut_script.specs.ScriptLines.{place, stretch_lines}
use Rattle.cut_script.specs.Bench.{bench, is_feed, script_lines, line_says, script}
use Rattle.cut_script.specs.BenchLaws.{lawful}
use Rattle.cut_script.specs.Answer.{refused, from, over_long_number, no_refusal_number, is_over_long, ending_from, cut_of, ShortestStretch}

pub cut_long : (s : List ℕ) → is_over_long s ≡ true → cut_of s ≡ refused over_long_number
unfolding cut_of pick
cut_long s e = rw e

pub cut_none : (s : List ℕ) → is_over_long s ≡ false → refuses bench (prints bench bench.fresh (script s)) ≡ false → cut_of s ≡ refused no_refusal_number
unfolding cut_of pick
cut_none s e f = rw (e, f)

map-drop : (i : ℕ) (ls : List (List ℕ)) → map line_says (drop i ls) ≡ drop i (map line_says ls)
map-drop zero ls = refl
map-drop (suc i) [] = refl
map-drop (suc i) (l ∷ ls) = map-drop i ls

pub lines_said : (ls : List (List ℕ)) → length (map line_says ls) ≡ length ls
lines_said [] = refl
lines_said (l ∷ ls) = ap suc (lines_said ls)

shortest_stretch : (s : List ℕ) (k : ℕ) → Shortest bench (script s) k → ShortestStretch s (drop (ending_from s k) s)
unfolding ending_from
shortest_stretch s k h =
    let i : ℕ = length (script_lines s) - k in
    let j : i ≡ length (script s) - k = ap (λ n. n - k) (let e = lines_said (script_lines s) in omega arith) in
    record {
      before = take (place is_feed s i) s;
      at_the_end = take-append-drop (place is_feed s i) s;
      count = k;
      whole_lines = stretch_lines is_feed s i;
      read_again = ap (map line_says) (stretch_lines is_feed s i) ∙ map-drop i (script_lines s) ∙ ap (λ n. drop n (script s)) j;
      shortest = h;
    }

-- a script that is not over-long and whose last line prints a refusal is cut to its shortest stretch
pub cut_shortest : (s : List ℕ) → is_over_long s ≡ false → Faulty bench (script s) → (p : ℕ) × (cut_of s ≡ from p) × ShortestStretch s (drop p s)
unfolding cut_of pick
cut_shortest s e f =
    let k : ℕ = shortest_count bench (script s) in
    (ending_from s k, rw (e, f), shortest_stretch s k (count_shortest bench lawful (script s) f))
