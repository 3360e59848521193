-- Laws of the cut: what its entries hold, and each of its answers.
use Rattle.std.specs.Prelude.{◌≡◌, ℕ, zero, suc, ◌+◌, ◌-◌, ◌<◌, ◌≤◌, Bool, true, false, ◌||◌, ltb, List, [], ◌∷◌, map, length, get_or, take, drop}
use mathlib.Core.Path.{refl, sym, ap, ◌∙◌}
use mathlib.Core.Logic.{inl, inr}
use mathlib.Core.Option.{none, some}
use native.Mathlib.Omega.{arith}
use borrow.Author.Tests.{lt-ltb, le-ltb, ltb-true, ltb-false}
use lib.ListN.{length-drop}
use lib.Seq.{slice, take-length, length-take-le}
use Rattle.std.proofs.lemmas.List.{get_or-take}
use Rattle.errors.specs.declared.Numbered.{Numbered}
use Rattle.bench_input.specs.Table.{Said, unreadable}
use Rattle.bench.specs.Texts.{placed, placed_at, put_at}
use Rattle.cut_script.specs.LineSession.{prints}
use Rattle.cut_script.specs.First.{never}
use Rattle.cut_script.specs.Answer.{CutAnswer, refused, from, line_count_limit, script_limit, over_long_number, no_refusal_number, is_over_long, ending_from, cut_of, written_for}
use Rattle.cut_script.proofs.Answer.{cut_long, cut_none, lines_said}
use Rattle.cut_script.specs.Bench.{bench, is_some, is_feed, script_lines, line_says, script}
use Rattle.cut_script.specs.BenchLaws.{lawful}
use Rattle.cut_script.specs.Cut.{refuses, Faulty, Shortest, shortest_count}
use Rattle.cut_script.proofs.Shortest.{shortest_unique, count_shortest}
use Rattle.cut_script.specs.ScriptLines.{place}
use Rattle.errors.specs.Choice.{pick}
use Rattle.cut_lines.specs.Readings.{no_entry, entry_at, AllRead}
use Rattle.cut_lines.specs.Runs.{Holds, last_shown}
use Rattle.cut_lines.specs.declared.entries.Entry.{Entry}
use Rattle.cut_lines.proofs.SearchLaws.{faulty}

or-true : (t : Bool) → (t || true) ≡ true
or-true true = refl
or-true false = refl

pub cut_over : (s : List ℕ) → script_limit < length s → refused over_long_number ≡ cut_of s
unfolding is_over_long
cut_over s h = sym (cut_long s (rw (lt-ltb script_limit (length s) h)))

get_said : (ls : List (List ℕ)) (k : ℕ) → k < length ls → line_says (get_or ls k []) ≡ get_or (map line_says ls) k unreadable
get_said [] k h = absurd (omega arith)
get_said (l ∷ ls) zero h = refl
get_said (l ∷ ls) (suc k) h = get_said ls k (omega arith)

pub cut_many : (s : List ℕ) → line_count_limit < length (script_lines s) → refused over_long_number ≡ cut_of s
unfolding is_over_long
cut_many s h = sym (cut_long s (rw (lt-ltb line_count_limit (length (script_lines s)) h) (or-true (ltb script_limit (length s)))))

module _ (s b : List ℕ) (es : List Entry) (n : ℕ) (read : AllRead s b es n) where
  -- the first n entries
  first_ones : length (take n es) ≡ n
  first_ones = length-take-le n es (let f = read.few in let z = read.size in omega arith)

  first_at : (k : ℕ) → k < n → entry_at (take n es) k ≡ entry_at es k
  first_at k h = get_or-take n es k no_entry h

  pub holds : Holds (take n es) b (script s)
  holds = record {
    count = first_ones ∙ read.count ∙ sym (lines_said (script_lines s));
    says = λ k h.
        let l = lines_said (script_lines s) in
        let c = read.count in
        rw (first_at k (omega arith)) (read.lines.says k (omega arith) ∙ get_said (script_lines s) k (omega arith));
  }

  module _ (short : length s ≤ script_limit) where
    not_long : is_over_long s ≡ false
    unfolding is_over_long
    not_long = let c = read.count in let few = read.few in rw (le-ltb script_limit (length s) short, le-ltb line_count_limit (length (script_lines s)) (omega arith))

    no_lines : (xs : List Said) → length xs ≡ 0 → refuses bench (prints bench bench.fresh xs) ≡ false
    no_lines [] h = refl
    no_lines (x ∷ xs) h = absurd (omega arith)

    pub cut_empty : n ≡ 0 → refused no_refusal_number ≡ cut_of s
    cut_empty h = sym (cut_none s not_long (no_lines (script s) (let c = read.count in let l = lines_said (script_lines s) in omega arith)))

    pub cut_unrefused : none ≡ last_shown (script s) 0 → refused no_refusal_number ≡ cut_of s
    cut_unrefused h = sym (cut_none s not_long (faulty (prints bench bench.fresh (script s)) ∙ ap is_some (sym h)))

    pub cut_from : (fault : Numbered) → some fault ≡ last_shown (script s) 0 → (i : ℕ) → i < length (take n es) → Shortest bench (script s) (length (script s) - i) → from (entry_at (take n es) i).from ≡ cut_of s
    unfolding cut_of pick ending_from
    cut_from fault h i inside shortest =
        let f : Faulty bench (script s) = faulty (prints bench bench.fresh (script s)) ∙ ap is_some (sym h) in
        let k : length (script s) - i ≡ shortest_count bench (script s) = shortest_unique bench (script s) (length (script s) - i) (shortest_count bench (script s)) shortest (count_shortest bench lawful (script s) f) in
        let l = lines_said (script_lines s) in
        let c = read.count in
        let m = first_ones in
        let j : i ≡ length (script_lines s) - shortest_count bench (script s) = omega arith in
        rw (not_long, f, first_at i (omega arith)) (ap from (read.lines.begins i (omega arith) ∙ ap (place is_feed s) j))

-- ---- what is written

abbrev is_from_of : CutAnswer → Bool
is_from_of (refused n) = false
is_from_of (from p) = true

from_short : (s : List ℕ) (p : ℕ) → from p ≡ cut_of s → length s ≤ script_limit
unfolding is_over_long
from_short s p e = go (ltb script_limit (length s)) refl
  where
    go : (t : Bool) → ltb script_limit (length s) ≡ t → length s ≤ script_limit
    go true h = let l = cut_over s (ltb-true script_limit (length s) h) in never (sym (ap is_from_of (e ∙ sym l)))
    go false h = ltb-false script_limit (length s) h

module _ (s out o : List ℕ) (r : ℕ) (room : script_limit ≤ length out) where
  put_short : (t : List ℕ) → length t ≤ script_limit → placed r o ≡ put_at 0 t out → placed r o ≡ placed_at 0 t out
  unfolding put_at pick
  put_short t h e = e ∙ rw (le-ltb (length out) (0 + length t) (omega arith))

  pub written_from : (p : ℕ) (t : List ℕ) → from p ≡ cut_of s → t ≡ slice p (length s) s → placed r o ≡ put_at 0 t out → placed r o ≡ placed_at 0 (written_for s (cut_of s)) out
  unfolding written_for
  written_from p t e is put =
      let part : t ≡ drop p s = is ∙ ap (drop p) (take-length s) in
      let short : length (drop p s) ≤ script_limit = let l = from_short s p e in let q = length-drop p s in omega arith in
      put_short (drop p s) short (put ∙ ap (λ z. put_at 0 z out) part) ∙ ap (λ a. placed_at 0 (written_for s a) out) e

  pub written_refused : (n : ℕ) (t : List ℕ) → refused n ≡ cut_of s → t ≡ written_for s (refused n) → length t ≤ script_limit → placed r o ≡ put_at 0 t out → placed r o ≡ placed_at 0 (written_for s (cut_of s)) out
  written_refused n t e is short put = put_short t short put ∙ ap (λ z. placed_at 0 z out) is ∙ ap (λ a. placed_at 0 (written_for s a) out) e
