-- The cut of a script, its bytes in: 3 for an over-long script, then 29 for one without a refusal at its end, else where the stretch starts; and the
-- theorem: the stretch is the shortest end of the script, of whole lines, whose last line prints the script's refusal.
use Rattle.std.specs.Prelude.{◌≡◌, Bool, ◌||◌, List, [], ◌∷◌, ◌++◌, ℕ, ◌-◌, ltb, length, drop}
use Rattle.errors.specs.Choice.{pick}
use Rattle.targets.specs.Bitrates.{ascii}
use Rattle.bench.specs.Lines.{feed}
use Rattle.bench.specs.Texts.{decimal_of}
use Rattle.cut_script.specs.LineSession.{prints}
use Rattle.cut_script.specs.Cut.{ending, refuses, Shortest, shortest_count}
use Rattle.cut_script.specs.ScriptLines.{place}
use Rattle.cut_script.specs.Bench.{bench, is_feed, script_lines, script}

-- a refusal's number, or the place of the stretch's first byte
pub data CutAnswer : Type 0 where
  refused : ℕ → CutAnswer
  from : ℕ → CutAnswer

abbrev pub line_count_limit : ℕ
line_count_limit = 4096

abbrev pub script_limit : ℕ
script_limit = 65536

abbrev pub over_long_number : ℕ
over_long_number = 3

abbrev pub no_refusal_number : ℕ
no_refusal_number = 29

unfoldable pub is_over_long : List ℕ → Bool
is_over_long s = ltb script_limit (length s) || ltb line_count_limit (length (script_lines s))

-- where the last k lines begin
unfoldable pub ending_from : List ℕ → ℕ → ℕ
ending_from s k = place is_feed s (length (script_lines s) - k)

unfoldable pub cut_of : List ℕ → CutAnswer
cut_of s =
    pick (is_over_long s) (refused over_long_number)
    (pick (refuses bench (prints bench bench.fresh (script s))) (from (ending_from s (shortest_count bench (script s)))) (refused no_refusal_number))

-- what the program `cut` writes: the stretch as it came, or the refusal on a line
unfoldable pub written_for : List ℕ → CutAnswer → List ℕ
written_for s (refused n) = ascii "refused " ++ decimal_of n ++ (feed ∷ [])
written_for s (from p) = drop p s

-- t is the shortest stretch of whole lines at the end of s: it is its end, has the last lines of s and no other, and from a fresh session
-- its last line prints what that of s does, which no shorter stretch at the end does
pub record ShortestStretch (s t : List ℕ) : Type 0 where
  pub before : List ℕ
  pub at_the_end : before ++ t ≡ s
  pub count : ℕ
  pub whole_lines : script_lines t ≡ ending count (script_lines s)
  pub read_again : script t ≡ ending count (script s)
  pub shortest : Shortest bench (script s) count
