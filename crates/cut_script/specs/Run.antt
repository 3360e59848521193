-- One stretch's run, by index: what the inner loop holds, and when it may give up before the last line.
use Rattle.std.specs.Prelude.{List, ℕ, ◌-◌, drop, take}
use Rattle.cut_script.specs.LineSession.{LineSession, after}

module _ (M : LineSession) where
  -- the state of the stretch from line i on when it comes to line m
  abbrev pub reached : List M.Line → ℕ → ℕ → M.State
  reached xs i m = after M M.fresh (take (m - i) (drop i xs))
