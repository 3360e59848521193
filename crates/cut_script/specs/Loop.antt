-- The same by the index at which a stretch starts, as a loop in code goes: from the last line down to the first.
use Rattle.std.specs.Prelude.{◌≡◌, false, List, ℕ, ◌≤◌, ◌<◌, length, drop}
use Rattle.cut_script.specs.LineSession.{LineSession}
use Rattle.cut_script.specs.Cut.{shows}

module _ (M : LineSession) where
  -- no stretch that starts at line i or behind it shows the fault
  pub record NoneFrom (xs : List M.Line) (i : ℕ) : Type 0 where
    pub none_from : (j : ℕ) → i ≤ j → j < length xs → shows M xs (drop j xs) ≡ false
