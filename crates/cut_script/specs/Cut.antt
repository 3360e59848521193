-- The cut: the shortest stretch at a script's end whose last line prints the script's refusal. Definitions.
use Rattle.std.specs.Prelude.{◌≡◌, Bool, true, false, not, ◌&&◌, ◌||◌, List, [], ◌∷◌, ℕ, ◌-◌, ◌≤◌, ◌<◌, eqb, length, drop}
use Rattle.std.proofs.Math.Option.{Option, none, some}
use Rattle.cut_script.specs.LineSession.{LineSession, says, prints}
use Rattle.cut_script.specs.First.{first}

-- the last k lines
abbrev pub ending : {A : Type 0} → ℕ → List A → List A
ending k xs = drop (length xs - k) xs

module _ (M : LineSession) where
  abbrev pub refuses : Option M.Out → Bool
  refuses none = false
  refuses (some o) = M.is_refusal o

  abbrev pub same_out_of : Option M.Out → Option M.Out → Bool
  same_out_of none o = false
  same_out_of (some o) none = false
  same_out_of (some o) (some p) = M.same_refusal o p

  -- the lines ys print from fresh what the script does
  abbrev pub shows : List M.Line → List M.Line → Bool
  shows xs ys = same_out_of (prints M M.fresh xs) (prints M M.fresh ys)

  -- the script's last line prints a refusal
  abbrev pub Faulty : List M.Line → Type 0
  Faulty xs = refuses (prints M M.fresh xs) ≡ true

  -- the last k lines are the shortest that do
  pub record Shortest (xs : List M.Line) (k : ℕ) : Type 0 where
    pub some_line : 1 ≤ k
    pub within : k ≤ length xs
    pub same : shows xs (ending k xs) ≡ true
    pub none_shorter : (j : ℕ) → 1 ≤ j → j < k → shows xs (ending j xs) ≡ false

  -- how many lines: the first of 1, 2, .. that shows it
  abbrev pub shortest_count : List M.Line → ℕ
  shortest_count xs = first (length xs) 1 (λ k. shows xs (ending k xs))

  -- a line that a fresh session is moved by: an opening that it does not refuse at once
  abbrev pub starts : M.Line → Bool
  starts l = M.is_opening l && not (M.is_at_once (says M M.fresh l))

  abbrev pub begins : List M.Line → Bool
  begins [] = false
  begins (l ∷ ls) = starts l

  -- the stretches that need be tried: the last line alone, and those that begin with such an opening
  abbrev pub tried : List M.Line → ℕ → Bool
  tried xs k = eqb k 1 || begins (ending k xs)
