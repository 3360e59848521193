-- Any session of lines: one line in, one line out. Its laws are the record Lawful; Bench.antt has the session of the product.
use Rattle.std.specs.Prelude.{◌≡◌, Bool, true, false, List, [], ◌∷◌}
use Rattle.std.proofs.Math.Option.{Option, none, some}

pub record LineSession : Type 1 where
  pub State : Type 0
  pub Line : Type 0
  pub Out : Type 0
  pub fresh : State
  pub act : State → Line → State × Out
  pub is_opening : Line → Bool
  pub is_refusal : Out → Bool
  pub is_at_once : Out → Bool  -- refused at once
  pub same_refusal : Out → Out → Bool

module _ (M : LineSession) where
  abbrev pub next : M.State → M.Line → M.State
  next s l = (M.act s l).0

  abbrev pub says : M.State → M.Line → M.Out
  says s l = (M.act s l).1

  pub record Lawful : Type 0 where
    -- a line refused at once leaves the session
    pub kept : (s : M.State) (l : M.Line) → M.is_at_once (says s l) ≡ true → next s l ≡ s
    -- a line that is no opening leaves a fresh session fresh
    pub closed : (l : M.Line) → M.is_opening l ≡ false → next M.fresh l ≡ M.fresh
    pub itself : (o : M.Out) → M.is_refusal o ≡ true → M.same_refusal o o ≡ true
    -- an opening that is taken makes all new
    pub resets : (s : M.State) (l : M.Line) → M.is_opening l ≡ true → M.is_at_once (says s l) ≡ false → next s l ≡ next M.fresh l

  -- the state after a list of lines
  abbrev pub after : M.State → List M.Line → M.State
  after s [] = s
  after s (l ∷ ls) = after (next s l) ls

  -- what its last line prints; none where there is no line
  abbrev pub prints : M.State → List M.Line → Option M.Out
  prints s [] = none
  prints s (l ∷ []) = some (says s l)
  prints s (l ∷ m ∷ ls) = prints (next s l) (m ∷ ls)
