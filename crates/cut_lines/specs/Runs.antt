-- What the functions of runs.rt promise of a session's step, a run and the search, for the lines that the entries hold.
use Rattle.std.specs.Prelude.{◌≡◌, ℕ, suc, ◌<◌, ◌≤◌, Bool, true, false, List, length, drop, slice_index_or, Option as Found, Some, None}
use Rattle.std.proofs.Math.Option.{Option, none, some}
use Rattle.std.proofs.Math.Seq.{slice}
use Rattle.errors.specs.declared.Numbered.{Numbered}
use Rattle.protocol.specs.Session as Spec
use Rattle.engine.specs.Relation.{SessionRepresents}
use Rattle.engine.specs.declared.running.Core.{Core}
use Rattle.engine.specs.declared.running.Output.{Output}
use Rattle.engine.specs.declared.session.Session.{Session}
use Rattle.engine.specs.declared.session.Step.{Step}
use Rattle.bench_input.specs.Readings.{input_in}
use Rattle.bench_input.specs.Table.{Said, unreadable}
use Rattle.bench_input.specs.declared.Input.{Input}
use Rattle.bench_input.specs.declared.Input.TheVariants.{Call, Event}
use Rattle.cut_script.specs.LineSession.{next, says, prints}
use Rattle.cut_script.specs.Bench.{is_opening, refusal_of, is_at_once, bench}
use Rattle.cut_script.specs.Cut.{shows}
use Rattle.cut_script.specs.Loop.{NoneFrom}
use Rattle.cut_script.specs.Run.{reached}
use Rattle.cut_lines.specs.Shown.{shown_in, refused_by, at_once_by}
use Rattle.cut_lines.specs.Readings.{entry_at}
use Rattle.cut_lines.specs.declared.entries.Entry.{Entry}

-- ---- one line

-- the engine's step upon what a line says is that of the session m
pub record StepAgrees (m : Spec.Session) (l : Said) (r : Step) : Type 0 where
  pub represents : SessionRepresents r.session (next bench m l)
  pub shown : refused_by r.output ≡ refusal_of (says bench m l)
  pub at_once : at_once_by r.output ≡ is_at_once (says bench m l)

abbrev pub Acts : Session → Said → Step → Type 0
Acts s l r = (m : Spec.Session) → SessionRepresents s m → StepAgrees m l r

-- a call, by what was read
abbrev pub is_call : Found Input → Bool
is_call (Some (Call number n e)) = true
is_call (Some (Event number n)) = false
is_call None = false

-- a line that leaves each session with these numbers as it was
abbrev pub Skips : Core → Found Input → Type 0
Skips c i = (s : Session) (m : Spec.Session) (b : List ℕ) → s.core ≡ c → SessionRepresents s m → next bench m (input_in b i) ≡ m

-- an opening behind line `stop` that was taken
pub record Overtakes (stop m : ℕ) (i : Found Input) (o : Output) : Type 0 where
  pub behind : stop < m
  pub opening : (b : List ℕ) → is_opening (input_in b i) ≡ true
  pub taken : at_once_by o ≡ false

-- ---- the lines

abbrev pub line_at : List Said → ℕ → Said
line_at xs k = slice_index_or xs k unreadable

-- the entries, with their bytes b, are those of the lines xs
pub record Holds (es : List Entry) (b : List ℕ) (xs : List Said) : Type 0 where
  pub count : length es ≡ length xs
  pub says : (k : ℕ) → k < length xs → input_in (slice (entry_at es k).from (entry_at es k).to b) (entry_at es k).input ≡ line_at xs k

abbrev pub shown_by_of : Option bench.Out → Option Numbered
shown_by_of none = none
shown_by_of (some o) = refusal_of o

-- what the last line shows of the stretch from line i on
abbrev pub last_shown : List Said → ℕ → Option Numbered
last_shown xs i = shown_by_of (prints bench bench.fresh (drop i xs))

-- what a run shows: that, or nothing where an opening behind line `stop` is taken before the last line
pub data RunShows (stop : ℕ) (xs : List Said) (i : ℕ) (r : Found Numbered) : Type 0 where
  ran : shown_in r ≡ last_shown xs i → RunShows stop xs i r
  overtaken : (j : ℕ) → r ≡ None → stop < j → i ≤ j → suc j < length xs → is_opening (line_at xs j) ≡ true → is_at_once (says bench (reached bench xs i j) (line_at xs j)) ≡ false
      → RunShows stop xs i r

-- the stretch from line i on shows the fault, or none from line i on does, if none behind it did
pub record StretchTried (xs : List Said) (i : ℕ) (fault : Numbered) (r : Bool) : Type 0 where
  pub does : last_shown xs 0 ≡ some fault → r ≡ true → shows bench xs (drop i xs) ≡ true
  pub does_not : last_shown xs 0 ≡ some fault → r ≡ false → NoneFrom bench xs (suc i) → NoneFrom bench xs i
