-- The claims on every call hold after any list of entries.
use Rattle.std.specs.Prelude.{◌≡◌, List, [], ◌∷◌, ℕ, suc, length}
use Rattle.std.proofs.Math.Option.{none}
use Rattle.protocol.specs.Calls.{Call}
use Rattle.protocol.specs.Session.{Phase, Running, idle, busy, Session}
use Rattle.protocol.specs.Record.{Item, Record, Note, Observed, mode_at, as_seen}
use Rattle.protocol.specs.Claim.{Claims}
use Rattle.protocol.specs.Invariant.{Invariant}
use Rattle.protocol.specs.Seen.{Unused, caller_at}

-- ---- the session and its record

-- the running call is the newest, and its note says so
pub record Current (c : Call) (phase : Phase) (l : Record) (y : Note) (n : ℕ) : Type 0 where
  pub same_call : y.call ≡ c
  pub unanswered : y.answer ≡ none
  pub own_lines : List Item
  pub invariant : Invariant n c l own_lines phase

abbrev pub RunningAgrees : Running → Record → List Note → Type 0
RunningAgrees idle l ns = Claims l ns × Unused l (length ns)
RunningAgrees (busy c phase) l [] = ⊥
RunningAgrees (busy c phase) l (y ∷ ns) = Current c phase l y (length ns) × Claims l ns × Unused l (suc (length ns))

abbrev pub AgreesAt : Running → Observed → Type 0
AgreesAt p w = RunningAgrees p w.lines w.notes

-- the record as the modes see it, and the mode
pub record AgreesWith (s : Session) (w : Observed) : Type 0 where
  pub running : AgreesAt s.running (as_seen w)
  pub mode : s.books.padded ≡ mode_at w.notes
  pub caller : s.books.caller ≡ caller_at w.notes
