-- Runs from any point on, of the one call and of the single calls: what later lines leave alone, and runs that are over.
use Rattle.std.specs.Prelude.{◌≡◌, refl, List, [], ◌∷◌, map, ℕ, ◌≤◌, length}
use Rattle.std.proofs.Common.{arith}
use Rattle.errors.specs.declared.Refusal.{Refusal}
use Rattle.errors.specs.declared.Refusal.TheVariants.{OutOfTurn}
use Rattle.protocol.specs.Calls.{Call}
use Rattle.protocol.specs.Session.{Books}
use Rattle.protocol.specs.Record.{Item, Record, Note, Observed, line}
use Rattle.protocol.specs.Laws.{lines_other}
use Rattle.protocol.proofs.RunLaws.{not_added}
use Rattle.protocol.specs.PollList.{hand_on, frames_of, all_bytes, made_of, answer_in, items, Equal}
use Rattle.protocol.specs.Runs.{EventAndRoom, event_entry, idle_with}
use Rattle.protocol.specs.PollRuns.{from}

-- a line of a later call
pub frames_older : (l : Record) (j : ℕ) (x : Item) (ns : List Note) → length ns ≤ j → frames_of (line j x ∷ l) ns ≡ frames_of l ns
frames_older l j x [] h = refl
frames_older l j x (y ∷ ns) h = rw (frames_older l j x ns (omega arith), lines_other (length ns) j l x (λ e. omega arith)) refl

pub bytes_older : (l : Record) (j : ℕ) (x : Item) (ns : List Note) → length ns ≤ j → all_bytes (line j x ∷ l) ns ≡ all_bytes l ns
bytes_older l j x [] h = refl
bytes_older l j x (y ∷ ns) h = rw (bytes_older l j x ns (omega arith), frames_older l j x ns (omega arith)) refl

-- n: the number of codes
module _ (n caller room : ℕ) where
  -- both have ended
  pub record Over (one many : Observed) : Type 0 where
    pub lines : items one.lines ≡ items many.lines
    pub answer : answer_in one.notes ≡ made_of n many.lines many.notes

  pub idle_equal : (es : List EventAndRoom) (b : Books) (v w : Observed) (x : List Refusal) (cs : List Call) → Over v w
      → Equal n (from v x (idle_with b) (map event_entry es)) (from w x (idle_with b) (hand_on caller room es (idle_with b) cs))
  idle_equal [] b v w x cs o = record { lines = o.lines; refusals = refl; answer = o.answer; books = refl; free = refl }
  idle_equal (e ∷ es) b v w x cs o =
      rw (not_added v (event_entry e) OutOfTurn, not_added w (event_entry e) OutOfTurn) (idle_equal es b v w (OutOfTurn ∷ x) cs o)
