-- The slowest call (document 02, N13): for every kind and any number of idle reads a run, that none of its kind with as many is longer, and its
-- length.
use Rattle.std.specs.Prelude.{◌≡◌, cond, List, [], ℕ, ◌+◌, ◌≤◌}
use Rattle.std.proofs.Math.Option.{some}
use Rattle.protocol.specs.Calls.{Call, is_opening}
use Rattle.protocol.specs.Session.{Session, fresh, buffer_need, outputs, session_after}
use Rattle.protocol.specs.Record.{events, idle_reads}
use Rattle.protocol.specs.PollList.{refusals_in}
use Rattle.protocol.specs.Runs.{EventAndRoom, lines_from}
use Rattle.slowest_call.specs.Question.{Accepted, IsRun, roomy, events_of}
use Rattle.slowest_call.specs.Kinds.{Kind}
use Rattle.slowest_call.specs.Kinds.{kind_of, most, opened, start, slowest}

-- ---- each kind's run, by computing

abbrev pub from : Kind → Session
from k = cond (is_opening (slowest k).call) fresh opened

-- ---- the theorem

pub record SlowestRun (k : Kind) (idle : ℕ) : Type 0 where
  pub started : refusals_in (outputs fresh (start k)) [] ≡ []
  pub kind : kind_of (slowest k).call ≡ some k
  pub run : IsRun (session_after fresh (start k)) (slowest k) idle (most k + idle)
  pub longest : (c : Call) → kind_of c ≡ some k → (s : Session) (caller room : ℕ) (es : List EventAndRoom) → Accepted s caller c room
      → idle_reads (lines_from s caller c room es) ≡ idle
      → events (lines_from s caller c room es) ≤ events (lines_from (session_after fresh (start k)) 0 (slowest k).call buffer_need (roomy (events_of (slowest k) idle)))
