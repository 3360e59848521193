-- The same of the engine, of the host's entries in C, and of lists that mix them with the session's own: from any session that stands for one of the
-- definitions, and from any that a list leads to from the fresh one.
use Rattle.std.specs.Prelude.{◌≡◌, true, List, ◌∷◌, ℕ, ◌+◌, ◌≤◌}
use Rattle.std.proofs.Math.Option.{Option, some}
use Rattle.exchange.specs.Exchange.{Order}
use Rattle.protocol.specs.Calls.{Call}
use Rattle.protocol.specs.Session as Spec
use Rattle.protocol.specs.Session.{fresh, buffer_need, orders}
use Rattle.protocol.specs.Record.{Item, events, idle_reads}
use Rattle.protocol.specs.Machine.{entries}
use Rattle.protocol.specs.Runs.{EventAndRoom, call_entries}
use Rattle.engine.specs.Inputs.{Input}
use Rattle.engine.specs.Refinement.{engine}
use Rattle.engine.specs.SessionSteps.{fresh_session}
use Rattle.engine.specs.declared.session.Session.{Session}
use Rattle.session_host.specs.Demand3.{inputs, session_after, reports_for}
use Rattle.slowest_call.specs.Question.{ends_at_last, roomy, events_of}
use Rattle.slowest_call.specs.Kinds.{Kind, kind_of, most, start, slowest}
use Rattle.slowest_call.specs.Machines.{lines_given, mode_behind}

module _ (E : Type 0) (input : E → Option Input) (buffer : E → List ℕ) where
  -- the lines of a call from session s, which stands for m, as its entries hs report them
  abbrev pub reported_lines : Session → Spec.Session → ℕ → Call → ℕ → List EventAndRoom → List E → List Item
  reported_lines s m caller c room es hs = lines_given (mode_behind m caller c room) es (reports_for E input buffer s hs)

  -- the definitions' session behind the entries
  abbrev pub behind : List E → Spec.Session
  behind js = Spec.session_after fresh (entries engine (inputs E input buffer js))

  -- no run of a kind is longer
  abbrev pub Longest : Type 0
  Longest =
      (k : Kind) (s : Session) (m : Spec.Session) → engine.Represents s m → (caller : ℕ) (c : Call) (room : ℕ) (es : List EventAndRoom) (hs : List E)
      → entries engine (inputs E input buffer hs) ≡ call_entries caller c room es → kind_of c ≡ some k → (x : Order) (outs : List (Spec.Output ℕ))
      → reports_for E input buffer s hs ≡ orders x ∷ outs
      → events (reported_lines s m caller c room es hs) ≤ most k + idle_reads (reported_lines s m caller c room es hs)

  -- the same from the session behind any entries js
  abbrev pub LongestReached : Type 0
  LongestReached =
      (k : Kind) (js : List E) (caller : ℕ) (c : Call) (room : ℕ) (es : List EventAndRoom) (hs : List E)
      → entries engine (inputs E input buffer hs) ≡ call_entries caller c room es → kind_of c ≡ some k → (x : Order) (outs : List (Spec.Output ℕ))
      → reports_for E input buffer (session_after E input buffer fresh_session js) hs ≡ orders x ∷ outs
      → events (reported_lines (session_after E input buffer fresh_session js) (behind js) caller c room es hs)
      ≤ most k + idle_reads (reported_lines (session_after E input buffer fresh_session js) (behind js) caller c room es hs)

  -- the run of a kind from a fresh session: js leads to its start, hs are its entries
  pub record ReportedRun (k : Kind) (extra : ℕ) (s : Session) (hs : List E) : Type 0 where
    pub ended : ends_at_last (reports_for E input buffer s hs) ≡ true
    pub idles : idle_reads (reported_lines s (Spec.session_after fresh (start k)) 0 (slowest k).call buffer_need (roomy (events_of (slowest k) extra)) hs) ≡ extra
    pub all : events (reported_lines s (Spec.session_after fresh (start k)) 0 (slowest k).call buffer_need (roomy (events_of (slowest k) extra)) hs) ≡ most k + extra

  abbrev pub IsReported : Type 0
  IsReported = (k : Kind) (extra : ℕ) (js hs : List E) → entries engine (inputs E input buffer js) ≡ start k
      → entries engine (inputs E input buffer hs) ≡ call_entries 0 (slowest k).call buffer_need (roomy (events_of (slowest k) extra))
      → ReportedRun k extra (session_after E input buffer fresh_session js) hs
