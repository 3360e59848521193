-- Runs with any number of idle reads, from one test that computes: further ACK-led packets in the wait of a command, by N11's pairs.
use Rattle.std.specs.Prelude.{Bool, true, false, List, [], ◌∷◌, ◌++◌, ℕ}
use Rattle.exchange.specs.Exchange.{Event}
use Rattle.protocol.specs.Session.{Session, call, buffer_need, step, outputs}
use Rattle.protocol.specs.Record.{events, idle_reads}
use Rattle.protocol.specs.Runs.{call_entries, lines_from}
use Rattle.protocol.specs.Chatter.{waits}
use Rattle.slowest_call.specs.Question.{is_order, ends_at_last, Slow, roomy}

-- ---- the test

-- of a run without idle reads: behind the first events a command waits; the call is accepted, events are left, the last of them ends it
pub record SlowFacts : Type 0 where
  pub waits : Bool
  pub accepted : Bool
  pub left : Bool
  pub ended : Bool
  pub idle : ℕ
  pub all : ℕ

abbrev pub is_some : List Event → Bool
is_some [] = false
is_some (e ∷ es) = true

abbrev pub slow_facts : Session → Slow → SlowFacts
slow_facts s w =
    let es = roomy w.before ++ roomy w.behind in
    let lines = lines_from s 0 w.call buffer_need es in
    record {
      waits = waits (lines_from s 0 w.call buffer_need (roomy w.before));
      accepted = is_order (step s (call 0 w.call buffer_need)).output;
      left = is_some w.behind;
      ended = ends_at_last (outputs s (call_entries 0 w.call buffer_need es));
      idle = idle_reads lines;
      all = events lines;
    }

-- as they should be, for n events in all
abbrev pub slow_by : ℕ → SlowFacts
slow_by n = record { waits = true; accepted = true; left = true; ended = true; idle = 0; all = n }
