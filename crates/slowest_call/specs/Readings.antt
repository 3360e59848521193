-- Each line of a run is read as the run's entry.
use Rattle.std.specs.Prelude.{◌≡◌, List, [], ◌∷◌, ◌++◌, map, ℕ}
use Rattle.std.proofs.Math.Option.{Option, none, some}
use Rattle.exchange.specs.Exchange.{Event}
use Rattle.protocol.specs.Session.{Entry, call, event, buffer_need, fresh, session_after}
use Rattle.protocol.specs.Record.{events}
use Rattle.protocol.specs.Runs.{call_entries, lines_from}
use Rattle.calls.specs.Numbers.{call_of}
use Rattle.engine.specs.Numbers.{event_by_of}
use Rattle.bench.specs.Texts.{decimal_of}
use Rattle.bench.specs.Words.{words_of_lem}
use Rattle.bench_input.specs.Table.{Said, calls, happens, unreadable, input_of}
use Rattle.slowest_call.specs.Question.{roomy, events_of}
use Rattle.slowest_call.specs.Kinds.{Kind}
use Rattle.slowest_call.specs.Kinds.{slowest, start}
use Rattle.slowest_call.specs.Texts.{start_lines, run_lines, script_text}

-- ---- what a line is read as

abbrev pub event_read : Option Event → Option Entry
event_read none = none
event_read (some e) = some (event e buffer_need)

abbrev pub entry_by : Said → Option Entry
entry_by (calls number n first second third fourth) = some (call n.caller (call_of number n first second third fourth) buffer_need)
entry_by (happens number packet) = event_read (event_by_of number packet)
entry_by unreadable = none

abbrev pub entry_of : List ℕ → Option Entry
entry_of l = entry_by (input_of l)

abbrev pub head_or : Option Entry → List (Option Entry) → Option Entry
head_or x [] = x
head_or x (y ∷ ys) = y

-- ---- what is printed

-- the words of lines behind another: the word `;` (59) stands before those of each
unfoldable pub words_behind_line : List (List ℕ) → List (List ℕ)
words_behind_line [] = []
words_behind_line (l ∷ ls) = (59 ∷ []) ∷ (words_of_lem l ++ words_behind_line ls)

unfoldable pub words_of_lines : List (List ℕ) → List (List ℕ)
words_of_lines [] = words_of_lem []
words_of_lines (l ∷ ls) = words_of_lem l ++ words_behind_line ls

-- The text for a kind and a number of idle reads: its words are those of the number of accepted events of the run, then those of the lines with `;`
-- between one and the next. The lines before the run are read as the entries that lead to its start, and those of the run as the run's.
pub record PrintedRun (k : Kind) (idle : ℕ) : Type 0 where
  pub words : words_of_lem (script_text k idle)
      ≡ words_of_lem (decimal_of (events (lines_from (session_after fresh (start k)) 0 (slowest k).call buffer_need (roomy (events_of (slowest k) idle))))) ++ words_of_lines (start_lines k ++ run_lines k idle)
  pub start : map entry_of (start_lines k) ≡ map some (start k)
  pub run : map entry_of (run_lines k idle) ≡ map some (call_entries 0 (slowest k).call buffer_need (roomy (events_of (slowest k) idle)))
