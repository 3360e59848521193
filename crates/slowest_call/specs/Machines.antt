-- The same of a machine that simulates the definitions: of the record that its own outputs make.
use Rattle.std.specs.Prelude.{◌≡◌, Bool, true, List, [], ◌∷◌, map, ℕ, ◌+◌}
use Rattle.protocol.specs.Calls.{Call}
use Rattle.protocol.specs.Session.{Session, fresh, call, Output, orders, answers, rejects, buffer_need, step, session_after}
use Rattle.protocol.specs.Record.{Item, ordered, accepted, seen_item, events, idle_reads}
use Rattle.protocol.specs.Machine.{Machine, given_out}
use Rattle.protocol.specs.Runs.{EventAndRoom}
use Rattle.slowest_call.specs.Question.{ends_at_last, roomy, events_of}
use Rattle.slowest_call.specs.Kinds.{Kind, most, start, slowest}

-- the lines of events and of what was given out for them, on top of others
abbrev pub new_items : {B : Type 0} → List EventAndRoom → List (Output B) → List Item → List Item
new_items [] outs xs = xs
new_items (e ∷ es) [] xs = xs
new_items (e ∷ es) (orders x ∷ outs) xs = new_items es outs (ordered x ∷ accepted e.event ∷ xs)
new_items (e ∷ es) (answers a ∷ outs) xs = new_items es outs (accepted e.event ∷ xs)
new_items (e ∷ es) (rejects r ∷ outs) xs = new_items es outs xs

-- the lines of an accepted call, of its entries and of what was given out for each, as a mode sees them
abbrev pub lines_given : {B : Type 0} → Bool → List EventAndRoom → List (Output B) → List Item
lines_given mode es [] = []
lines_given mode es (orders x ∷ outs) = map (seen_item mode) (new_items es outs (ordered x ∷ []))
lines_given mode es (answers a ∷ outs) = []
lines_given mode es (rejects r ∷ outs) = []

-- the mode that session m has behind the call's entry
abbrev pub mode_behind : Session → ℕ → Call → ℕ → Bool
mode_behind m caller c room = (step m (call caller c room)).state.books.padded

-- ---- the machine

module _ (M : Machine) where
  -- the lines of a call from state s, which stands for session m: es its events, is its inputs
  abbrev pub machine_lines : M.State → Session → ℕ → Call → ℕ → List EventAndRoom → List M.Input → List Item
  machine_lines s m caller c room es is = lines_given (mode_behind m caller c room) es (given_out M s is)

  -- the run of a kind, from the machine's beginning: js leads to its start, is are its inputs
  abbrev pub run_lines : Kind → ℕ → M.State → List M.Input → List Item
  run_lines k extra s is = machine_lines s (session_after fresh (start k)) 0 (slowest k).call buffer_need (roomy (events_of (slowest k) extra)) is

  pub record MachineRun (k : Kind) (extra : ℕ) (s : M.State) (is : List M.Input) : Type 0 where
    pub ended : ends_at_last (given_out M s is) ≡ true
    pub idles : idle_reads (run_lines k extra s is) ≡ extra
    pub all : events (run_lines k extra s is) ≡ most k + extra
