-- The counts of the eight callers add up to the record's command frames since the last opening began, where none has reached the ceiling.
use Rattle.std.specs.Prelude.{List, [], ◌∷◌, ℕ, ◌+◌, ◌≤◌, get_or}
use Rattle.protocol.specs.Session.{last_caller, fresh, Entry}
use Rattle.protocol.specs.Session.{outputs, session_after}
use Rattle.protocol.specs.Record.{Note, record_of, frames_by}

-- over all callers
abbrev pub sum_over_callers : (ℕ → ℕ) → ℕ
sum_over_callers f = f 0 + f 1 + f 2 + f 3 + f 4 + f 5 + f 6 + f 7

-- ---- accepted calls have one of the eight callers

abbrev pub Known : List Note → Type 0
Known [] = Unit {0}
Known (x ∷ ns) = (x.caller ≤ last_caller) × Known ns

-- the counts after a list, one for each caller
abbrev pub counts_after : List Entry → ℕ → ℕ
counts_after es k = get_or (session_after fresh es).books.counts k 0

-- the record's frames since the last opening began, of one caller and of all
abbrev pub frames_in : List Entry → ℕ → ℕ
frames_in es k = frames_by k (record_of es (outputs fresh es)).lines (record_of es (outputs fresh es)).notes
