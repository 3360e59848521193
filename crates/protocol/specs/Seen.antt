-- The record as the modes see its packets: it grows by what the mode of the session sees of each event.
use Rattle.std.specs.Prelude.{◌≡◌, false, List, [], ◌∷◌, ℕ, ◌<◌}
use Rattle.protocol.specs.Calls.{Call, opening, reader, is_padded_mode}
use Rattle.protocol.specs.Session.{Books}
use Rattle.protocol.specs.Record.{Record, Note, mode_at}

-- from the number n on there are no lines
abbrev pub Unused : Record → ℕ → Type 0
Unused [] n = Unit {0}
Unused (x ∷ l) n = (x.number < n) × Unused l n

-- the session's caller is that of the newest call
abbrev pub caller_at : List Note → ℕ
caller_at [] = 0
caller_at (x ∷ ns) = x.caller

-- and its mode is that of the newest opening in the notes
abbrev pub BooksAt : Books → List Note → Type 0
BooksAt b ns = (b.padded ≡ mode_at ns) × (b.caller ≡ caller_at ns)

-- ---- with the mode off the record is seen as it is

abbrev pub OffCall : Call → Type 0
OffCall (opening mode) = is_padded_mode mode ≡ false
OffCall (reader c) = Unit {0}

abbrev pub AllOff : List Note → Type 0
AllOff [] = Unit {0}
AllOff (x ∷ ns) = OffCall x.call × AllOff ns
