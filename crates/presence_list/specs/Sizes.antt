-- No list that a round leaves, and no report, has more cards than a list takes.
use Rattle.std.specs.Prelude.{ℕ, ◌≤◌, Result, Ok, Err}
use Rattle.errors.specs.declared.RoundRefusal.{RoundRefusal}
use Rattle.presence_list.specs.declared.list.Counts.{Counts}
use Rattle.presence_list.specs.Names.{card_limit}

-- of an accepted round: who came, who left, and the list after it
abbrev pub FewAfter : Result Counts RoundRefusal → ℕ → Type 0
FewAfter (Ok c) n = (c.arrived ≤ card_limit) × (c.departed ≤ card_limit) × (n ≤ card_limit)
FewAfter (Err e) n = Unit
