use mathlib.Core.Path.{◌≡◌}
use mathlib.Core.List.{[]}
use Prim.Native.Nat.{ℕ, ◌+◌, ◌≤◌, ◌-◌}
use lib.ListN.{length, get_or, drop}
use Rattle.slowest_call.specs.Fields.{fields_of}
use Rattle.slowest_call.proofs.table.behind_fields.Given as goal

-- each field behind those that are looked for is so many fields on from the place
abbrev pub invariant-loop : goal.invariant-loop
invariant-loop l = (l.at ≤ length l.table) × ((j : ℕ) → get_or (fields_of (drop l.at l.table)) (l.k - l.counter + j) [] ≡ get_or (fields_of (drop l.fn.from l.table)) (l.k + j) [])
