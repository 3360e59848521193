use mathlib.Core.Path.{◌≡◌}
use mathlib.Core.List.{[]}
use Prim.Native.Nat.{ℕ, ◌+◌, ◌*◌, ◌≤◌, ◌-◌}
use lib.ListN.{length, get_or, drop}
use Rattle.slowest_call.specs.Fields.{fields_of}
use Rattle.slowest_call.specs.Kinds.{kinds}
use Rattle.slowest_call.specs.Tables.{run_fields}
use Rattle.slowest_call.specs.Texts.{kind_named_of, kind_count}
use Rattle.slowest_call.proofs.table.Runs.kind_named.Given as goal

-- the name is none of the first n kinds', and the place is where the next one's fields start
abbrev pub invariant-loop-kind : goal.invariant-loop-kind
invariant-loop-kind l = record {
  few : l.kind ≤ kind_count;
  later : kind_named_of kinds l.name ≡ kind_named_of (drop l.kind kinds) l.name;
  within : l.at ≤ length l.self.table.now;
  place : (j : ℕ) → get_or (fields_of (drop l.at l.self.table.now)) j [] ≡ get_or run_fields (4 * l.kind + j) [];
}
