use mathlib.Core.Path.{◌≡◌}
use Prim.Native.Nat.{◌≤◌, ◌-◌}
use lib.ListN.{length, drop}
use Rattle.bench.specs.WordLaws.{words_behind}
use Rattle.presence_lines.specs.Readings.{ReadSoFar}
use Rattle.presence_lines.proofs.read.read_cards.Given as goal

abbrev pub invariant-loop-at : goal.invariant-loop-at
invariant-loop-at l = (l.n ≡ length l.line) × (l.at ≤ l.n) × (length l.records ≡ length l.initial.records) × ReadSoFar (words_behind (drop l.from l.line)) (words_behind (drop l.at l.line)) l.initial.records l.len l.records

abbrev pub decreases-loop-at : goal.decreases-loop-at
decreases-loop-at l = l.n - l.at
