use mathlib.Core.Path.{◌≡◌}
use Prim.Native.Nat.{◌/◌, ◌-◌, ◌≤◌}
use lib.Dec.{eqb}
use lib.ListN.{length}
use Rattle.simulated_chip.specs.ResponseLaws.{read_so_far}
use Rattle.simulated_chip.proofs.response.read_registers.Given as goal

abbrev pub invariant-loop-i : goal.invariant-loop-i
invariant-loop-i l = (l.i ≤ length l.bytes / 2) × (length l.out ≡ length l.initial.out) × (read_so_far (eqb l.on 1) l.bytes l.i l.out ≡ read_so_far (eqb l.on 1) l.bytes 0 l.out)

abbrev pub decreases-loop-i : goal.decreases-loop-i
decreases-loop-i l = length l.bytes / 2 - l.i
