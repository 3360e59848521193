use Prim.Native.Nat.{◌*◌}
use mathlib.Core.Path.{◌≡◌}
use lib.Seq.{paste}
use Rattle.bench.specs.Hex.{digits_of_lem}
use Rattle.acceptance.proofs.lines.put_digits.Given as goal

abbrev pub invariant-loop-i : goal.invariant-loop-i
invariant-loop-i l = l.out ≡ paste l.initial.out l.at (digits_of_lem l.bytes) (2 * l.i)
