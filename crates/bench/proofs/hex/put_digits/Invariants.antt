-- The digits of the first i bytes stand in the buffer.
use Rattle.std.proofs.Common.{◌≡◌, ◌*◌, length}
use lib.Seq.{paste}
use Rattle.bench.specs.Hex.{digits_of_lem}
use Rattle.bench.proofs.hex.put_digits.Given as goal

abbrev pub invariant-loop-i : goal.invariant-loop-i
invariant-loop-i l = record { size : length l.out ≡ length l.initial.out; put : l.out ≡ paste l.initial.out l.at (digits_of_lem l.bytes) (2 * l.i) }
