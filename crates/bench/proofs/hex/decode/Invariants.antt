-- The bytes of the first i pairs stand in the buffer.
use Rattle.std.proofs.Common.{◌≡◌, length}
use lib.Seq.{paste}
use Rattle.bench.specs.Hex.{pairs_of}
use Rattle.bench.proofs.hex.decode.Given as goal

abbrev pub invariant-loop-i : goal.invariant-loop-i
invariant-loop-i l = record { size : length l.out ≡ length l.initial.out; put : l.out ≡ paste l.initial.out 0 (pairs_of l.word) l.i }
