-- The sum so far is the remainder of the sum of the bytes so far.
use Rattle.std.proofs.Common.{◌≡◌, ◌%◌, take}
use Rattle.framing.specs.Frames.{total}
use Rattle.framing.proofs.sums.plain_sum.Given as goal

abbrev pub invariant-loop-byte : goal.invariant-loop-byte
invariant-loop-byte l = l.sum ≡ total (take l.byte-index l.bytes) % 256
