-- What was read lies within the buffer, and each turn leaves less to fill.
use Rattle.std.proofs.Common.{◌≡◌, ◌-◌, ◌^◌, ◌≤◌, ◌<◌, length}
use Rattle.bench.proofs.lines.read_full.Given as goal

abbrev pub invariant-loop-done : goal.invariant-loop-done
invariant-loop-done g l = record { size : length l.buffer ≡ length l.initial.buffer; within : l.done ≤ length l.buffer; small : length l.buffer < 2 ^ 64 }

abbrev pub decreases-loop-done : goal.decreases-loop-done
decreases-loop-done g l = length l.buffer - l.done
