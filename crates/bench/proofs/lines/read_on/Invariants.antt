-- All that came has no line feed and is part of the line, and both buffers keep their lengths.
use Rattle.std.proofs.Common.{ℕ, List}
use Rattle.bench.specs.Lines.{NoFeed, Begun}
use Rattle.bench.proofs.NextLaws.{Sofar}
use Rattle.bench.proofs.lines.read_on.Given as goal

abbrev pub invariant-loop : goal.invariant-loop
invariant-loop g l = (t s : List ℕ) → NoFeed t → Begun t s l.fn.start l.initial.line → Sofar t s l.len l.line
