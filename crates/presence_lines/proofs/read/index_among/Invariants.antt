use mathlib.Core.Path.{◌≡◌}
use Prim.Native.Nat.{◌+◌}
use lib.ListN.{drop}
use Rattle.bench.specs.Words.{words_of_lem}
use Rattle.presence_lines.specs.Lines.{place_among}
use Rattle.presence_lines.proofs.read.index_among.Given as goal

abbrev pub invariant-loop-i : goal.invariant-loop-i
invariant-loop-i l = place_among l.word (words_of_lem l.text) ≡ l.i + place_among l.word (drop l.i (words_of_lem l.text))
