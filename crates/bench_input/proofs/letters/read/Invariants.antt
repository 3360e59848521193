use Rattle.bench_input.proofs.WordsLaws.{LettersBegun}
use Rattle.bench_input.proofs.letters.read.Given as goal

abbrev pub invariant-loop-k : goal.invariant-loop-k
invariant-loop-k l = LettersBegun l.line l.letters l.initial.bytes l.bytes l.taken l.k
