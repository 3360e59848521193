-- n counts the words before the byte that is looked at, the one that is being passed among them.
use Rattle.std.proofs.Common.{◌≡◌, ◌+◌, ◌≤◌, length, drop}
use Rattle.bench.specs.Words.{words_of_lem}
use Rattle.bench.proofs.words.count.Given as goal

abbrev pub invariant-loop-byte : goal.invariant-loop-byte
invariant-loop-byte l = record {
  few : l.n ≤ l.byte-index + 1;
  counted : l.n + length (words_of_lem (drop l.byte-index l.line)) ≡ length (words_of_lem l.line) + 1;
}
