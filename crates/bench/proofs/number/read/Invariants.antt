-- The number and the verdict are those of the digits from the next one on, behind a number n.
use Rattle.std.proofs.Common.{◌≡◌, ◌≤◌, drop}
use Rattle.bench.specs.Numbers.{number_from, all_decimal, number_limit}
use Rattle.bench.proofs.number.read.Given as goal

abbrev pub invariant-loop-byte : goal.invariant-loop-byte
invariant-loop-byte l = record {
  number : number_from 0 l.word ≡ number_from l.n (drop l.byte-index l.word);
  digits : all_decimal l.word ≡ all_decimal (drop l.byte-index l.word);
  small : l.n ≤ number_limit;
}
