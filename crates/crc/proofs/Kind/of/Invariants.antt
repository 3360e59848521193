-- What is left of the bytes takes the register to what all of them take the initial value to, and the table has its rule.
use Rattle.std.proofs.Common.{◌≡◌, drop}
use Rattle.crc.specs.Crc.{register_after}
use Rattle.crc.proofs.Entries.{Tabled}
use Rattle.crc.proofs.Kind.of.Given as goal

abbrev pub invariant-loop-byte : goal.invariant-loop-byte
invariant-loop-byte l = record {
  left : register_after l.register (drop l.byte-index l.bytes) ≡ register_after l.fn.self.initial l.bytes;
  entries : Tabled l.table;
}
