use Rattle.std.proofs.Common.{◌≡◌, refl, sym, ap, ◌∙◌, arith, ℕ, List, ◌-◌, ◌≤◌, length, drop, drop_of_length-le}
use Rattle.crc.specs.Crc.{polynomial, bit_in, bits_in, bits, register_after, result, crc_of}
use Rattle.crc.proofs.Entries.{tabled, turn}
use Rattle.crc.proofs.Kind.of.Goals as goal

pub loop-byte-init : goal.loop-byte-init
unfolding tabled bits_in bits bit_in polynomial
loop-byte-init c = record { left = refl; entries = record { whole = refl; rule = refl } }

pub loop-byte-preserved : goal.loop-byte-preserved
loop-byte-preserved c =
    let w = c.loop-byte.invariant in
    record {
      left =
          rw (c.from-in-loop-byte.ensures, c.from.ensures)
          (sym (turn w.entries c.args.bytes.now c.loop-byte.byte-index c.loop-byte.register c.loop-byte-test.true (omega (arith, c.type_inv.bytes c.loop-byte.byte-index))) ∙ w.left);
      entries = w.entries;
    }

-- after the loop nothing is left to go in
end : (s : List ℕ) (i initial register : ℕ) → register_after register (drop i s) ≡ register_after initial s → length s ≤ i → register ≡ register_after initial s
unfolding register_after
end s i initial register e h = rw (drop_of_length-le s h) at e

pub returns-then-self : goal.returns-then-self
unfolding crc_of result
returns-then-self c =
    rw c.if-self.true
    (ap (λ (x : ℕ). 0xFFFF - x) (end c.args.bytes.now c.loop-byte.byte-index c.args.self.initial c.loop-byte.register c.loop-byte.invariant.left c.loop-byte-test.false))

pub returns-else-self : goal.returns-else-self
unfolding crc_of result
returns-else-self c =
    rw c.if-self.false (end c.args.bytes.now c.loop-byte.byte-index c.args.self.initial c.loop-byte.register c.loop-byte.invariant.left c.loop-byte-test.false)
