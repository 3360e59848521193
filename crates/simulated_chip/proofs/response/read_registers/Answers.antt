use Rattle.std.proofs.Common.{rules}
use mathlib.Core.Path.{◌≡◌, refl, sym, ap, ◌∙◌}
use Prim.Native.Nat.{◌/◌}
use native.Mathlib.Omega.{arith}
use lib.Dec.{eqb}
use lib.ListN.{length, length-set}
use Rattle.chip_protocol.specs.Chip.{register_value_of}
use Rattle.simulated_chip.specs.ResponseLaws.{registers_turn, registers-end}
use Rattle.simulated_chip.proofs.response.read_registers.Goals as goal

pub loop-i-init : goal.loop-i-init
loop-i-init c = (search rules, refl, refl)

pub loop-i-preserved : goal.loop-i-preserved
loop-i-preserved c =
    let at = c.loop-i in
    let few = c.requires in
    let next = c.loop-i-test.true in (
      search rules,
      length-set at.out at.i c.register_value.result ∙ at.invariant.1,
      registers_turn (eqb c.args.on 1) c.args.bytes.now at.i _ at.out next (let k = at.invariant.1 in omega arith)
          (c.register_value.ensures ∙ ap (register_value_of (eqb c.args.on 1)) c.word_at.ensures) ∙ at.invariant.2,
    )

pub returns : goal.returns
returns c =
    let at = c.loop-i in
    let done : at.i ≡ length c.args.bytes.now / 2 = let h = c.loop-i-test.false in let k = at.invariant.0 in omega arith in
    rw done at (sym (registers-end (eqb c.args.on 1) c.args.bytes.now at.i at.out c.loop-i-test.false) ∙ at.invariant.2)
