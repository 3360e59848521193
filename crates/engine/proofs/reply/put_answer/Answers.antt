use mathlib.Core.Path.{sym}
use native.Mathlib.Omega.{arith}
use lib.ListN.{length-take}
use lib.Seq.{length-take-le}
use Rattle.stages.specs.Put.{puts_none}
use Rattle.engine.proofs.reply.put_answer.Goals as goal

pub slice_bounds-append-end : goal.slice_bounds-append-end
slice_bounds-append-end c = sym (length-take-le c.args.layout.kept c.args.found.now c.requires.0.kept)

pub returns : goal.returns
returns c = let a = c.args in
    let h = c.append.ensures.puts _ _ (omega (arith, length-take a.layout.kept a.found.now, c.requires.1)) (puts_none _) in
    let r = c.lay.ensures a.found.now a.target.now record { count = sym (length-take-le a.layout.kept a.found.now c.requires.0.kept); is = h.is } in
    record { value = r.count; target_after = r.is }
