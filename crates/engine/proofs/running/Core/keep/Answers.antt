use mathlib.Core.Path.{ap, ◌∙◌}
use Rattle.std.specs.Prelude.{take}
use Rattle.engine.specs.Core.{arrays, stage_of, with_found_of}
use Rattle.stages.specs.Put.{puts_found}
use Rattle.engine.proofs.running.Core.keep.Goals as goal

pub returns : goal.returns
returns c =
    let a = c.args in
    let h = c.lay-n.ensures (take a.self.found a.found.now) a.found.now (puts_found a.found.now a.self.found a.layout.kept c.requires.1.kept) in
    c.send.ensures _
    ∙ (λ i. stage_of ((c.with_found.ensures ∙ ap (with_found_of a.self) h.count) i) (arrays a.command.now (h.is i)) a.call a.buffer.now)
