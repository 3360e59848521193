use Rattle.std.proofs.Common.{rules}
use Rattle.std.specs.Prelude.{◌≡◌, length}
use mathlib.Core.Path.{ap, ◌∙◌}
use Rattle.engine.specs.Core.{arrays, with_command_of, stage_of, performs_of}
use Rattle.stages.specs.Put.{copied_start}
use Rattle.engine.proofs.running.Core.put_pending.Goals as goal

pub returns : goal.returns
unfolding performs_of
returns c = λ f.
    let a = c.args in
    let e = c.copy.ensures in
    let three : 3 ≡ length a.bytes = search rules in
    c.send.ensures f ∙ (λ i. stage_of ((c.with_command.ensures ∙ ap (with_command_of a.self) three) i) (arrays (copied_start a.bytes a.command.now _ e.after i) f) (c.to_stage.ensures i) a.buffer.now)
