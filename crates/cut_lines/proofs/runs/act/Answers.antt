use mathlib.Core.Path.{refl, ap}
use Rattle.bench_input.specs.Readings.{input_in}
use Rattle.cut_lines.proofs.RunLaws.{step_agrees}
use Rattle.cut_lines.proofs.runs.act.Goals as goal

pub returns : goal.returns
returns c =
    step_agrees _ _ _ _ _ _ refl (ap (λ p. input_in p c.args.entry.input) c.slice.ensures) c.step.ensures
