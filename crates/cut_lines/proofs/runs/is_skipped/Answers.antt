use Rattle.std.proofs.Common.{sym, ◌∙◌}
use Rattle.cut_lines.proofs.RunLaws.{busy_skips}
use Rattle.cut_lines.proofs.runs.is_skipped.Goals as goal

pub returns-then-is_call : goal.returns-then-is_call
returns-then-is_call c = λ h. busy_skips _ _ (sym c.is_call.ensures ∙ c.if-is_call.true) h
