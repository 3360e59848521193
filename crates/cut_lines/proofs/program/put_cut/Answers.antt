use mathlib.Core.Path.{refl, sym, ap, ◌∙◌}
use native.Mathlib.Omega.{arith}
use Rattle.errors.specs.Choice.{pick}
use Rattle.bench.specs.Texts.{decimal_under, decimal_of}
use Rattle.cut_script.specs.Answer.{written_for}
use Rattle.cut_lines.specs.Readings.{answer_in}
use Rattle.cut_lines.proofs.CutLaws.{written_from, written_refused}
use Rattle.cut_lines.proofs.program.put_cut.Goals as goal

pub returns-in-Ok : goal.returns-in-Ok
returns-in-Ok c = λ room. written_from _ _ _ _ room _ _ (ap answer_in (sym c.in-Ok.is) ∙ c.cut.ensures) c.slice.ensures c.put.ensures

pub returns-in-Err-OverLong : goal.returns-in-Err-OverLong
unfolding written_for decimal_of decimal_under pick
returns-in-Err-OverLong c = λ room. written_refused _ _ _ _ room 3 _ (rw c.in-Err-OverLong.field-0-is at (ap answer_in (sym c.in-Err-OverLong.is) ∙ c.cut.ensures)) refl (omega arith) c.put-in-Err-OverLong.ensures

pub returns-in-Err-NoRefusal : goal.returns-in-Err-NoRefusal
unfolding written_for decimal_of decimal_under pick
returns-in-Err-NoRefusal c = λ room. written_refused _ _ _ _ room 29 _ (rw c.in-Err-NoRefusal.field-0-is at (ap answer_in (sym c.in-Err-NoRefusal.is) ∙ c.cut.ensures)) refl (omega arith) c.put-in-Err-NoRefusal.ensures
