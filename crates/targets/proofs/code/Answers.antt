use Rattle.std.proofs.Common.{sym, length-take-le}
use Rattle.targets.proofs.Laws.{refused_on, sent_le, part_code}
use Rattle.targets.proofs.code.Goals as goal

pub returns-in_err-n : goal.returns-in_err-n
returns-in_err-n c = refused_on _ _ _ _ c.in_err-n.was c.parse.ensures c.from_residual.ensures.1

pub slice_bounds-send_code-end : goal.slice_bounds-send_code-end
slice_bounds-send_code-end c = sym (length-take-le _ _ (sent_le _ _ _ c.in_ok-n.was c.parse.ensures))

pub returns : goal.returns
returns c = part_code _ _ _ c.in_ok-n.was c.parse.ensures _ c.send_code.ensures
