use native.Mathlib.Omega.{arith}
use Rattle.discovery.specs.PollLaws.{none_yet}
use Rattle.discovery.proofs.poll_type_f.Codes.so_far.Goals as goal
use Rattle.discovery.specs.PollLaws.{least_found}

pub returns-then-self-eq0 : goal.returns-then-self-eq0
returns-then-self-eq0 c = (none_yet _ _ c.if-self-eq0.true, omega arith, omega arith)

pub returns-else-self-eq0 : goal.returns-else-self-eq0
returns-else-self-eq0 c = (least_found _ _ _ c.if-self-eq0.false c.min.ensures, omega (arith, c.min.ensures), omega (arith, c.min.ensures))
