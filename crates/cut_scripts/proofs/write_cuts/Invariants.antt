use Rattle.std.proofs.Common.{length}
use Rattle.cut_scripts.proofs.write_cuts.Given as goal

abbrev pub decreases-loop-rest : goal.decreases-loop-rest
decreases-loop-rest g l = length l.rest
