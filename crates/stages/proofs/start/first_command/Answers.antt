use native.Mathlib.Omega.{arith}
use Rattle.stages.specs.Starts.{limited, over-limit, within_limit, starts_command}
use Rattle.stages.proofs.start.first_command.Goals as goal

pub returns-then-len-gt-DATA_LIMIT : goal.returns-then-len-gt-DATA_LIMIT
unfolding limited
returns-then-len-gt-DATA_LIMIT c = λ x y l h. over-limit _ x y l h (omega arith) _

pub returns : goal.returns
unfolding limited
returns c = λ x y l h. within_limit _ x y l h (omega arith) _ _ (λ k p. starts_command _ x y l k p)
