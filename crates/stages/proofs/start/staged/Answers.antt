use native.Mathlib.Omega.{arith}
use Rattle.stages.specs.Starts.{staged_limited, over-limit, within_limit, starts_staged}
use Rattle.stages.proofs.start.staged.Goals as goal

pub returns-then-len-gt-DATA_LIMIT : goal.returns-then-len-gt-DATA_LIMIT
unfolding staged_limited
returns-then-len-gt-DATA_LIMIT c = λ x y l h. over-limit _ x y l h (omega arith) _

pub returns : goal.returns
unfolding staged_limited
returns c = λ x y l h. within_limit _ x y l h (omega arith) _ _ (λ k p. starts_staged _ _ x y l k p)
