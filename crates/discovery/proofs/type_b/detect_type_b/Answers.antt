use Rattle.std.proofs.Common.{rules}
use native.Mathlib.Omega.{arith}
use Rattle.protocol.specs.Starts.{type_b_code}
use Rattle.stages.specs.Starts.{short_staged}
use Rattle.discovery.specs.Firsts.{type_b_first}
use Rattle.discovery.specs.FirstLaws.{not_supported, supported, same_afi}
use Rattle.discovery.proofs.type_b.detect_type_b.Goals as goal

pub returns-in_err-code : goal.returns-in_err-code
returns-in_err-code c = not_supported _ _ _ _ _ _ (search rules) (c.in_err-code.ensures type_b_code (λ b r p. p.1))

pub returns : goal.returns
unfolding type_b_first
returns c =
    supported _ _ _ _ _ _ _ (c.in_ok-code.ensures type_b_code (λ b r p. p.1))
    (same_afi _ _ _ _ _ _ c.byte_or.ensures (short_staged _ _ _ _ _ (omega arith) c.staged.ensures))
