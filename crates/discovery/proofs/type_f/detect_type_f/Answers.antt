use mathlib.Core.Path.{ap}
use mathlib.Core.List.{[], ◌∷◌, ◌++◌}
use Rattle.std.proofs.Common.{rules}
use native.Mathlib.Omega.{arith}
use Rattle.protocol.specs.Starts.{type_f_code}
use Rattle.stages.specs.Starts.{short_staged, same_staged}
use Rattle.discovery.specs.Firsts.{type_f_first}
use Rattle.discovery.specs.FirstLaws.{not_supported, supported, word_bytes}
use Rattle.discovery.proofs.type_f.detect_type_f.Goals as goal

pub returns-in_err-code : goal.returns-in_err-code
returns-in_err-code c = not_supported _ _ _ _ _ _ (search rules) (c.in_err-code.ensures type_f_code (λ b r p. p.1))

pub returns : goal.returns
unfolding type_f_first
returns c =
    let a = c.args in
    let code = c.in_ok-code.code in
    supported _ _ _ _ _ _ _ (c.in_ok-code.ensures type_f_code (λ b r p. p.1))
    (short_staged _ _ _ _ _ (omega arith) (same_staged _ _ _ _ _ _ (ap (λ w. 1 ∷ code ∷ 0 ∷ w ++ (a.request_code ∷ a.time_slots ∷ [])) (word_bytes _ a.system_code (omega arith) c.to_be_bytes.ensures))
    c.staged.ensures))
