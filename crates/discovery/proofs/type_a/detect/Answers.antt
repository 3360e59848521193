use Rattle.std.proofs.Common.{rules}
use Rattle.protocol.specs.Starts.{type_a_code}
use Rattle.discovery.specs.FirstLaws.{not_supported, supported}
use Rattle.discovery.proofs.type_a.detect.Goals as goal

pub returns-in_err-code : goal.returns-in_err-code
returns-in_err-code c = not_supported _ _ _ _ _ _ (search rules) (c.in_err-code.ensures type_a_code (λ b r p. p.1))

pub returns : goal.returns
returns c = supported _ _ _ _ _ _ _ (c.in_ok-code.ensures type_a_code (λ b r p. p.1)) c.list.ensures
