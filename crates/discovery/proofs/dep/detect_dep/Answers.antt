use Rattle.std.proofs.Common.{rules}
use Rattle.errors.specs.declared.Refusal.TheVariants.{BadArgument}
use Rattle.protocol.specs.Starts.{dep_code}
use Rattle.stages.specs.Starts.{asserted, starts_true, starts_false, starts_refused}
use Rattle.discovery.specs.Firsts.{dep_asserted}
use Rattle.discovery.specs.FirstLaws.{out_of_range, in_range_lem, not_supported, supported}
use Rattle.discovery.proofs.dep.detect_dep.Goals as goal

pub returns-then-atr_req-lt-SHORTEST_ATR_REQ : goal.returns-then-atr_req-lt-SHORTEST_ATR_REQ
unfolding dep_asserted asserted
returns-then-atr_req-lt-SHORTEST_ATR_REQ c = starts_false _ _ _ _ _ _ (out_of_range _ c.then-atr_req-lt-SHORTEST_ATR_REQ.either) (starts_refused BadArgument _)

pub returns-in_err-code : goal.returns-in_err-code
unfolding dep_asserted asserted
returns-in_err-code c =
    starts_true _ _ _ _ _ _ (search (in_range_lem, rules))
    (not_supported _ _ _ _ _ _ (search rules) (c.in_err-code.ensures dep_code (λ b r p. p.1)))

pub returns : goal.returns
unfolding dep_asserted asserted
returns c =
    starts_true _ _ _ _ _ _ (search (in_range_lem, rules))
    (supported _ _ _ _ _ _ _ (c.in_ok-code.ensures dep_code (λ b r p. p.1)) c.jump.ensures)
