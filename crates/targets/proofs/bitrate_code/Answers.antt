-- Number and suffix give the four bytes.
use Rattle.std.proofs.Common.{refl, arith}
use Rattle.errors.specs.Choice.{same}
use Rattle.targets.specs.Bitrates.{code_of}
use Rattle.targets.proofs.Laws.{rate_code}
use Rattle.targets.proofs.bitrate_code.Goals as goal

pub returns-in-106-eq65 : goal.returns-in-106-eq65
returns-in-106-eq65 c = rate_code _ _ _ _ _ c.in-Some.ensures 106 65 c.in-106-eq65.is-0 c.in-106-eq65.is-1 (omega arith) _ (unfold code_of same in refl)

pub returns-in-106-eq66 : goal.returns-in-106-eq66
returns-in-106-eq66 c = rate_code _ _ _ _ _ c.in-Some.ensures 106 66 c.in-106-eq66.is-0 c.in-106-eq66.is-1 (omega arith) _ (unfold code_of same in refl)

pub returns-in-212-eq66 : goal.returns-in-212-eq66
returns-in-212-eq66 c = rate_code _ _ _ _ _ c.in-Some.ensures 212 66 c.in-212-eq66.is-0 c.in-212-eq66.is-1 (omega arith) _ (unfold code_of same in refl)

pub returns-in-212-eq70 : goal.returns-in-212-eq70
returns-in-212-eq70 c = rate_code _ _ _ _ _ c.in-Some.ensures 212 70 c.in-212-eq70.is-0 c.in-212-eq70.is-1 (omega arith) _ (unfold code_of same in refl)

pub returns-in-424-eq66 : goal.returns-in-424-eq66
returns-in-424-eq66 c = rate_code _ _ _ _ _ c.in-Some.ensures 424 66 c.in-424-eq66.is-0 c.in-424-eq66.is-1 (omega arith) _ (unfold code_of same in refl)

pub returns-in-424-eq70 : goal.returns-in-424-eq70
returns-in-424-eq70 c = rate_code _ _ _ _ _ c.in-Some.ensures 424 70 c.in-424-eq70.is-0 c.in-424-eq70.is-1 (omega arith) _ (unfold code_of same in refl)

pub returns-in-848-eq66 : goal.returns-in-848-eq66
returns-in-848-eq66 c = rate_code _ _ _ _ _ c.in-Some.ensures 848 66 c.in-848-eq66.is-0 c.in-848-eq66.is-1 (omega arith) _ (unfold code_of same in refl)
