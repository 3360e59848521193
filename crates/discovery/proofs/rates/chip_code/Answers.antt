use Rattle.std.proofs.Common.{rules}
use Rattle.discovery.specs.FirstLaws.{malformed, well_formed}
use Rattle.discovery.proofs.rates.chip_code.Goals as goal

pub returns-in_err-bitrate : goal.returns-in_err-bitrate
returns-in_err-bitrate g c = λ t h. malformed _ t _ _ (search rules) c.in_err-bitrate.ensures

pub returns : goal.returns
returns g c = λ t h. rw c.ok_or.ensures.value (well_formed _ t _ _ c.in_ok-bitrate.ensures (h _ _ c.takes.ensures))
