use Rattle.std.proofs.Common.{rules}
use Rattle.protocol.specs.Calls.{device, write_without_encryption}
use Rattle.protocol.specs.Arguments.{flag, ms_of}
use Rattle.calls.proofs.Rules.{long_refused}
use Rattle.calls.proofs.start.write_blocks.Goals as goal

pub returns-in_err-timeout : goal.returns-in_err-timeout
returns-in_err-timeout c =
    let a = c.args in
    let n = a.numbers in
    long_refused _ _ (device (write_without_encryption a.idm.now n.word a.blocks.now a.bytes.now (ms_of (flag n.y) n.ms))) n.y n.ms _ _ c.is_set.ensures (search rules) c.in_err-timeout.ensures
