use Rattle.std.proofs.Common.{arith}
use Rattle.chipset.specs.Responses.{version_answer}
use Rattle.chipset.proofs.general.get_firmware_version_response.Goals as goal

pub returns : goal.returns
unfolding version_answer
returns c = c.with_length.ensures _ (λ h. c.part.ensures _ (omega arith))
