-- Bitrates by the numbers of include/rcs956_chip.h. Kinds are numbered as in memory (simulated_chip/specs/Memory.antt, `kind_at`).
use Rattle.std.specs.Prelude.{ℕ, eqb, leb}
use Rattle.errors.specs.Choice.{pick}
use Rattle.targets.specs.declared.Bitrate.{Bitrate}
use Rattle.targets.specs.declared.Bitrate.TheVariants.{B106A, B212F, B424F, B106B, Other}
use Rattle.chip_protocol.specs.Field.{br_ty}
use Rattle.simulated_chip.specs.Range.{last_kind}

-- a bitrate by its code
unfoldable pub rate_by_of : ℕ → Bitrate
rate_by_of n = pick (eqb n (br_ty B106A)) B106A (pick (eqb n (br_ty B212F)) B212F (pick (eqb n (br_ty B424F)) B424F (pick (eqb n (br_ty B106B)) B106B Other)))

-- of a kind that there is not, none that a kind takes
unfoldable pub bitrate_by_of : ℕ → ℕ → Bitrate
bitrate_by_of kind n = pick (leb kind last_kind) (rate_by_of n) Other
