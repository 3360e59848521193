-- The simulated chip with a field that fits: each response fits a packet, and the field stays.
use Rattle.std.specs.Prelude.{Bool, List, ℕ, ◌≤◌, ◌<◌, length}
use Rattle.std.proofs.Math.Option.{Option, none, some}
use Rattle.framing.specs.Lists.{Bytes}
use Rattle.chip_protocol.specs.Names.{longest_response}
use Rattle.chip_protocol.specs.Field.{ReplyFits, FieldFits}
use Rattle.chip_protocol.specs.Chip.{ChipState}

-- ---- replies

abbrev pub StatedFits : Bool → Option (List ℕ) → Type 0
StatedFits t none = Unit {0}
StatedFits t (some r) = ReplyFits t r

-- ---- responses

abbrev pub LineFits : List ℕ → Type 0
LineFits l = Bytes l × (length l ≤ longest_response)

abbrev pub IsByte : ℕ → Type 0
IsByte n = n < 256

-- the field of the state
abbrev pub HasFitting : ChipState → Type 0
HasFitting s = FieldFits s.field
