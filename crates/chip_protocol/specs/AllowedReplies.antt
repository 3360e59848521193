-- A reply is added to the card added last exactly where the field with it is allowed; 4 is given exactly where there is another reply to the same bytes, or
-- the CRC_A of a Type 2 card's is missing.
use Rattle.std.specs.Prelude.{ℕ}
use mathlib.Core.List.{List}
use Rattle.chip_protocol.specs.Field.{StatedReply}

abbrev pub stated : List ℕ → List ℕ → StatedReply
stated sent reply = record { sent = sent; reply = reply }
