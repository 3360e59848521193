-- What adding a CRC answers, by document 01's numbers, and what the buffer holds then.
-- Assumes nothing.
use Rattle.std.specs.Prelude.{List, ◌++◌, ℕ, ◌+◌, ltb, length, drop}
use Rattle.errors.specs.Refusals.{Returned, answered, refused, plain}
use Rattle.errors.specs.Choice.{pick}
use Rattle.crc.specs.Crc.{CrcKind, crc_bytes}

-- s and its CRC stand at the buffer's start, and all other bytes keep their values. A buffer that is too short is refused, 2, and left as it is.
unfoldable pub added : CrcKind → List ℕ → List ℕ → Returned × List ℕ
added k s out =
    pick (ltb (length out) (length s + 2))
    (refused (plain 2), out)
    (answered (length s + 2), s ++ crc_bytes k s ++ drop (length s + 2) out)
