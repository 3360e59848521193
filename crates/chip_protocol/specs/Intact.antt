-- The chip's packets at the host's end: each response is intact, fits a packet, and is not led by ACK.
use Rattle.std.specs.Prelude.{List, [], ◌∷◌, ℕ, zero, suc}
use Rattle.std.proofs.Common.{arith}
use Rattle.framing.specs.Lists.{Bytes}
use Rattle.chip_protocol.specs.Script.{AllBytes}

pub all_bytes_lem : (l : List ℕ) → AllBytes l → Bytes l
all_bytes_lem [] h zero = omega arith
all_bytes_lem [] h (suc k) = omega arith
all_bytes_lem (b ∷ l) h zero = h.0
all_bytes_lem (b ∷ l) h (suc k) = all_bytes_lem l h.1 k

pub bytes_all : (l : List ℕ) → Bytes l → AllBytes l
bytes_all [] h = tt
bytes_all (b ∷ l) h = (h zero, bytes_all l (λ k. h (suc k)))
