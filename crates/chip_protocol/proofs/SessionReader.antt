-- The definitions' session as a reader: N10's sentences of it.
use Rattle.std.specs.Prelude.{refl, ℕ}
use Rattle.protocol.specs.Session.{event}
use Rattle.chip_protocol.specs.Channel.{simulated, as_is}
use Rattle.chip_protocol.specs.Alike.{itself}
use Rattle.chip_protocol.specs.Claim.{N10}
use Rattle.chip_protocol.proofs.Theorem.{n10}
use Rattle.chip_protocol.specs.SessionReader.{session}

pub session_n10 : (room : ℕ) → N10 simulated as_is session room (λ n e. event e room)
session_n10 room = n10 simulated (itself simulated) session room (λ n e. event e room) (λ n e. refl)
