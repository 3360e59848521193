-- What each discovery comes to with the simulated chip.
use Rattle.std.specs.Prelude.{◌≡◌}
use Rattle.std.proofs.Math.Option.{Option, none, some}
use Prim.Native.Nat.{ℕ}
use Rattle.errors.specs.Choice.{pick}
use Rattle.exchange.specs.Packets.{Reply}
use Rattle.protocol.specs.Scripts.{Answer, Script, finish, command, reset, field_pause}
use Rattle.protocol.specs.Machine.{plain_answer}
use Rattle.chip_protocol.specs.Field.{Card}
use Rattle.chip_protocol.specs.Chip.{ChipState, searched, register_value_of, registers_read, response_to, field_on_after, state_after}
use Rattle.chip_protocol.specs.declared.Kind.{Kind}
use Rattle.protocol.specs.Runs.{run_answer, run_state, run_events}
use Rattle.chip_protocol.specs.Script.{more, responder, peer_of}
use Rattle.chip_protocol.specs.Search.{OptionFits}

-- a script behind its first command
abbrev pub on_reply : Script → Reply → Script
on_reply (finish a) r = finish a
on_reply (command code clock bytes k) r = k r
on_reply (reset x) r = reset x
on_reply (field_pause x) r = field_pause x

-- to unfold this is to unfold the chip's responses
unfoldable pub responses : Unit {0}
unfolding response_to state_after searched registers_read register_value_of field_on_after pick
responses = tt

-- a script's answer, and the state and the number of events that it leaves
pub record Comes (x : Script) (s : ChipState) (a : Answer ℕ) (t : ChipState) (n : ℕ) : Type 0 where
  pub answer : plain_answer (run_answer (peer_of responder) x s) ≡ a
  pub state : run_state (peer_of responder) x s ≡ t
  pub events : (m : ℕ) → run_events (peer_of responder) m x s ≡ more n m

-- a card found: it fits, and is of the kind
abbrev pub FoundFits : Kind → Option Card → Type 0
FoundFits k none = Unit {0}
FoundFits k (some c) = OptionFits (some c) × (c.kind ≡ k)
