-- What a call's script comes to with a chip that responds to each command: a recursion on the script that asks the chip.
use Rattle.std.specs.Prelude.{◌≡◌, false, List, [], ◌∷◌, ℕ, zero, suc, ◌≤◌, ◌<◌, eqb, length}
use Rattle.errors.specs.declared.Fault.TheVariants.{Status}
use Rattle.framing.specs.Commands.{command_in}
use Rattle.exchange.specs.Packets.{Reply, response, failed, error_identifier}
use Rattle.protocol.specs.Scripts.{Script, finish, command, reset, field_pause}
use Rattle.protocol.specs.Starts.{data_limit}
use Rattle.protocol.specs.Runs.{Peer}
use Rattle.chip_protocol.specs.Packets.{Response, responds, syntax_error, packets_of, ResponseFits}
use Rattle.chip_protocol.specs.Chip.{ChipState, response_to, state_after}
use Rattle.chip_protocol.specs.Channel.{Chip}

-- n more than m, as a run counts
abbrev pub more : ℕ → ℕ → ℕ
more zero m = m
more (suc n) m = suc (more n m)

-- what the engine makes of a response
abbrev pub replied : Response → Reply
replied (responds bytes) = response bytes
replied syntax_error = failed (Status error_identifier)

-- ---- a chip by its responses

pub record Responder : Type 1 where
  pub State : Type 0
  pub response : State → ℕ → List ℕ → Response
  pub after : State → ℕ → List ℕ → State

-- in a good state its response fits a packet, and the state then is good
pub record Fits (C : Responder) (Good : C.State → Type 0) : Type 0 where
  pub fits : (s : C.State) → Good s → (code : ℕ) (bytes : List ℕ) → ResponseFits (C.response s code bytes)
  pub good : (s : C.State) → Good s → (code : ℕ) (bytes : List ℕ) → Good (C.after s code bytes)

abbrev pub responder : Responder
responder = record { State = ChipState; response = response_to; after = state_after }

module _ (C : Responder) where
  -- for a command ACK and the response, for other bytes nothing
  abbrev pub packets_for : C.State → List ℕ → List (List ℕ)
  packets_for s [] = []
  packets_for s (code ∷ bytes) = packets_of code (C.response s code bytes)

  abbrev pub state_for : C.State → List ℕ → C.State
  state_for s [] = s
  state_for s (code ∷ bytes) = C.after s code bytes

  abbrev pub chip_of : Chip
  chip_of = record { State = C.State; packets = λ s written. packets_for s (command_in written); next = λ s written. state_for s (command_in written) }

-- it replies to each command
abbrev pub peer_of : Responder → Peer
peer_of C = record { State = C.State; reply = λ s code bytes. replied (C.response s code bytes); after = C.after }

-- ---- scripts whose commands the chip can receive, whatever the replies: a clock that is not 0, codes and data that are bytes, data within the limit
abbrev pub AllBytes : List ℕ → Type 0
AllBytes [] = Unit {0}
AllBytes (b ∷ l) = (b < 256) × AllBytes l

abbrev pub Sends : Script → Type 0
Sends (finish a) = Unit {0}
Sends (command code clock bytes k) = (eqb clock 0 ≡ false) × AllBytes (code ∷ bytes) × (length bytes ≤ data_limit) × ((r : Reply) → Sends (k r))
Sends (reset x) = Sends x
Sends (field_pause x) = Sends x
