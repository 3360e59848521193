-- The chip's own code at the other end: its steps on its memory, as its contract states them, are those of the definitions' chip. So N10's sentences are of
-- the reader's and the chip's own steps together.
use Rattle.std.specs.Prelude.{◌≡◌, true, List, ℕ, ◌≤◌, length}
use Rattle.std.proofs.Math.Option.{some}
use Rattle.exchange.specs.Exchange.{Event}
use Rattle.protocol.specs.Machine.{Machine}
use Rattle.engine.specs.Inputs.{gives}
use Rattle.engine.specs.Refinement.{engine}
use Rattle.session_host.specs.Demand3.{MixedEntry, mixed_input, mixed_buffer}
use Rattle.chip_protocol.specs.Names.{longest_packet}
use Rattle.chip_protocol.specs.Chip.{chip_step}
use Rattle.chip_protocol.specs.Channel.{Chip, simulated}
use Rattle.chip_protocol.specs.Alike.{Alike}
use Rattle.chip_protocol.specs.Claim.{N10}
use Rattle.simulated_chip.specs.Memory.{chip_state}
use Rattle.simulated_chip.specs.Range.{in_range}
use Rattle.simulated_chip.specs.Steps.{step_in, LeftBy, step_of}
use Rattle.simulated_chip.specs.StepMeaning.{packets_in, Means, step_means}
use Rattle.simulated_chip.specs.declared.chip.Chip.{Chip as Memory}
use Rattle.chip_channel.specs.Readers.{engine_n10, host, host_lend, host_n10, mixed, lend_taken, mixed_n10}

-- the chip's memory, in range: as it is at its start, and after each card, reply and step
pub record CodeState : Type 0 where
  pub memory : Memory
  pub range : in_range memory.state memory.cards memory.sent memory.replies ≡ true

-- lent: the buffer that is lent for a step, of any bytes
module _ (lent : Memory → List ℕ → List ℕ) (room : (c : Memory) (written : List ℕ) → longest_packet ≤ length (lent c written)) where
  abbrev pub stepped : CodeState → List ℕ → LeftBy
  stepped c written = step_of c.memory written (lent c.memory written)

  means : (c : CodeState) (written : List ℕ)
      → (let m = c.memory in Means m.state m.cards m.sent m.replies c.range (step_in m.state m.cards m.sent m.replies written (lent m written)) written)
  means c written =
      let m = c.memory in
      step_means m.state m.cards m.sent m.replies c.range written (lent m written) (room m written)

  pub still_in_range : (c : CodeState) (written : List ℕ) → (let m = (stepped c written).step.chip in in_range m.state m.cards m.sent m.replies ≡ true)
  unfolding step_of
  still_in_range c written = (means c written).inside

  -- the chip by its code's step
  abbrev pub code_chip : Chip
  code_chip =
      record {
        State = CodeState;
        packets = λ c written. packets_in (stepped c written).step.answer (stepped c written).buffer;
        next = λ c written. record { memory = (stepped c written).step.chip; range = still_in_range c written };
      }

  pub code_packets : (c : CodeState) (written : List ℕ) → code_chip.packets c written ≡ (chip_step (chip_state c.memory) written).packets
  unfolding step_of
  code_packets c written = (means c written).packets

  pub code_state : (c : CodeState) (written : List ℕ) → chip_state (code_chip.next c written).memory ≡ (chip_step (chip_state c.memory) written).state
  unfolding step_of
  code_state c written = (means c written).state

  -- it does as the definitions' chip
  abbrev pub code_alike : Alike code_chip simulated
  code_alike = record { state = λ c. chip_state c.memory; packets = code_packets; next = code_state }

  -- N10's sentences of the chip's own code, with the engine's own steps, the C interface, and lists of both
  abbrev pub CodeN10 : (M : Machine) (size : ℕ) → (ℕ → Event → M.Input) → Type 0
  CodeN10 M size give = N10 code_chip (λ c. chip_state c.memory) M size give

  module _ (size : ℕ) (buffer : ℕ → List ℕ) (sized : (n : ℕ) → length (buffer n) ≡ size) where
    pub engine_and_chip : CodeN10 engine size (λ n e. gives e (buffer n))
    engine_and_chip = engine_n10 code_chip code_alike size buffer sized

    pub host_and_chip : CodeN10 host size (host_lend size buffer sized)
    host_and_chip = host_n10 size buffer sized code_chip code_alike

    pub mixed_and_chip : (lend : ℕ → Event → MixedEntry) (lends : (n : ℕ) (e : Event) → mixed_input (lend n e) ≡ some (gives e (buffer n)))
        → CodeN10 (mixed size buffer sized) size (lend_taken MixedEntry mixed_input mixed_buffer size buffer sized lend lends)
    mixed_and_chip lend lends = mixed_n10 size buffer sized lend lends code_chip code_alike
