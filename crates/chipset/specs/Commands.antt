-- How each call of one command starts, by its row: the kind of its response and its command, or its refusal at once.
use Rattle.std.specs.Prelude.{List, [], ◌∷◌, ◌++◌, ℕ}
use Rattle.protocol.specs.Names.{command_clock, registers_clock}
use Rattle.protocol.specs.Arguments.{word}
use Rattle.protocol.specs.Calls.{Request, Row, row, resets, row_of, reset_mode_code, read_register_code, write_register_code, reset_mode_data}
use Rattle.stages.specs.Stages.{Command, cmd}
use Rattle.stages.specs.Starts.{Start, staged, limited, asserted}
use Rattle.chipset.specs.Kinds.{kind_of, reset_mode_kind}

-- the reset, which is stage 0 of its kind
abbrev pub reset_command : List ℕ → Command
reset_command pending = cmd reset_mode_code command_clock reset_mode_data

-- read_single_register and write_single_register as commands of a stage
abbrev pub read_command : ℕ → List ℕ → Command
read_command address pending = cmd read_register_code registers_clock (word address)

abbrev pub write_command : ℕ → ℕ → List ℕ → Command
write_command address value pending = cmd write_register_code registers_clock (word address ++ (value ∷ []))

abbrev pub row_first : Row → Start
row_first (row holds code clock bytes rule) = asserted holds (limited (kind_of rule) (cmd code clock bytes))
row_first resets = staged reset_mode_kind []

unfoldable pub first_of : Request → Start
first_of q = row_first (row_of q)
