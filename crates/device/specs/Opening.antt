-- The opening: the command of each of its stages, and what follows each reply.
use Rattle.std.specs.Prelude.{Bool, true, List, [], ◌∷◌, ◌++◌, ℕ, ◌+◌, eqb, ltb, get_or}
use Rattle.errors.specs.Choice.{pick}
use Rattle.stages.specs.Stages.{Command, cmd, Decision, send, keep, with_length}
use Rattle.chipset.specs.Responses.{found_written_of}
use Rattle.device.specs.Names.{opened_bytes}
use Rattle.protocol.specs.Arguments.{word}
use Rattle.protocol.specs.Names.{command_clock, registers_clock, rf_cfg_ram07, rf_field_item, field_off, timeouts_item, timeouts, max_rty_com_item, max_rty_com, max_retries_item, max_retries, analog106a_item, analog106a, opening_parameters, opening_rf_cfg, version_need}
use Rattle.protocol.specs.Calls.{get_firmware_version_code, reset_mode_code, rf_configuration_code, set_parameters_code, write_register_code, reset_mode_data}
use Rattle.device.specs.Kinds.{reset_stage, version_stage, field_off_stage, timeouts_stage, max_rty_com_stage, max_retries_stage, analog_stage, parameters_stage, reset_again_stage, rf_cfg_stage}

-- Device::new
unfoldable pub settings_command : ℕ → List ℕ → Command
settings_command stage pending =
    pick (eqb stage max_retries_stage) (cmd rf_configuration_code command_clock (max_retries_item ∷ max_retries))
    (pick (eqb stage analog_stage) (cmd rf_configuration_code command_clock (analog106a_item ∷ analog106a))
    (pick (eqb stage parameters_stage) (cmd set_parameters_code command_clock (opening_parameters ∷ []))
    (pick (eqb stage reset_again_stage) (cmd reset_mode_code command_clock reset_mode_data)
    (cmd write_register_code registers_clock (word rf_cfg_ram07 ++ (opening_rf_cfg ∷ []))))))

unfoldable pub opening_command : ℕ → List ℕ → Command
opening_command stage pending =
    pick (eqb stage reset_stage) (cmd reset_mode_code command_clock reset_mode_data)
    (pick (eqb stage version_stage) (cmd get_firmware_version_code command_clock [])
    (pick (eqb stage field_off_stage) (cmd rf_configuration_code command_clock (rf_field_item ∷ field_off ∷ []))
    (pick (eqb stage timeouts_stage) (cmd rf_configuration_code command_clock (timeouts_item ∷ timeouts))
    (pick (eqb stage max_rty_com_stage) (cmd rf_configuration_code command_clock (max_rty_com_item ∷ max_rty_com))
    (settings_command stage pending)))))

unfoldable pub is_reset_stage : ℕ → Bool
is_reset_stage stage = pick (eqb stage reset_stage) true (eqb stage reset_again_stage)

-- get_firmware_version: its three bytes and the chip's name are kept
unfoldable pub version_kept : List ℕ → Decision
version_kept bs = with_length bs version_need (keep field_off_stage (opened_bytes (get_or bs 0 0) (get_or bs 1 0) (get_or bs 2 0)))

unfoldable pub opening_decision : ℕ → List ℕ → List ℕ → Decision
opening_decision stage found bs = pick (eqb stage version_stage) (version_kept bs) (pick (ltb stage rf_cfg_stage) (send (stage + 1)) (found_written_of found bs))
