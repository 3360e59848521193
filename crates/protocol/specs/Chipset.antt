-- The commands that the opening, a discovery or transceive sends, as scripts, each with the script that follows it.
use Rattle.std.specs.Prelude.{List, [], ◌∷◌, ◌++◌, ℕ}
use Rattle.errors.specs.declared.Fault.{Fault}
use Rattle.protocol.specs.Scripts.{Script, command, either, refuse, ask}
use Rattle.protocol.specs.Names.{command_clock, in_jump_for_dep_clock, in_list_passive_target_clock, registers_clock, rf_field_item, field_off, target_number}
use Rattle.protocol.specs.Rules.{on_version, on_written, on_first_byte, on_listed, on_exchanged, on_jump, with_status_else}
use Rattle.protocol.specs.Arguments.{word, jump_data}
use Rattle.protocol.specs.Calls.{get_firmware_version_code, in_communicate_thru_code, in_data_exchange_code, in_jump_for_dep_code, in_list_passive_target_code, read_register_code, rf_configuration_code, set_parameters_code, write_register_code}

-- get_firmware_version: IC, version, revision
abbrev pub get_firmware_version_of : (ℕ → ℕ → ℕ → Script) → Script
get_firmware_version_of f = ask get_firmware_version_code command_clock [] (λ bytes. on_version bytes f)

-- set_parameters
abbrev pub set_parameters_of : ℕ → Script → Script
set_parameters_of flags s = ask set_parameters_code command_clock (flags ∷ []) (λ _. s)

-- rf_configuration
abbrev pub rf_configuration_of : ℕ → List ℕ → Script → Script
rf_configuration_of item bytes s = ask rf_configuration_code command_clock (item ∷ bytes) (λ _. s)

-- rf_field_off
abbrev pub rf_field_off_of : Script → Script
rf_field_off_of s = rf_configuration_of rf_field_item (field_off ∷ []) s

-- read_single_register
abbrev pub read_single_register_of : ℕ → (List ℕ → Script) → Script
read_single_register_of address f = ask read_register_code registers_clock (word address) (λ bytes. on_first_byte bytes f)

-- write_register: for each register the word of its address, and the value
abbrev pub write_register_of : List ℕ → Script → Script
write_register_of registers s = ask write_register_code registers_clock registers (λ bytes. on_written bytes s)

-- write_single_register
abbrev pub write_single_register_of : ℕ → ℕ → Script → Script
write_single_register_of address value s = write_register_of (word address ++ (value ∷ [])) s

-- in_list_passive_target: no target, or a response with one
abbrev pub in_list_passive_target_of : ℕ → ℕ → List ℕ → Script → (List ℕ → Script) → Script
in_list_passive_target_of maxTg bitrate initiator none f =
    ask in_list_passive_target_code in_list_passive_target_clock (maxTg ∷ bitrate ∷ initiator) (λ bytes. on_listed bytes none f)

-- in_data_exchange
abbrev pub in_data_exchange_else : List ℕ → ℕ → (List ℕ → Script) → (Fault → Script) → Script
in_data_exchange_else bytes ms f g = command in_data_exchange_code ms (target_number ∷ bytes) (either (λ bs. on_exchanged bs f g) g)

abbrev pub in_data_exchange_of : List ℕ → ℕ → (List ℕ → Script) → Script
in_data_exchange_of bytes ms f = in_data_exchange_else bytes ms f refuse

-- in_communicate_thru
abbrev pub in_communicate_thru_else : List ℕ → ℕ → (List ℕ → Script) → (Fault → Script) → Script
in_communicate_thru_else bytes ms f g = command in_communicate_thru_code ms bytes (either (λ bs. with_status_else bs (f bs) g) g)

abbrev pub in_communicate_thru_of : List ℕ → ℕ → (List ℕ → Script) → Script
in_communicate_thru_of bytes ms f = in_communicate_thru_else bytes ms f refuse

-- in_jump_for_dep
abbrev pub in_jump_for_dep_else : ℕ → ℕ → List ℕ → List ℕ → List ℕ → (List ℕ → Script) → (Fault → Script) → Script
in_jump_for_dep_else active br passive nfcid3 gi f g =
    command in_jump_for_dep_code in_jump_for_dep_clock (jump_data active br passive nfcid3 gi) (either (λ bs. on_jump bs f g) g)
