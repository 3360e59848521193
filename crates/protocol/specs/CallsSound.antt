-- Every call's script is sound: a line for each rule, which serves all commands of it, and for each other call.
use Rattle.std.specs.Prelude.{[], ℕ, ◌∷◌, ◌++◌}
use Rattle.protocol.specs.Scripts.{Script, finish, reset, done}
use Rattle.protocol.specs.Names.{timeouts_item, timeouts, max_rty_com_item, max_rty_com, max_retries_item, max_retries, rf_cfg_ram07, analog106a_item, analog106a, opening_parameters, opening_rf_cfg}
use Rattle.protocol.specs.Chipset.{rf_field_off_of, set_parameters_of, rf_configuration_of, write_register_of}
use Rattle.protocol.specs.Device.{chipset_name}
use Rattle.protocol.specs.Rules.{version_bytes}
use Rattle.protocol.specs.Arguments.{word}

-- the opening's script in parts: its last commands, all behind the version, the whole
abbrev pub opening_last : ℕ → ℕ → ℕ → Script
opening_last ic ver rev =
    rf_configuration_of analog106a_item analog106a
    (set_parameters_of opening_parameters
    (reset (write_register_of (word rf_cfg_ram07 ++ (opening_rf_cfg ∷ [])) (finish (done (version_bytes 1 ic ver rev ++ chipset_name ver rev))))))

abbrev pub opening_rest : ℕ → ℕ → ℕ → Script
opening_rest ic ver rev =
    rf_field_off_of
    (rf_configuration_of timeouts_item timeouts
    (rf_configuration_of max_rty_com_item max_rty_com
    (rf_configuration_of max_retries_item max_retries (opening_last ic ver rev))))
