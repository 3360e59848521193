-- `Device::new` of device.rs as a script, and the opening's answer.
use Rattle.std.specs.Prelude.{List, [], ◌∷◌, ◌++◌, map, ℕ, ◌+◌, ◌%◌, ◌/◌, ltb}
use Rattle.protocol.specs.Scripts.{Script, finish, reset, done, Byte, own}
use Rattle.protocol.specs.Chipset.{get_firmware_version_of, set_parameters_of, rf_configuration_of, rf_field_off_of, write_register_of}
use Rattle.protocol.specs.Rules.{version_bytes}
use Rattle.protocol.specs.Arguments.{word}
use Rattle.protocol.specs.Names.{rf_cfg_ram07, timeouts_item, timeouts, max_rty_com_item, max_rty_com, max_retries_item, max_retries, analog106a_item, analog106a, opening_parameters, opening_rf_cfg}
use Rattle.errors.specs.Choice.{pick}

-- a byte in lower-case hex, unpadded
unfoldable pub hex_digit_of : ℕ → ℕ
hex_digit_of n = pick (ltb n 10) (0x30 + n) (0x57 + n)

unfoldable pub hex : ℕ → List ℕ
hex b = pick (ltb b 16) (hex_digit_of b ∷ []) (hex_digit_of (b / 16) ∷ hex_digit_of (b % 16) ∷ [])

-- `RCS956v`
abbrev pub name_prefix : List ℕ
name_prefix = 0x52 ∷ 0x43 ∷ 0x53 ∷ 0x39 ∷ 0x35 ∷ 0x36 ∷ 0x76 ∷ []

-- version, a dot, revision
unfoldable pub dotted : ℕ → ℕ → List ℕ
dotted ver rev = hex ver ++ (0x2E ∷ hex rev)

abbrev pub name_bytes : ℕ → ℕ → List ℕ
name_bytes ver rev = name_prefix ++ dotted ver rev

abbrev pub chipset_name : ℕ → ℕ → List Byte
chipset_name ver rev = map own (name_bytes ver rev)

-- ten commands; the version is command 1, behind the first reset
abbrev pub device_new : Script
device_new =
    reset
    (get_firmware_version_of (λ ic ver rev. rf_field_off_of
    (rf_configuration_of timeouts_item timeouts
    (rf_configuration_of max_rty_com_item max_rty_com
    (rf_configuration_of max_retries_item max_retries
    (rf_configuration_of analog106a_item analog106a
    (set_parameters_of opening_parameters
    (reset
    (write_register_of (word rf_cfg_ram07 ++ (opening_rf_cfg ∷ []))
    (finish (done (version_bytes 1 ic ver rev ++ chipset_name ver rev))))))))))))
