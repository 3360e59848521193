-- The opening: what is decided at each of its stages is what its script has.
use Rattle.std.specs.Prelude.{◌≡◌, Bool, true, false, List, [], ◌∷◌, ◌++◌, map, ℕ, ◌+◌, ◌/◌, ◌%◌, ◌≤◌, eqb, ltb, length, get_or}
use Rattle.std.proofs.Math.Path.{refl}
use Rattle.std.proofs.Common.{ap, arith, eqb-true, length-append}
use Rattle.errors.specs.Choice.{pick}
use Rattle.errors.specs.declared.Fault.{Fault}
use Rattle.errors.specs.declared.Fault.TheVariants.{Status}
use Rattle.protocol.specs.Scripts.{own, value, Script, finish, reset, either, refuse, done, refused}
use Rattle.protocol.specs.Rules.{version_bytes, any_nonzero_of}
use Rattle.protocol.specs.Chipset.{get_firmware_version_of, rf_field_off_of, rf_configuration_of, set_parameters_of, write_register_of}
use Rattle.protocol.specs.Arguments.{word}
use Rattle.protocol.specs.Device.{device_new, chipset_name, hex_digit_of, hex, dotted, name_bytes}
use Rattle.stages.specs.Stages.{send, ends}
use Rattle.chipset.specs.Responses.{found_written_of}
use Rattle.device.specs.Names.{opened_bytes}
use Rattle.device.specs.Opening.{opening_command, settings_command, is_reset_stage, version_kept, opening_decision}
use Rattle.stages.specs.Decided.{found_limit}
use Rattle.calls.specs.Tables.{command_of, is_reset_of, decided_of, failed_of}
use Rattle.calls.specs.Refines.{Refines, refines_reset, refines_keep, Awaits, refines_if, ending, refusal, by_length, go_on}
use Rattle.protocol.specs.Names.{command_clock, register_write_failed, registers_clock, rf_cfg_ram07, timeouts_item, timeouts, max_rty_com_item, max_rty_com, max_retries_item, max_retries, analog106a_item, analog106a, opening_parameters, opening_rf_cfg, version_need}
use Rattle.protocol.specs.Calls.{get_firmware_version_code, rf_configuration_code, set_parameters_code, write_register_code}
use Rattle.chipset.specs.Kinds.{reset_mode_kind}
use Rattle.device.specs.Kinds.{opening_kind, reset_stage, version_stage, field_off_stage, timeouts_stage, max_rty_com_stage, max_retries_stage, analog_stage, parameters_stage, reset_again_stage, rf_cfg_stage}

-- ---- the answer

own_values : (l : List ℕ) → map value (map own l) ≡ l
own_values [] = refl
own_values (b ∷ l) = ap (λ r. b ∷ r) (own_values l)

opened-same : (a b c : ℕ) → map value (version_bytes 1 a b c ++ chipset_name b c) ≡ opened_bytes a b c
opened-same a b c = ap (λ l. a ∷ b ∷ c ∷ l) (own_values (name_bytes b c))

hex_few : (n : ℕ) → length (hex n) ≤ 2
unfolding hex pick
hex_few n = go (ltb n 16)
  where
    go : (t : Bool) → length (pick t (hex_digit_of n ∷ []) (hex_digit_of (n / 16) ∷ hex_digit_of (n % 16) ∷ [])) ≤ 2
    go true = omega arith
    go false = omega arith

opened_few : (a b c : ℕ) → length (opened_bytes a b c) ≤ found_limit
unfolding dotted
opened_few a b c = omega (arith, length-append (hex b) (0x2E ∷ hex c), hex_few b, hex_few c)

-- ---- the scripts left, by the version bytes

module _ (a b c : ℕ) where
  abbrev s9 : Script
  s9 = write_register_of (word rf_cfg_ram07 ++ (opening_rf_cfg ∷ [])) (finish (done (version_bytes 1 a b c ++ chipset_name b c)))

  abbrev s7 : Script
  s7 = set_parameters_of opening_parameters (reset s9)

  abbrev s6 : Script
  s6 = rf_configuration_of analog106a_item analog106a s7

  abbrev s5 : Script
  s5 = rf_configuration_of max_retries_item max_retries s6

  abbrev s4 : Script
  s4 = rf_configuration_of max_rty_com_item max_rty_com s5

  abbrev s3 : Script
  s3 = rf_configuration_of timeouts_item timeouts s4

-- ---- a line for each stage

module _ (pending : List ℕ) where
  module _ (a b c : ℕ) where
    abbrev answer : List ℕ
    answer = opened_bytes a b c

    -- a command whose response is not looked at
    passed : (n : ℕ) (s : Script) → ((cs : List ℕ) → decided_of opening_kind n 0 pending answer cs ≡ send (n + 1)) → ((r : Fault) → failed_of opening_kind n 0 pending answer r ≡ ends (refused r))
        → Refines opening_kind 0 pending answer (send (n + 1)) s → Awaits opening_kind n 0 pending answer (either (λ _. s) refuse)
    passed n s h k l = record { answered = λ cs _. rw (h cs) l; failing = λ r. rw (k r) (refusal r) }

    stage-9 : Refines opening_kind 0 pending answer (send rf_cfg_stage) (s9 a b c)
    unfolding command_of is_reset_of decided_of failed_of opening_command settings_command is_reset_stage opening_decision found_written_of pick
    stage-9 =
        go_on rf_cfg_stage write_register_code registers_clock _ refl refl refl
        record {
          answered = λ cs _. refines_if (any_nonzero_of cs) (λ _. refusal (Status register_write_failed)) (λ _. ending _ (ap done (opened-same a b c)));
          failing = λ r. refusal r;
        }

    stage-8 : Refines opening_kind 0 pending answer (send reset_again_stage) (reset (s9 a b c))
    unfolding command_of is_reset_of decided_of opening_command settings_command is_reset_stage opening_decision pick
    stage-8 = refines_reset reset_again_stage _ refl refl refl stage-9

    stage-7 : Refines opening_kind 0 pending answer (send parameters_stage) (s7 a b c)
    unfolding command_of is_reset_of decided_of failed_of opening_command settings_command is_reset_stage opening_decision pick
    stage-7 = go_on parameters_stage set_parameters_code command_clock _ refl refl refl (passed parameters_stage _ (λ _. refl) (λ _. refl) stage-8)

    stage-6 : Refines opening_kind 0 pending answer (send analog_stage) (s6 a b c)
    unfolding command_of is_reset_of decided_of failed_of opening_command settings_command is_reset_stage opening_decision pick
    stage-6 = go_on analog_stage rf_configuration_code command_clock _ refl refl refl (passed analog_stage _ (λ _. refl) (λ _. refl) stage-7)

    stage-5 : Refines opening_kind 0 pending answer (send max_retries_stage) (s5 a b c)
    unfolding command_of is_reset_of decided_of failed_of opening_command settings_command is_reset_stage opening_decision pick
    stage-5 = go_on max_retries_stage rf_configuration_code command_clock _ refl refl refl (passed max_retries_stage _ (λ _. refl) (λ _. refl) stage-6)

    stage-4 : Refines opening_kind 0 pending answer (send max_rty_com_stage) (s4 a b c)
    unfolding command_of is_reset_of decided_of failed_of opening_command is_reset_stage opening_decision pick
    stage-4 = go_on max_rty_com_stage rf_configuration_code command_clock _ refl refl refl (passed max_rty_com_stage _ (λ _. refl) (λ _. refl) stage-5)

    stage-3 : Refines opening_kind 0 pending answer (send timeouts_stage) (s3 a b c)
    unfolding command_of is_reset_of decided_of failed_of opening_command is_reset_stage opening_decision pick
    stage-3 = go_on timeouts_stage rf_configuration_code command_clock _ refl refl refl (passed timeouts_stage _ (λ _. refl) (λ _. refl) stage-4)

    stage-2 : Refines opening_kind 0 pending answer (send field_off_stage) (rf_field_off_of (s3 a b c))
    unfolding command_of is_reset_of decided_of failed_of opening_command is_reset_stage opening_decision pick
    stage-2 = go_on field_off_stage rf_configuration_code command_clock _ refl refl refl (passed field_off_stage _ (λ _. refl) (λ _. refl) stage-3)

  stage-1 : (found : List ℕ) → Refines opening_kind 0 pending found (send version_stage) (get_firmware_version_of (λ a b c. rf_field_off_of (s3 a b c)))
  unfolding command_of is_reset_of decided_of failed_of opening_command is_reset_stage opening_decision version_kept pick
  stage-1 found =
      go_on version_stage get_firmware_version_code command_clock _ refl refl refl
      record {
        answered = λ cs _.
            by_length cs version_need (λ _. refines_keep field_off_stage _ _ (opened_few (get_or cs 0 0) (get_or cs 1 0) (get_or cs 2 0)) (stage-2 (get_or cs 0 0) (get_or cs 1 0) (get_or cs 2 0)));
        failing = λ r. refusal r;
      }

  -- `Device::new`
  pub opening_script_refines : (found : List ℕ) → Refines opening_kind 0 pending found (send reset_stage) device_new
  unfolding command_of is_reset_of decided_of opening_command is_reset_stage opening_decision pick
  opening_script_refines found = refines_reset reset_stage _ refl refl refl (stage-1 found)

-- ---- a failed write of ACK refuses

pub opening_fails : (kind stage cursor : ℕ) (pending found : List ℕ) (r : Fault) → eqb kind opening_kind ≡ true → failed_of kind stage cursor pending found r ≡ ends (refused r)
unfolding failed_of pick
opening_fails kind stage cursor pending found r h = rw (eqb-true kind opening_kind h)

pub reset_fails : (kind stage cursor : ℕ) (pending found : List ℕ) (r : Fault) → is_reset_of kind stage ≡ true → failed_of kind stage cursor pending found r ≡ ends (refused r)
unfolding is_reset_of failed_of pick
reset_fails kind stage cursor pending found r = go (eqb kind opening_kind) refl
  where
    go : (t : Bool) → eqb kind opening_kind ≡ t → pick t (is_reset_stage stage) (eqb kind reset_mode_kind) ≡ true → failed_of kind stage cursor pending found r ≡ ends (refused r)
    go true e h = opening_fails kind stage cursor pending found r e
    go false e h = rw (eqb-true kind reset_mode_kind h)
