-- Each discovery: what is decided at each of its stages is what its script has.
use Rattle.std.proofs.Math.Path.{refl}
use Rattle.std.proofs.Common.{ap, arith, length-drop}
use Rattle.std.specs.Prelude.{◌||◌, true, List, [], ◌∷◌, ◌++◌, ℕ, ◌/◌, ◌%◌, ◌+◌, eqb, ltb, length, take, drop, get_or}
use Rattle.errors.specs.Choice.{pick}
use Rattle.errors.specs.declared.Fault.TheVariants.{Status, ShortResponse, NoCard}
use Rattle.exchange.specs.Packets.{Reply}
use Rattle.protocol.specs.Scripts.{own, done, nothing, refused, Script, finish, command, field_pause, either, refuse, if_else, rest}
use Rattle.protocol.specs.Rules.{any_nonzero_of, status_byte}
use Rattle.protocol.specs.Arguments.{jump_data, word, shortest_atr_req, nfcid3_size, active_byte, nfcid3_offset}
use Rattle.protocol.specs.Discovery.{detect_type_b_of, detect_type_f_of, detect_dep_of, wake_up, found_b, poll, no_partner_of as no_partner_script}
use Rattle.stages.specs.Stages.{send}
use Rattle.chipset.specs.Responses.{found_written_of}
use Rattle.discovery.specs.Decisions.{type_b_command, iso_dep_of, listed_b_of, woken_up, type_b_decision, type_b_failure, type_f_command, tx_control_read, polled, type_f_decision, dep_command, no_partner_of, jumped_to, dep_decision, jump_failure, dep_failure}
use Rattle.calls.specs.Tables.{command_of, is_reset_of, decided_of, failed_of}
use Rattle.calls.specs.Refines.{Refines, refines_keep, refines_put, refines_pause, Awaits, refines_if, refines_status, ending, none_found, refusal, by_length, go_on}
use Rattle.protocol.specs.Values.{rest-values}
use Rattle.protocol.specs.Names.{ciu_mode, command_clock, in_jump_for_dep_clock, in_list_passive_target_clock, register_write_failed, registers_clock, rf_not_activated, timeout_status, type_b_clock, listed_idm_offset, pmm_end, protocol_offset, wupb_code, wupb_parameter, no_detect_sync, atr_res_cmd0, atr_res_cmd1, one_target, tx_rf_en}
use Rattle.protocol.specs.Calls.{in_communicate_thru_code, in_jump_for_dep_code, in_list_passive_target_code, read_register_code, rf_configuration_code, write_register_code}
use Rattle.discovery.specs.Kinds.{type_b_kind, type_f_kind, dep_kind, list_stage, deselect_stage, wake_up_stage, field_stage, rf_on_stage, poll_stage, dep_timeouts_stage, jump_stage, write_mode_stage}

-- ---- Type B

module _ (afi : ℕ) where
  abbrev wakes : List ℕ
  wakes = wupb_code ∷ afi ∷ wupb_parameter ∷ []

  typeB-2 : (found : List ℕ)
      → Awaits type_b_kind wake_up_stage 0 wakes found (either (λ bs. if_else (eqb (status_byte bs) 0) (finish (done (rest 2 bs 1))) (finish nothing)) (λ _. finish nothing))
  unfolding decided_of failed_of type_b_decision woken_up type_b_failure pick
  typeB-2 found = record {
    answered = λ cs few. refines_if (eqb (status_byte cs) 0) (λ _. ending _ (ap done (rest-values 2 cs 1))) (λ _. none_found);
    failing = λ r. none_found;
  }

  typeB-1 : (found : List ℕ) → Awaits type_b_kind deselect_stage 0 wakes found (λ _. wake_up afi)
  unfolding decided_of failed_of type_b_decision type_b_failure command_of is_reset_of type_b_command pick
  typeB-1 found = record {
    answered = λ cs few. go_on wake_up_stage in_communicate_thru_code type_b_clock _ refl refl refl (typeB-2 found);
    failing = λ r. go_on wake_up_stage in_communicate_thru_code type_b_clock _ refl refl refl (typeB-2 found);
  }

  typeB-0 : (code : ℕ) (found : List ℕ)
      → Awaits type_b_kind list_stage 0 (one_target ∷ code ∷ afi ∷ []) found (either (λ list. if_else (eqb (get_or list 0 0) 0) (finish nothing) (if_else (ltb (length list) 2) (refuse ShortResponse) (found_b afi list))) refuse)
  unfolding decided_of failed_of type_b_decision type_b_failure listed_b_of iso_dep_of command_of is_reset_of type_b_command pick
  typeB-0 code found = record {
    answered = λ cs few.
        refines_if (eqb (get_or cs 0 0) 0) (λ _. none_found)
        (λ _. by_length cs 2
        (λ _. refines_if (ltb (length cs) (protocol_offset + 1)) (λ _. none_found)
        (λ _. refines_if (eqb (get_or cs protocol_offset 0 % 2) 1)
        (λ _. refines_if (eqb (get_or cs protocol_offset 0 / 8 % 2) 0)
        (λ _. refines_put deselect_stage _ _ (omega arith) (go_on deselect_stage in_communicate_thru_code type_b_clock _ refl refl refl (typeB-1 found))) (λ _. none_found))
        (λ _. none_found))));
    failing = λ r. refusal r;
  }

-- ---- Type F

module _ (code : ℕ) (req : List ℕ) where
  -- the poll is command j of the call
  typeF-2 : (j : ℕ) (found : List ℕ)
      → Awaits type_f_kind poll_stage 0 (one_target ∷ code ∷ req) found (either (λ list. if_else (eqb (get_or list 0 0) 0) (refuse NoCard) (if_else (ltb (length list) 2) (refuse ShortResponse) (if_else (ltb (length list) pmm_end) (refuse ShortResponse) (finish (done (rest j list listed_idm_offset)))))) refuse)
  unfolding decided_of failed_of type_f_decision polled pick
  typeF-2 j found = record {
    answered = λ cs few.
        refines_if (eqb (get_or cs 0 0) 0) (λ _. refusal NoCard)
        (λ _. by_length cs 2 (λ _. by_length cs pmm_end (λ _. ending _ (ap done (rest-values j cs listed_idm_offset)))));
    failing = λ r. refusal r;
  }

  typeF-1 : (found : List ℕ) → Awaits type_f_kind rf_on_stage 0 (one_target ∷ code ∷ req) found (either (λ _. field_pause (poll 2 code req)) refuse)
  unfolding decided_of failed_of type_f_decision command_of is_reset_of type_f_command pick
  typeF-1 found = record {
    answered = λ cs few. refines_pause poll_stage _ refl (go_on poll_stage in_list_passive_target_code in_list_passive_target_clock _ refl refl refl (typeF-2 2 found));
    failing = λ r. refusal r;
  }

  typeF-0 : (found : List ℕ)
      → Awaits type_f_kind field_stage 0 (one_target ∷ code ∷ req) found (either (λ bs. if_else (ltb (length bs) 1) (refuse ShortResponse) (if_else (eqb (get_or bs 0 0 % tx_rf_en) 0) (command rf_configuration_code command_clock (0x01 ∷ 0x01 ∷ []) (either (λ _. field_pause (poll 2 code req)) refuse)) (poll 1 code req))) refuse)
  unfolding decided_of failed_of type_f_decision tx_control_read command_of is_reset_of type_f_command pick
  typeF-0 found = record {
    answered = λ cs few.
        by_length cs 1
        (λ _. refines_if (eqb (get_or cs 0 0 % tx_rf_en) 0) (λ _. go_on rf_on_stage rf_configuration_code command_clock _ refl refl refl (typeF-1 found)) (λ _. go_on poll_stage in_list_passive_target_code in_list_passive_target_clock _ refl refl refl (typeF-2 1 found)));
    failing = λ r. refusal r;
  }

-- ---- DEP

abbrev mode_written : List ℕ → Reply → Script
mode_written list = either (λ bs. if_else (any_nonzero_of bs) (refuse (Status register_write_failed)) (finish (done (own atr_res_cmd0 ∷ own atr_res_cmd1 ∷ rest 1 list 2)))) refuse

dep_2 : (pending list : List ℕ) → Awaits dep_kind write_mode_stage 0 pending (atr_res_cmd0 ∷ atr_res_cmd1 ∷ drop 2 list) (mode_written list)
unfolding decided_of failed_of dep_decision found_written_of dep_failure pick
dep_2 pending list = record {
  answered = λ cs few.
      refines_if (any_nonzero_of cs) (λ _. refusal (Status register_write_failed)) (λ _. ending _ (ap (λ l. done (atr_res_cmd0 ∷ atr_res_cmd1 ∷ l)) (rest-values 1 list 2)));
  failing = λ r. refusal r;
}

dep_1 : (pending found : List ℕ)
    → Awaits dep_kind jump_stage 0 pending found (either (λ bs. if_else (eqb (status_byte bs) 0) (if_else (ltb (length bs) 2) (refuse ShortResponse) (command write_register_code registers_clock (word ciu_mode ++ (no_detect_sync ∷ [])) (mode_written bs))) (no_partner_script (Status (status_byte bs)))) no_partner_script)
unfolding decided_of failed_of dep_decision jumped_to dep_failure jump_failure no_partner_of command_of is_reset_of dep_command pick
dep_1 pending found = record {
  answered = λ cs few.
      refines_if (eqb (status_byte cs) 0) (λ _. by_length cs 2 (λ _. refines_keep write_mode_stage _ _ (omega (arith, length-drop 2 cs)) (go_on write_mode_stage write_register_code registers_clock _ refl refl refl (dep_2 pending cs))))
      (λ _. refines_if (eqb (status_byte cs) timeout_status || eqb (status_byte cs) rf_not_activated) (λ _. none_found) (λ _. refusal (Status (status_byte cs))));
  failing = λ r. refines_status r (λ k e. refines_if (eqb k timeout_status || eqb k rf_not_activated) (λ _. none_found) (λ _. ending (refused r) (ap refused e))) (refusal r);
}

dep_0 : (code : ℕ) (nfcid3 gi found : List ℕ)
    → Awaits dep_kind dep_timeouts_stage 0 (jump_data (active_byte true) code [] nfcid3 gi) found (either (λ _. command in_jump_for_dep_code in_jump_for_dep_clock (jump_data (active_byte true) code [] nfcid3 gi) (either (λ bs. if_else (eqb (status_byte bs) 0) (if_else (ltb (length bs) 2) (refuse ShortResponse) (command write_register_code registers_clock (word ciu_mode ++ (no_detect_sync ∷ [])) (mode_written bs))) (no_partner_script (Status (status_byte bs)))) no_partner_script)) refuse)
unfolding decided_of failed_of dep_decision dep_failure command_of is_reset_of dep_command pick
dep_0 code nfcid3 gi found = record {
  answered = λ cs few. go_on jump_stage in_jump_for_dep_code in_jump_for_dep_clock _ refl refl refl (dep_1 (jump_data (active_byte true) code [] nfcid3 gi) found);
  failing = λ r. refusal r;
}

-- ---- each from its first command on

pub type_b_refines : (code afi : ℕ) (found : List ℕ) → Refines type_b_kind 0 (one_target ∷ code ∷ afi ∷ []) found (send list_stage) (detect_type_b_of code afi)
unfolding command_of is_reset_of type_b_command pick
type_b_refines code afi found = go_on list_stage in_list_passive_target_code in_list_passive_target_clock _ refl refl refl (typeB-0 afi code found)

pub type_f_refines : (code : ℕ) (req found : List ℕ) → Refines type_f_kind 0 (one_target ∷ code ∷ req) found (send field_stage) (detect_type_f_of code req)
unfolding command_of is_reset_of type_f_command pick
type_f_refines code req found = go_on field_stage read_register_code registers_clock _ refl refl refl (typeF-0 code req found)

pub dep_refines : (code : ℕ) (req found : List ℕ)
    → Refines dep_kind 0 (jump_data (active_byte true) code [] (take nfcid3_size (drop nfcid3_offset req)) (drop shortest_atr_req req)) found (send dep_timeouts_stage) (detect_dep_of code req)
unfolding command_of is_reset_of dep_command pick
dep_refines code req found = go_on dep_timeouts_stage rf_configuration_code command_clock _ refl refl refl (dep_0 code (take nfcid3_size (drop nfcid3_offset req)) (drop shortest_atr_req req) found)
