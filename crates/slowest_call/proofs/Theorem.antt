-- The slowest call (document 02, N13): for every kind and any number of idle reads a run, that none of its kind with as many is longer, and its
-- length.
use Rattle.std.specs.Prelude.{◌≡◌, refl, Bool, true, false, cond, [], ℕ, ◌+◌}
use Rattle.std.proofs.Common.{sym, ap, subst, arith}
use Rattle.std.proofs.Math.Option.{Option, some}
use Rattle.protocol.specs.Calls.{is_opening}
use Rattle.protocol.specs.Session.{fresh, outputs, session_after}
use Rattle.protocol.specs.PollList.{refusals_in}
use Rattle.slowest_call.specs.Question.{IsRun}
use Rattle.slowest_call.specs.Runs.{SlowFacts, slow_facts, slow_by}
use Rattle.slowest_call.proofs.Runs.{is_run}
use Rattle.slowest_call.specs.Kinds.{Kind, opening_kind, version_kind, reset_mode_kind, set_parameters_kind, rf_configuration_kind, read_register_kind, write_register_kind, read_single_register_kind, write_single_register_kind, in_list_passive_target_kind, in_data_exchange_kind, in_communicate_thru_kind, in_jump_for_dep_kind, tg_init_target_kind, tg_set_general_bytes_kind, tg_get_initiator_command_kind, tg_response_to_initiator_kind, tg_get_target_status_kind, rf_field_off_kind, detect_type_a_kind, detect_type_b_kind, detect_type_f_kind, detect_dep_kind, transceive_kind, detect_type_a_split_kind, read_without_encryption_kind, write_without_encryption_kind}
use Rattle.slowest_call.specs.Kinds.{kind_of, most, leading, opened, start, slowest}
use Rattle.slowest_call.specs.Weights.{none_of_kind}
use Rattle.protocol.specs.Sample.{formats}
use Rattle.errors.specs.Choice.{same, in_range}
use Rattle.targets.specs.Form.{all_digits}
use Rattle.targets.specs.Bitrates.{is_rate, send_length, is_bitrate, send_part_of, code_of, choice_of}
use Rattle.felica.specs.Packets.{packet, block_list, request, request_fits, write_fits_of}
use Rattle.slowest_call.specs.Theorem.{from, SlowestRun}

leads : session_after fresh leading ≡ opened
unfolding formats
leads = refl

none_refused : refusals_in (outputs fresh leading) [] ≡ []
unfolding formats
none_refused = refl

-- what is computed of each: its facts, and the kind of its call
record KindFacts : Type 0 where
  slow : SlowFacts
  kind : Option Kind

abbrev kind_facts : Kind → KindFacts
kind_facts k = record { slow = slow_facts (from k) (slowest k); kind = kind_of (slowest k).call }

computed : (k : Kind) → kind_facts k ≡ record { slow = slow_by (most k); kind = some k }
unfolding formats in_range all_digits is_rate send_length is_bitrate send_part_of code_of choice_of same packet block_list request request_fits write_fits_of
computed opening_kind = refl
computed version_kind = refl
computed reset_mode_kind = refl
computed set_parameters_kind = refl
computed rf_configuration_kind = refl
computed read_register_kind = refl
computed write_register_kind = refl
computed read_single_register_kind = refl
computed write_single_register_kind = refl
computed in_list_passive_target_kind = refl
computed in_data_exchange_kind = refl
computed in_communicate_thru_kind = refl
computed in_jump_for_dep_kind = refl
computed tg_init_target_kind = refl
computed tg_set_general_bytes_kind = refl
computed tg_get_initiator_command_kind = refl
computed tg_response_to_initiator_kind = refl
computed tg_get_target_status_kind = refl
computed rf_field_off_kind = refl
computed detect_type_a_kind = refl
computed detect_type_b_kind = refl
computed detect_type_f_kind = refl
computed detect_dep_kind = refl
computed transceive_kind = refl
computed detect_type_a_split_kind = refl
computed read_without_encryption_kind = refl
computed write_without_encryption_kind = refl

starts_so : (t : Bool) → session_after fresh (cond t [] leading) ≡ cond t fresh opened
starts_so true = refl
starts_so false = leads

none_first : (t : Bool) → refusals_in (outputs fresh (cond t [] leading)) [] ≡ []
none_first true = refl
none_first false = none_refused

pub slowest-run : (k : Kind) (idle : ℕ) → SlowestRun k idle
slowest-run k idle =
    let r : IsRun (session_after fresh (start k)) (slowest k) idle (most k + idle) =
    subst (λ s. IsRun s (slowest k) idle (most k + idle)) (sym (starts_so (is_opening (slowest k).call))) (is_run (from k) (slowest k) (most k) idle (ap (λ f. f.slow) (computed k))) in
    record {
      started = none_first (is_opening (slowest k).call);
      kind = ap (λ f. f.kind) (computed k);
      run = r;
      longest = λ c e s caller room es a i. omega (arith, none_of_kind k c e s caller room es a, i, r.length);
    }
