-- Each line of a run is read as the run's entry.
use Rattle.std.specs.Prelude.{◌≡◌, refl, Bool, true, false, cond, List, [], ◌∷◌, ◌++◌, map, ℕ, zero, suc, ◌+◌, eqb, drop}
use Rattle.std.proofs.Common.{sym, ap, ap₂, ◌∙◌, append-nil}
use Rattle.std.proofs.Math.Option.{Option, none, some}
use Rattle.errors.specs.Choice.{pick, same, in_range}
use Rattle.framing.specs.Frames.{ack}
use Rattle.exchange.specs.Exchange.{Event, pkt}
use Rattle.protocol.specs.Calls.{is_opening}
use Rattle.protocol.specs.Session.{Entry, call, event, buffer_need}
use Rattle.protocol.specs.Runs.{call_entries}
use Rattle.protocol.specs.Sample.{formats}
use Rattle.calls.specs.Numbers.{call_of}
use Rattle.engine.specs.Numbers.{event_by_of}
use Rattle.bench.specs.Hex.{value_of, all_hex_digits, is_hex_of, pairs_of, digit_of, digits_of_lem, hex_of}
use Rattle.bench.specs.Texts.{decimal_of}
use Rattle.bench.specs.WordLaws.{words_behind_lem}
use Rattle.bench.specs.Words.{ahead, words_of_lem}
use Rattle.bench.specs.Numbers.{digit_value_of, all_decimal, number_from, is_number}
use Rattle.bench_input.specs.Arguments.{hex_arg, whole_arg, pairs_arg, byte_arg, flag_arg, word_arg, ms_arg, text_arg, is_none, hex_or_none, present_arg, name_arg, wait_arg}
use Rattle.bench_input.specs.Letters.{number_arg, string_arg, argument, arguments_of}
use Rattle.bench_input.specs.Table.{table, is_for_of, row_for, said, input_of}
use Rattle.slowest_call.specs.Question.{roomy, entries_of, with_acks, events_of}
use Rattle.slowest_call.specs.Kinds.{Kind, opening_kind, version_kind, reset_mode_kind, set_parameters_kind, rf_configuration_kind, read_register_kind, write_register_kind, read_single_register_kind, write_single_register_kind, in_list_passive_target_kind, in_data_exchange_kind, in_communicate_thru_kind, in_jump_for_dep_kind, tg_init_target_kind, tg_set_general_bytes_kind, tg_get_initiator_command_kind, tg_response_to_initiator_kind, tg_get_target_status_kind, rf_field_off_kind, detect_type_a_kind, detect_type_b_kind, detect_type_f_kind, detect_dep_kind, transceive_kind, detect_type_a_split_kind, read_without_encryption_kind, write_without_encryption_kind}
use Rattle.slowest_call.specs.Kinds.{most, slowest, start, leading, leading_events}
use Rattle.slowest_call.specs.Texts.{event_line, call_line, start_lines, run_lines, script_lines, joined_behind, joined, script_text}
use Rattle.slowest_call.proofs.Theorem.{slowest-run}
use Rattle.slowest_call.specs.Readings.{entry_of, head_or, words_behind_line, words_of_lines, PrintedRun}

unfoldable reading : Unit {0}
unfolding formats pick same in_range value_of all_hex_digits is_hex_of pairs_of digit_of digits_of_lem hex_of ahead words_of_lem digit_value_of all_decimal number_from is_number hex_arg whole_arg pairs_arg byte_arg flag_arg word_arg ms_arg text_arg is_none hex_or_none present_arg name_arg wait_arg number_arg string_arg argument arguments_of table is_for_of row_for said input_of event_by_of call_of
reading = tt

ack_read : entry_of (event_line (pkt ack)) ≡ some (event (pkt ack) buffer_need)
unfolding reading
ack_read = refl

-- what each kind's lines are read as
record Readings : Type 0 where
  call : Option Entry
  before : List (Option Entry)
  behind : List (Option Entry)

abbrev readings : Kind → Readings
readings k = record { call = entry_of (call_line k); before = map entry_of (map event_line (slowest k).before); behind = map entry_of (map event_line (slowest k).behind) }

kind_read : (k : Kind)
    → readings k ≡ record { call = some (call 0 (slowest k).call buffer_need); before = map some (entries_of (slowest k).before); behind = map some (entries_of (slowest k).behind) }
unfolding reading
kind_read opening_kind = refl
kind_read version_kind = refl
kind_read reset_mode_kind = refl
kind_read set_parameters_kind = refl
kind_read rf_configuration_kind = refl
kind_read read_register_kind = refl
kind_read write_register_kind = refl
kind_read read_single_register_kind = refl
kind_read write_single_register_kind = refl
kind_read in_list_passive_target_kind = refl
kind_read in_data_exchange_kind = refl
kind_read in_communicate_thru_kind = refl
kind_read in_jump_for_dep_kind = refl
kind_read tg_init_target_kind = refl
kind_read tg_set_general_bytes_kind = refl
kind_read tg_get_initiator_command_kind = refl
kind_read tg_response_to_initiator_kind = refl
kind_read tg_get_target_status_kind = refl
kind_read rf_field_off_kind = refl
kind_read detect_type_a_kind = refl
kind_read detect_type_b_kind = refl
kind_read detect_type_f_kind = refl
kind_read detect_dep_kind = refl
kind_read transceive_kind = refl
kind_read detect_type_a_split_kind = refl
kind_read read_without_encryption_kind = refl
kind_read write_without_encryption_kind = refl

lead_read : map entry_of (call_line opening_kind ∷ map event_line leading_events) ≡ map some leading
unfolding reading
lead_read = refl

-- ---- a whole script

acks_read : (extra : ℕ) (es : List Event) → map entry_of (map event_line es) ≡ map some (entries_of es)
    → map entry_of (map event_line (with_acks extra es)) ≡ map some (entries_of (with_acks extra es))
acks_read zero es h = h
acks_read (suc extra) es h = ap₂ (λ (x : Option Entry) (xs : List (Option Entry)). x ∷ xs) ack_read (acks_read extra es h)

both_read : (es ds : List Event) → map entry_of (map event_line es) ≡ map some (entries_of es) → map entry_of (map event_line ds) ≡ map some (entries_of ds)
    → map entry_of (map event_line (es ++ ds)) ≡ map some (entries_of (es ++ ds))
both_read [] ds h k = k
both_read (e ∷ es) ds h k = ap₂ (λ (x : Option Entry) (xs : List (Option Entry)). x ∷ xs) (ap (head_or none) h) (both_read es ds (ap (drop 1) h) k)

-- each line is read as the entry of the run
pub run_read : (k : Kind) (extra : ℕ) → map entry_of (run_lines k extra) ≡ map some (call_entries 0 (slowest k).call buffer_need (roomy (events_of (slowest k) extra)))
run_read k extra =
    ap₂ (λ (x : Option Entry) (xs : List (Option Entry)). x ∷ xs) (ap (λ r. r.call) (kind_read k))
    (both_read (slowest k).before (with_acks extra (slowest k).behind) (ap (λ r. r.before) (kind_read k)) (acks_read extra (slowest k).behind (ap (λ r. r.behind) (kind_read k))))

pub start_read : (k : Kind) → map entry_of (start_lines k) ≡ map some (start k)
start_read k = go (is_opening (slowest k).call)
  where
    go : (t : Bool) → map entry_of (cond t [] (call_line opening_kind ∷ map event_line leading_events)) ≡ map some (cond t [] leading)
    go true = refl
    go false = lead_read

words_append : (a b : List ℕ) → words_of_lem (a ++ (32 ∷ b)) ≡ words_of_lem a ++ words_of_lem b
unfolding words_of_lem pick ahead
words_append [] b = refl
words_append (c ∷ a) b = go (eqb c 32) (words_append a b)
  where
    go : (t : Bool) → words_of_lem (a ++ (32 ∷ b)) ≡ words_of_lem a ++ words_of_lem b
        → pick t ([] ∷ words_of_lem (a ++ (32 ∷ b))) (ahead c (words_of_lem (a ++ (32 ∷ b)))) ≡ pick t ([] ∷ words_of_lem a) (ahead c (words_of_lem a)) ++ words_of_lem b
    go true e = ap (λ x. [] ∷ x) e
    go false e = ap (ahead c) e ∙ rw (words_behind_lem a)

one_semicolon : words_of_lem (59 ∷ []) ≡ (59 ∷ []) ∷ []
unfolding words_of_lem pick ahead
one_semicolon = refl

words_joined : (l : List ℕ) (ls : List (List ℕ)) → words_of_lem (l ++ joined_behind ls) ≡ words_of_lem l ++ words_behind_line ls
unfolding joined_behind words_behind_line
words_joined l [] = ap words_of_lem (append-nil l) ∙ sym (append-nil (words_of_lem l))
words_joined l (m ∷ ls) =
    words_append l (59 ∷ 32 ∷ (m ++ joined_behind ls))
    ∙ ap (λ x. words_of_lem l ++ x) (words_append (59 ∷ []) (m ++ joined_behind ls) ∙ ap₂ (λ (x y : List (List ℕ)). x ++ y) one_semicolon (words_joined m ls))

lines_words : (ls : List (List ℕ)) → words_of_lem (joined ls) ≡ words_of_lines ls
unfolding joined words_of_lines
lines_words [] = refl
lines_words (l ∷ ls) = words_joined l ls

pub printed-run : (k : Kind) (idle : ℕ) → PrintedRun k idle
unfolding script_text
printed-run k idle = record {
  words = words_append (decimal_of (most k + idle)) (joined (script_lines k idle))
      ∙ ap₂ (λ (x y : List (List ℕ)). x ++ y) (ap (λ n. words_of_lem (decimal_of n)) (sym (slowest-run k idle).run.length)) (lines_words (script_lines k idle));
  start = start_read k;
  run = run_read k idle;
}
