-- The runs as lines of the bench program `session`, and what the program `slowest` prints for a line.
use Rattle.std.specs.Prelude.{cond, List, [], ◌∷◌, ◌++◌, map, ℕ, ◌+◌, eqb, ltb, length, get_or, take}
use Rattle.std.specs.Prelude.{Option, None, Some}
use Rattle.errors.specs.Choice.{pick, same}
use Rattle.errors.specs.Refusals.{answered, refused, numbered}
use Rattle.errors.specs.declared.Refusal.{Refusal}
use Rattle.errors.specs.declared.Refusal.TheVariants.{OverLong, BadArgument}
use Rattle.framing.specs.Build.{Left, left}
use Rattle.targets.specs.Bitrates.{ascii}
use Rattle.exchange.specs.Exchange.{Event, ok, bad, pkt, time, fail, late, slept}
use Rattle.protocol.specs.Calls.{is_opening}
use Rattle.bench.specs.Hex.{hex_of}
use Rattle.bench.specs.Numbers.{number_of}
use Rattle.bench.specs.Texts.{over, decimal_of}
use Rattle.bench.specs.Words.{words_of_lem}
use Rattle.bench.specs.Lines.{feed}
use Rattle.bench.specs.declared.lines.Line.{Line}
use Rattle.bench.specs.declared.lines.Line.TheVariants.{Text, OverLong, End}
use Rattle.slowest_call.specs.Question.{events_of}
use Rattle.slowest_call.specs.Kinds.{Kind, opening_kind, version_kind, reset_mode_kind, set_parameters_kind, rf_configuration_kind, read_register_kind, write_register_kind, read_single_register_kind, write_single_register_kind, in_list_passive_target_kind, in_data_exchange_kind, in_communicate_thru_kind, in_jump_for_dep_kind, tg_init_target_kind, tg_set_general_bytes_kind, tg_get_initiator_command_kind, tg_response_to_initiator_kind, tg_get_target_status_kind, rf_field_off_kind, detect_type_a_kind, detect_type_b_kind, detect_type_f_kind, detect_dep_kind, transceive_kind, detect_type_a_split_kind, read_without_encryption_kind, write_without_encryption_kind}
use Rattle.slowest_call.specs.Kinds.{kinds, most, slowest, leading_events}

-- ---- the lines

abbrev pub event_line : Event → List ℕ
event_line ok = ascii "ok"
event_line bad = ascii "bad"
event_line (pkt packet) = ascii "pkt " ++ hex_of packet
event_line time = ascii "time"
event_line fail = ascii "fail"
event_line late = ascii "late"
event_line slept = ascii "slept"

abbrev pub call_line : Kind → List ℕ
call_line opening_kind = ascii "open"
call_line version_kind = ascii "version"
call_line reset_mode_kind = ascii "reset_mode"
call_line set_parameters_kind = ascii "set_parameters 00"
call_line rf_configuration_kind = ascii "rf_configuration 00 -"
call_line read_register_kind = ascii "read_register -"
call_line write_register_kind = ascii "write_register -"
call_line read_single_register_kind = ascii "read_single_register 0000"
call_line write_single_register_kind = ascii "write_single_register 0000 00"
call_line in_list_passive_target_kind = ascii "in_list_passive_target 01 00 -"
call_line in_data_exchange_kind = ascii "in_data_exchange 1 -"
call_line in_communicate_thru_kind = ascii "in_communicate_thru 1 -"
call_line in_jump_for_dep_kind = ascii "in_jump_for_dep 00 00 - - -"
call_line tg_init_target_kind = ascii "tg_init_target 1 00 000000000000 000000000000000000000000000000000000 00000000000000000000 -"
call_line tg_set_general_bytes_kind = ascii "tg_set_general_bytes -"
call_line tg_get_initiator_command_kind = ascii "tg_get_initiator_command 1"
call_line tg_response_to_initiator_kind = ascii "tg_response_to_initiator -"
call_line tg_get_target_status_kind = ascii "tg_get_target_status"
call_line rf_field_off_kind = ascii "rf_field_off"
call_line detect_type_a_kind = ascii "detect_type_a 106A -"
call_line detect_type_b_kind = ascii "detect_type_b 106B -"
call_line detect_type_f_kind = ascii "detect_type_f 212F 0000 00 00"
call_line detect_dep_kind = ascii "detect_dep 106A 00000000000000000000000000000000"
call_line transceive_kind = ascii "transceive 106A none none none -"
call_line detect_type_a_split_kind = ascii "detect_type_a 106A - split"
call_line read_without_encryption_kind = ascii "read_without_encryption 0000000000000000 0000 none 00"
call_line write_without_encryption_kind = ascii "write_without_encryption 0000000000000000 0000 none 00 00000000000000000000000000000000"

-- ---- a kind's whole script, with any number of idle reads: the lines that lead to its start, and the run

abbrev pub start_lines : Kind → List (List ℕ)
start_lines k = cond (is_opening (slowest k).call) [] (call_line opening_kind ∷ map event_line leading_events)

abbrev pub run_lines : Kind → ℕ → List (List ℕ)
run_lines k extra = call_line k ∷ map event_line (events_of (slowest k) extra)

abbrev pub script_lines : Kind → ℕ → List (List ℕ)
script_lines k idle = start_lines k ++ run_lines k idle

-- lines as they are printed: one space, a semicolon and one space between them
abbrev pub separator : List ℕ
separator = ascii " ; "

unfoldable pub joined_behind : List (List ℕ) → List ℕ
joined_behind [] = []
joined_behind (l ∷ ls) = separator ++ (l ++ joined_behind ls)

unfoldable pub joined : List (List ℕ) → List ℕ
joined [] = []
joined (l ∷ ls) = l ++ joined_behind ls

-- the number of accepted events, and the script
unfoldable pub script_text : Kind → ℕ → List ℕ
script_text k idle = decimal_of (most k + idle) ++ (ascii " " ++ joined (script_lines k idle))

-- ---- kinds by name and by number

abbrev pub name_of : Kind → List ℕ
name_of opening_kind = ascii "open"
name_of version_kind = ascii "version"
name_of reset_mode_kind = ascii "reset_mode"
name_of set_parameters_kind = ascii "set_parameters"
name_of rf_configuration_kind = ascii "rf_configuration"
name_of read_register_kind = ascii "read_register"
name_of write_register_kind = ascii "write_register"
name_of read_single_register_kind = ascii "read_single_register"
name_of write_single_register_kind = ascii "write_single_register"
name_of in_list_passive_target_kind = ascii "in_list_passive_target"
name_of in_data_exchange_kind = ascii "in_data_exchange"
name_of in_communicate_thru_kind = ascii "in_communicate_thru"
name_of in_jump_for_dep_kind = ascii "in_jump_for_dep"
name_of tg_init_target_kind = ascii "tg_init_target"
name_of tg_set_general_bytes_kind = ascii "tg_set_general_bytes"
name_of tg_get_initiator_command_kind = ascii "tg_get_initiator_command"
name_of tg_response_to_initiator_kind = ascii "tg_response_to_initiator"
name_of tg_get_target_status_kind = ascii "tg_get_target_status"
name_of rf_field_off_kind = ascii "rf_field_off"
name_of detect_type_a_kind = ascii "detect_type_a"
name_of detect_type_b_kind = ascii "detect_type_b"
name_of detect_type_f_kind = ascii "detect_type_f"
name_of detect_dep_kind = ascii "detect_dep"
name_of transceive_kind = ascii "transceive"
name_of detect_type_a_split_kind = ascii "detect_type_a_split"
name_of read_without_encryption_kind = ascii "read_without_encryption"
name_of write_without_encryption_kind = ascii "write_without_encryption"

unfoldable pub kind_named_of : List Kind → List ℕ → Option Kind
kind_named_of [] w = None
kind_named_of (k ∷ ks) w = pick (same (name_of k) w) (Some k) (kind_named_of ks w)

-- a kind's number is its place in `kinds`
abbrev pub kind_count : ℕ
kind_count = 27

abbrev pub kind_at : ℕ → Kind
kind_at n = get_or kinds n opening_kind

-- ---- the answers

-- document 02's idle reads, at most
abbrev pub idle_limit : ℕ
idle_limit = 32

-- no script is longer; room for any script and a line feed
abbrev pub script_limit : ℕ
script_limit = 2047

abbrev pub script_room : ℕ
script_room = 2048

-- the script at the buffer's start: 4 for no such kind, then 3 for more idle reads, and nothing written
unfoldable pub script_of : ℕ → ℕ → List ℕ → Left
script_of n idle b =
    pick (ltb n kind_count)
    (pick (ltb idle_limit idle) (left (refused (numbered OverLong)) b)
    (left (answered (length (script_text (kind_at n) idle))) (over 0 (script_text (kind_at n) idle) b)))
    (left (refused (numbered BadArgument)) b)

unfoldable pub refused_text : Refusal → List ℕ
refused_text r = ascii "refused " ++ decimal_of (numbered r).number

-- of a kind and a number of idle reads, where both can be read
abbrev pub text_by : Option Kind → Option ℕ → List ℕ
text_by None idle = refused_text BadArgument
text_by (Some k) None = refused_text BadArgument
text_by (Some k) (Some idle) = pick (ltb idle_limit idle) (refused_text OverLong) (script_text k idle)

-- a line: a call's word and a number
unfoldable pub answer_text : List ℕ → List ℕ
answer_text l = pick (eqb (length (words_of_lem l)) 2) (text_by (kind_named_of kinds (get_or (words_of_lem l) 0 [])) (number_of (get_or (words_of_lem l) 1 []))) (refused_text BadArgument)

-- a line that stands at the start of l, with a line feed behind its answer; nothing at the end of the input
unfoldable pub line_text : Line → List ℕ → List ℕ
line_text (Text n) l = answer_text (take n l) ++ (feed ∷ [])
line_text OverLong l = refused_text BadArgument ++ (feed ∷ [])
line_text End l = []
