-- The kinds of calls that order frames, the most events of each, and a run of each that has them.
use Rattle.std.specs.Prelude.{true, false, cond, List, [], ◌∷◌, ◌++◌, ℕ, ◌+◌, replicate}
use Rattle.std.proofs.Math.Option.{Option, none, some}
use Rattle.framing.specs.Frames.{ack, frame_of}
use Rattle.framing.specs.Names.{controller_to_host}
use Rattle.framing.specs.declared.LengthEncoding.TheVariants.{NormalOrExtendedBigEndian}
use Rattle.exchange.specs.Exchange.{Event, ok, pkt, time, late, slept}
use Rattle.protocol.specs.Arguments.{mifare_size, felica_size, nfcid3_size, shortest_atr_req}
use Rattle.protocol.specs.Calls.{Request, version, reset_mode_of, set_parameters_of, rf_configuration_of, rf_field_off_of, read_register, write_register_of, read_single_register_of, write_single_register_of, in_list_passive_target_of, in_data_exchange_of, in_communicate_thru_of, in_jump_for_dep, tg_init_target, tg_set_general_bytes, tg_get_initiator_command, tg_response_to_initiator, tg_get_target_status}
use Rattle.protocol.specs.Calls.{DeviceCall, detect_type_a_of, detect_type_a_split, detect_type_b_of, detect_type_f_of, poll_type_f, detect_dep_of, transceive, read_without_encryption, write_without_encryption}
use Rattle.protocol.specs.Calls.{Call, opening, reader, request, device, unknown, is_opening}
use Rattle.protocol.specs.Calls.{get_firmware_version_code, read_register_code, write_register_code, set_parameters_code, reset_mode_code, rf_configuration_code, in_list_passive_target_code, in_jump_for_dep_code}
use Rattle.protocol.specs.Session.{Session, idle, Entry, call, buffer_need}
use Rattle.slowest_call.specs.Question.{Slow, slow, entries_of}

-- ---- kinds

pub data Kind : Type 0 where
  opening_kind : Kind
  version_kind : Kind
  reset_mode_kind : Kind
  set_parameters_kind : Kind
  rf_configuration_kind : Kind
  read_register_kind : Kind
  write_register_kind : Kind
  read_single_register_kind : Kind
  write_single_register_kind : Kind
  in_list_passive_target_kind : Kind
  in_data_exchange_kind : Kind
  in_communicate_thru_kind : Kind
  in_jump_for_dep_kind : Kind
  tg_init_target_kind : Kind
  tg_set_general_bytes_kind : Kind
  tg_get_initiator_command_kind : Kind
  tg_response_to_initiator_kind : Kind
  tg_get_target_status_kind : Kind
  rf_field_off_kind : Kind
  detect_type_a_kind : Kind
  detect_type_b_kind : Kind
  detect_type_f_kind : Kind
  detect_dep_kind : Kind
  transceive_kind : Kind
  detect_type_a_split_kind : Kind
  read_without_encryption_kind : Kind
  write_without_encryption_kind : Kind

abbrev pub kinds : List Kind
kinds =
    opening_kind
    ∷ version_kind
    ∷ reset_mode_kind
    ∷ set_parameters_kind
    ∷ rf_configuration_kind
    ∷ read_register_kind
    ∷ write_register_kind
    ∷ read_single_register_kind
    ∷ write_single_register_kind
    ∷ in_list_passive_target_kind
    ∷ in_data_exchange_kind
    ∷ in_communicate_thru_kind
    ∷ in_jump_for_dep_kind
    ∷ tg_init_target_kind
    ∷ tg_set_general_bytes_kind
    ∷ tg_get_initiator_command_kind
    ∷ tg_response_to_initiator_kind
    ∷ tg_get_target_status_kind
    ∷ rf_field_off_kind
    ∷ detect_type_a_kind
    ∷ detect_type_b_kind
    ∷ detect_type_f_kind
    ∷ detect_dep_kind
    ∷ transceive_kind
    ∷ detect_type_a_split_kind
    ∷ read_without_encryption_kind
    ∷ write_without_encryption_kind
    ∷ []

-- a list of system codes (N1) is of no kind here
abbrev pub request_kind : Request → Kind
request_kind version = version_kind
request_kind reset_mode_of = reset_mode_kind
request_kind (set_parameters_of flags) = set_parameters_kind
request_kind (rf_configuration_of item bytes) = rf_configuration_kind
request_kind rf_field_off_of = rf_field_off_kind
request_kind (read_register addresses) = read_register_kind
request_kind (write_register_of values) = write_register_kind
request_kind (read_single_register_of address) = read_single_register_kind
request_kind (write_single_register_of address value) = write_single_register_kind
request_kind (in_list_passive_target_of maxTg bitrate bytes) = in_list_passive_target_kind
request_kind (in_data_exchange_of bytes ms) = in_data_exchange_kind
request_kind (in_communicate_thru_of bytes ms) = in_communicate_thru_kind
request_kind (in_jump_for_dep active br passive nfcid3 gi) = in_jump_for_dep_kind
request_kind (tg_init_target mode mifare felica nfcid3t gt ms) = tg_init_target_kind
request_kind (tg_set_general_bytes gb) = tg_set_general_bytes_kind
request_kind (tg_get_initiator_command ms) = tg_get_initiator_command_kind
request_kind (tg_response_to_initiator bytes) = tg_response_to_initiator_kind
request_kind tg_get_target_status = tg_get_target_status_kind

abbrev pub device_kind : DeviceCall → Option Kind
device_kind (detect_type_a_of text uid) = some detect_type_a_kind
device_kind (detect_type_a_split text uid) = some detect_type_a_split_kind
device_kind (detect_type_b_of text sensbReq) = some detect_type_b_kind
device_kind (detect_type_f_of text systemCode requestCode timeSlots) = some detect_type_f_kind
device_kind (poll_type_f text words) = none
device_kind (detect_dep_of text atrReq) = some detect_dep_kind
device_kind (transceive text selRes ridRes bytes ms) = some transceive_kind
device_kind (read_without_encryption idm service blocks ms) = some read_without_encryption_kind
device_kind (write_without_encryption idm service blocks bytes ms) = some write_without_encryption_kind

abbrev pub kind_of : Call → Option Kind
kind_of (opening mode) = some opening_kind
kind_of (reader (request r)) = some (request_kind r)
kind_of (reader (device d)) = device_kind d
kind_of (reader unknown) = none

-- the most accepted events that are no idle reads
abbrev pub most : Kind → ℕ
most opening_kind = 39
most version_kind = 4
most reset_mode_kind = 6
most set_parameters_kind = 4
most rf_configuration_kind = 4
most read_register_kind = 4
most write_register_kind = 4
most read_single_register_kind = 4
most write_single_register_kind = 4
most in_list_passive_target_kind = 4
most in_data_exchange_kind = 4
most in_communicate_thru_kind = 4
most in_jump_for_dep_kind = 4
most tg_init_target_kind = 4
most tg_set_general_bytes_kind = 4
most tg_get_initiator_command_kind = 4
most tg_response_to_initiator_kind = 4
most tg_get_target_status_kind = 4
most rf_field_off_kind = 4
most detect_type_a_kind = 14
most detect_type_b_kind = 11
most detect_type_f_kind = 11
most detect_dep_kind = 10
most transceive_kind = 4
most detect_type_a_split_kind = 14
most read_without_encryption_kind = 4
most write_without_encryption_kind = 4

-- ---- events of one command

abbrev responds : ℕ → List ℕ → List ℕ
responds code bytes = frame_of NormalOrExtendedBigEndian (controller_to_host ∷ (code + 1) ∷ bytes)

-- it goes well: 3
abbrev well : ℕ → List ℕ → List Event
well code bytes = ok ∷ pkt ack ∷ pkt (responds code bytes) ∷ []

-- its clock runs out: 4, in which the wait begins behind two
abbrev waited : List Event
waited = ok ∷ pkt ack ∷ []

abbrev over : List Event
over = late ∷ ok ∷ []

abbrev failing : List Event
failing = waited ++ over

-- a reset's ACK and pause
abbrev reset_done : List Event
reset_done = ok ∷ slept ∷ []

-- the opening's ACK and reads
abbrev opens : List Event
opens = ok ∷ time ∷ []

-- Device::new between its two resets
abbrev configured : List Event
configured =
    well get_firmware_version_code (0x33 ∷ 0x01 ∷ 0x30 ∷ 0x07 ∷ [])
    ++ (well rf_configuration_code [] ++ (well rf_configuration_code [] ++ (well rf_configuration_code [] ++ (well rf_configuration_code [] ++ (well rf_configuration_code []
    ++ well set_parameters_code [])))))

-- ---- the sessions from which the runs start

-- an opening that goes well leads there from the fresh one
abbrev pub leading_events : List Event
leading_events = opens ++ (well reset_mode_code [] ++ (reset_done ++ (configured ++ (well reset_mode_code [] ++ (reset_done ++ well write_register_code (0x00 ∷ []))))))

abbrev pub leading : List Entry
leading = call 0 (opening 0) buffer_need ∷ entries_of leading_events

abbrev pub opened : Session
opened = record { running = idle; books = record { opened = true; padded = false; caller = 0; counts = 10 ∷ 0 ∷ 0 ∷ 0 ∷ 0 ∷ 0 ∷ 0 ∷ 0 ∷ [] } }

-- ---- the runs

-- a call of one frame
abbrev one_frame : Call → Slow
one_frame c = slow c waited over

-- bitrates
abbrev text106a : List ℕ
text106a = 0x31 ∷ 0x30 ∷ 0x36 ∷ 0x41 ∷ []

abbrev text212f : List ℕ
text212f = 0x32 ∷ 0x31 ∷ 0x32 ∷ 0x46 ∷ []

abbrev text106b : List ℕ
text106b = 0x31 ∷ 0x30 ∷ 0x36 ∷ 0x42 ∷ []

-- no target; the FIFO's read fails; a Type 1 target, whose RID fails
abbrev type_a : List Event
type_a = well in_list_passive_target_code (0x00 ∷ []) ++ (failing ++ (well in_list_passive_target_code (0x01 ∷ 0x01 ∷ []) ++ waited))

abbrev pub slowest : Kind → Slow
slowest opening_kind = slow (opening 0) (opens ++ (failing ++ (reset_done ++ (configured ++ (failing ++ (reset_done ++ waited)))))) over
slowest version_kind = one_frame (reader (request version))
slowest reset_mode_kind = slow (reader (request reset_mode_of)) waited (over ++ reset_done)
slowest set_parameters_kind = one_frame (reader (request (set_parameters_of 0)))
slowest rf_configuration_kind = one_frame (reader (request (rf_configuration_of 0 [])))
slowest rf_field_off_kind = one_frame (reader (request rf_field_off_of))
slowest read_register_kind = one_frame (reader (request (read_register [])))
slowest write_register_kind = one_frame (reader (request (write_register_of [])))
slowest read_single_register_kind = one_frame (reader (request (read_single_register_of 0)))
slowest write_single_register_kind = one_frame (reader (request (write_single_register_of 0 0)))
slowest in_list_passive_target_kind = one_frame (reader (request (in_list_passive_target_of 1 0 [])))
slowest in_data_exchange_kind = one_frame (reader (request (in_data_exchange_of [] 1)))
slowest in_communicate_thru_kind = one_frame (reader (request (in_communicate_thru_of [] 1)))
slowest in_jump_for_dep_kind = one_frame (reader (request (in_jump_for_dep false 0 [] [] [])))
slowest tg_init_target_kind = one_frame (reader (request (tg_init_target 0 (replicate mifare_size 0) (replicate felica_size 0) (replicate nfcid3_size 0) [] 1)))
slowest tg_set_general_bytes_kind = one_frame (reader (request (tg_set_general_bytes [])))
slowest tg_get_initiator_command_kind = one_frame (reader (request (tg_get_initiator_command 1)))
slowest tg_response_to_initiator_kind = one_frame (reader (request (tg_response_to_initiator [])))
slowest tg_get_target_status_kind = one_frame (reader (request tg_get_target_status))
slowest detect_type_a_kind = slow (reader (device (detect_type_a_of text106a []))) type_a over
slowest detect_type_a_split_kind = slow (reader (device (detect_type_a_split text106a []))) type_a over
-- the deselect fails, and the wake-up
slowest detect_type_b_kind =
    slow (reader (device (detect_type_b_of text106b []))) (well in_list_passive_target_code (0x01 ∷ 0x01 ∷ replicate 10 0x00 ++ (0x01 ∷ [])) ++ (failing ++ waited)) over
-- the field is off
slowest detect_type_f_kind =
    slow (reader (device (detect_type_f_of text212f 0 0 0))) (well read_register_code (0x00 ∷ []) ++ (well rf_configuration_code [] ++ (slept ∷ waited))) over
slowest detect_dep_kind =
    slow (reader (device (detect_dep_of text106a (replicate shortest_atr_req 0x00)))) (well rf_configuration_code [] ++ (well in_jump_for_dep_code (0x00 ∷ 0x01 ∷ []) ++ waited)) over
slowest transceive_kind = one_frame (reader (device (transceive text106a [] false [] none)))
slowest read_without_encryption_kind = one_frame (reader (device (read_without_encryption (replicate 8 0x00) 0 (0x00 ∷ []) none)))
slowest write_without_encryption_kind = one_frame (reader (device (write_without_encryption (replicate 8 0x00) 0 (0x00 ∷ []) (replicate 16 0x00) none)))

-- the entries that lead from the fresh session to a kind's run: none for an opening
abbrev pub start : Kind → List Entry
start k = cond (is_opening (slowest k).call) [] leading
