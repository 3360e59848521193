-- The calls. A new command adds its constructor in `Request`, its code, its row and its place in `reader_calls`; a new discovery its constructor
-- in `DeviceCall`, its line in `device_limit` and its place, and its lines in Starts, CallsSound and Own.
use Rattle.std.specs.Prelude.{Bool, true, false, cond, List, [], ◌∷◌, ◌++◌, ℕ, ◌*◌, ◌/◌, eqb, length}
use Rattle.std.proofs.Math.Option.{Option}
use Rattle.protocol.specs.Names.{command_clock, registers_clock, in_list_passive_target_clock, in_jump_for_dep_clock, tg_response_to_initiator_clock, rf_field_item, field_off, target_number}
use Rattle.protocol.specs.Arguments.{word, active_byte, jump_data, init_data, registers, init_fits, flag, ms_of, is_long_wait}
use Rattle.protocol.specs.Rules.{Rule, no_bytes_of, all_bytes, registers_written, first_byte_of, listed_target, exchanged_data, thru, jump, status, initiator_command, target_status}
use Rattle.protocol.specs.Rules as rules

-- A command of chipset.rs with its arguments, in the order of the Rust's. Registers are the bytes of their words, as they are sent.
pub data Request : Type 0 where
  version : Request
  reset_mode_of : Request
  set_parameters_of : ℕ → Request
  rf_configuration_of : ℕ → List ℕ → Request
  rf_field_off_of : Request
  read_register : List ℕ → Request
  write_register_of : List ℕ → Request
  read_single_register_of : ℕ → Request
  write_single_register_of : ℕ → ℕ → Request
  in_list_passive_target_of : ℕ → ℕ → List ℕ → Request
  in_data_exchange_of : List ℕ → ℕ → Request
  in_communicate_thru_of : List ℕ → ℕ → Request
  in_jump_for_dep : Bool → ℕ → List ℕ → List ℕ → List ℕ → Request
  tg_init_target : ℕ → List ℕ → List ℕ → List ℕ → List ℕ → ℕ → Request
  tg_set_general_bytes : List ℕ → Request
  tg_get_initiator_command : ℕ → Request
  tg_response_to_initiator : List ℕ → Request
  tg_get_target_status : Request

-- A call of discovery.rs, `transceive`, or a read or write of FeliCa blocks (document 02, N5), with its arguments. A target is its bitrate's text, its SEL_RES and whether it has a RID_RES.
-- No bytes stand for an absent UID, SENSB_REQ, ATR_REQ or SEL_RES, which count as these do.
pub data DeviceCall : Type 0 where
  detect_type_a_of : List ℕ → List ℕ → DeviceCall  -- bitrate, UID
  detect_type_a_split : List ℕ → List ℕ → DeviceCall  -- the same, in the mode in which UID and ATS are known apart
  detect_type_b_of : List ℕ → List ℕ → DeviceCall  -- bitrate, SENSB_REQ
  detect_type_f_of : List ℕ → ℕ → ℕ → ℕ → DeviceCall  -- bitrate, system code, request code, time slots
  poll_type_f : List ℕ → List ℕ → DeviceCall  -- bitrate, the bytes of the system codes' words
  detect_dep_of : List ℕ → List ℕ → DeviceCall  -- bitrate, ATR_REQ
  transceive : List ℕ → List ℕ → Bool → List ℕ → Option ℕ → DeviceCall  -- bitrate, SEL_RES, RID_RES, bytes, ms
  read_without_encryption : List ℕ → ℕ → List ℕ → Option ℕ → DeviceCall  -- IDm, service code, block numbers, ms
  write_without_encryption : List ℕ → ℕ → List ℕ → List ℕ → Option ℕ → DeviceCall  -- IDm, service code, block numbers, block data, ms

-- a call of an open reader; `unknown` is a number that has no call
pub data ReaderCall : Type 0 where
  request : Request → ReaderCall
  device : DeviceCall → ReaderCall
  unknown : ReaderCall

-- any call; `opening` is the bench program's `open`, which is a word of this language, with the number of its mode
pub data Call : Type 0 where
  opening : ℕ → Call
  reader : ReaderCall → Call

-- ---- the commands

-- the codes, by name (`cmd` of chipset.rs)
abbrev pub get_firmware_version_code : ℕ
get_firmware_version_code = 0x02

abbrev pub read_register_code : ℕ
read_register_code = 0x06

abbrev pub write_register_code : ℕ
write_register_code = 0x08

abbrev pub set_parameters_code : ℕ
set_parameters_code = 0x12

abbrev pub reset_mode_code : ℕ
reset_mode_code = 0x18

abbrev pub reset_mode_data : List ℕ
reset_mode_data = 0x01 ∷ []

abbrev pub rf_configuration_code : ℕ
rf_configuration_code = 0x32

abbrev pub in_data_exchange_code : ℕ
in_data_exchange_code = 0x40

abbrev pub in_communicate_thru_code : ℕ
in_communicate_thru_code = 0x42

abbrev pub in_list_passive_target_code : ℕ
in_list_passive_target_code = 0x4A

abbrev pub in_jump_for_dep_code : ℕ
in_jump_for_dep_code = 0x56

abbrev pub tg_get_initiator_command_code : ℕ
tg_get_initiator_command_code = 0x88

abbrev pub tg_get_target_status_code : ℕ
tg_get_target_status_code = 0x8A

abbrev pub tg_init_target_code : ℕ
tg_init_target_code = 0x8C

abbrev pub tg_response_to_initiator_code : ℕ
tg_response_to_initiator_code = 0x90

abbrev pub tg_set_general_bytes_code : ℕ
tg_set_general_bytes_code = 0x92

-- What a command is: what the Rust asserts, its code, its clock in ms, its data, and the rule by which its response is interpreted. reset_mode
-- is another matter: its response is not looked at.
pub data Row : Type 0 where
  row : Bool → ℕ → ℕ → List ℕ → Rule → Row
  resets : Row

abbrev pub row_of : Request → Row
row_of version = row true get_firmware_version_code command_clock [] rules.version
row_of reset_mode_of = resets
row_of (set_parameters_of flags) = row true set_parameters_code command_clock (flags ∷ []) no_bytes_of
row_of (rf_configuration_of item bytes) = row true rf_configuration_code command_clock (item ∷ bytes) no_bytes_of
row_of rf_field_off_of = row true rf_configuration_code command_clock (rf_field_item ∷ field_off ∷ []) no_bytes_of
row_of (read_register addresses) = row (registers 2 addresses) read_register_code registers_clock addresses all_bytes
row_of (write_register_of values) = row (registers 3 values) write_register_code registers_clock values registers_written
row_of (read_single_register_of address) = row true read_register_code registers_clock (word address) first_byte_of
row_of (write_single_register_of address value) = row true write_register_code registers_clock (word address ++ (value ∷ [])) registers_written
row_of (in_list_passive_target_of maxTg bitrate bytes) = row true in_list_passive_target_code in_list_passive_target_clock (maxTg ∷ bitrate ∷ bytes) listed_target
row_of (in_data_exchange_of bytes ms) = row true in_data_exchange_code ms (target_number ∷ bytes) exchanged_data
row_of (in_communicate_thru_of bytes ms) = row true in_communicate_thru_code ms bytes thru
row_of (in_jump_for_dep active br passive nfcid3 gi) = row true in_jump_for_dep_code in_jump_for_dep_clock (jump_data (active_byte active) br passive nfcid3 gi) jump
row_of (tg_init_target mode mifare felica nfcid3t gt ms) =
    row (init_fits mode mifare felica nfcid3t) tg_init_target_code ms (init_data mode mifare felica nfcid3t gt) all_bytes
row_of (tg_set_general_bytes gb) = row true tg_set_general_bytes_code command_clock gb status
row_of (tg_get_initiator_command ms) = row true tg_get_initiator_command_code ms [] initiator_command
row_of (tg_response_to_initiator bytes) = row true tg_response_to_initiator_code tg_response_to_initiator_clock bytes status
row_of tg_get_target_status = row true tg_get_target_status_code command_clock [] target_status

-- ---- the calls by their numbers

-- with more ms than 65,535 there is no such call
abbrev pub timed : Bool → ℕ → ReaderCall → ReaderCall
timed given ms c = cond (is_long_wait given ms) unknown c

-- the calls of an open reader in the order of their numbers, from 1 on; their arguments are four numbers, ms, a word and two
-- bytes, and four lists of bytes
abbrev pub reader_calls : (ms word x y : ℕ) (first second third fourth : List ℕ) → List ReaderCall
reader_calls ms word x y first second third fourth =
    request version
    ∷ request reset_mode_of
    ∷ request (set_parameters_of x)
    ∷ request (rf_configuration_of x first)
    ∷ request (read_register first)
    ∷ request (write_register_of first)
    ∷ request (read_single_register_of word)
    ∷ request (write_single_register_of word x)
    ∷ request (in_list_passive_target_of x y first)
    ∷ request (in_data_exchange_of first ms)
    ∷ request (in_communicate_thru_of first ms)
    ∷ request (in_jump_for_dep (flag x) y first second third)
    ∷ request (tg_init_target x first second third fourth ms)
    ∷ request (tg_set_general_bytes first)
    ∷ request (tg_get_initiator_command ms)
    ∷ request (tg_response_to_initiator first)
    ∷ request tg_get_target_status
    ∷ request rf_field_off_of
    ∷ device (detect_type_a_of first second)
    ∷ device (detect_type_b_of first second)
    ∷ device (detect_type_f_of first word x y)
    ∷ device (detect_dep_of first second)
    ∷ device (transceive first second (flag x) third (ms_of (flag y) word))
    ∷ device (poll_type_f first second)
    ∷ device (detect_type_a_split first second)
    ∷ timed (flag y) ms (device (read_without_encryption first word second (ms_of (flag y) ms)))
    ∷ timed (flag y) ms (device (write_without_encryption first word second third (ms_of (flag y) ms)))
    ∷ []

-- ---- an opening, and how many frames a call may order

-- the modes of a session (document 02, N2): off, and padded, in which packets may have extra zeros before their start
abbrev pub padded_mode : ℕ
padded_mode = 1

abbrev pub is_padded_mode : ℕ → Bool
is_padded_mode mode = eqb mode padded_mode

-- the opening, whose script follows `Chipset::new`
abbrev pub is_opening : Call → Bool
is_opening (opening mode) = true
is_opening (reader c) = false

-- the most command frames that the call orders: three for each system code, of other calls four, ten of an opening
abbrev pub code_frames : ℕ
code_frames = 3

abbrev pub call_frames : ℕ
call_frames = 4

abbrev pub opening_frames : ℕ
opening_frames = 10

abbrev pub device_limit : DeviceCall → ℕ
device_limit (detect_type_a_of text uid) = call_frames
device_limit (detect_type_a_split text uid) = call_frames
device_limit (detect_type_b_of text sensbReq) = call_frames
device_limit (detect_type_f_of text systemCode requestCode timeSlots) = call_frames
device_limit (poll_type_f text words) = code_frames * (length words / 2)
device_limit (detect_dep_of text atrReq) = call_frames
device_limit (transceive text selRes ridRes bytes ms) = call_frames
device_limit (read_without_encryption idm service blocks ms) = call_frames
device_limit (write_without_encryption idm service blocks bytes ms) = call_frames

abbrev pub limit : Call → ℕ
limit (opening mode) = opening_frames
limit (reader (request r)) = call_frames
limit (reader (device d)) = device_limit d
limit (reader unknown) = call_frames
