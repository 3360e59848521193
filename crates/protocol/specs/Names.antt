-- Numbers of the manual and of the Rust by name: clocks in ms, registers (`ciu` of chipset.rs), status bytes (`err`), pauses in µs. The code
-- has them in chipset/src: clock.rt, ciu.rt, err.rt. The command codes stand in Calls.antt, each with its command.
use Rattle.std.specs.Prelude.{List, [], ◌∷◌, ℕ}

abbrev pub command_clock : ℕ
command_clock = 100

abbrev pub registers_clock : ℕ
registers_clock = 250

abbrev pub in_list_passive_target_clock : ℕ
in_list_passive_target_clock = 1000

abbrev pub tg_response_to_initiator_clock : ℕ
tg_response_to_initiator_clock = 1000

abbrev pub in_jump_for_dep_clock : ℕ
in_jump_for_dep_clock = 3000

abbrev pub rid_clock : ℕ
rid_clock = 100

abbrev pub type_b_clock : ℕ
type_b_clock = 500

abbrev pub ciu_fifo_data : ℕ
ciu_fifo_data = 0x6339

abbrev pub ciu_rx_mode : ℕ
ciu_rx_mode = 0x6303

abbrev pub ciu_tx_control : ℕ
ciu_tx_control = 0x6304

abbrev pub ciu_mode : ℕ
ciu_mode = 0x6301

abbrev pub rf_cfg_ram07 : ℕ
rf_cfg_ram07 = 0x0328

abbrev pub timeout_status : ℕ
timeout_status = 0x01

abbrev pub rf_not_activated : ℕ
rf_not_activated = 0x0A

abbrev pub register_write_failed : ℕ
register_write_failed = 0xFE

abbrev pub no_data : ℕ
no_data = 0xFF

abbrev pub opening_read_time : ℕ
opening_read_time = 10

abbrev pub reset_pause_time : ℕ
reset_pause_time = 10000

abbrev pub field_pause_time : ℕ
field_pause_time = 20400

-- RFConfiguration: its items, and the bytes that the Rust gives for each
abbrev pub rf_field_item : ℕ
rf_field_item = 0x01

abbrev pub field_on : ℕ
field_on = 0x01

abbrev pub field_off : ℕ
field_off = 0x02

abbrev pub timeouts_item : ℕ
timeouts_item = 0x02

abbrev pub timeouts : List ℕ
timeouts = 0x0B ∷ 0x0B ∷ 0x0A ∷ []

abbrev pub max_rty_com_item : ℕ
max_rty_com_item = 0x04

abbrev pub max_rty_com : List ℕ
max_rty_com = 0x00 ∷ []

abbrev pub max_retries_item : ℕ
max_retries_item = 0x05

abbrev pub max_retries : List ℕ
max_retries = 0x00 ∷ 0x00 ∷ 0x01 ∷ []

abbrev pub analog106a_item : ℕ
analog106a_item = 0x0A

abbrev pub analog106a : List ℕ
analog106a = 0x5A ∷ 0xF4 ∷ 0x3F ∷ 0x11 ∷ 0x4D ∷ 0x85 ∷ 0x61 ∷ 0x6F ∷ 0x26 ∷ 0x62 ∷ 0x87 ∷ []

-- SetParameters' byte in the opening, and RFCfg as it leaves it
abbrev pub opening_parameters : ℕ
opening_parameters = 0x08

abbrev pub opening_rf_cfg : ℕ
opening_rf_cfg = 0x59

-- InDataExchange's status is a byte's low six bits, and the bit above them the more flag; RxCRCEn is the highest bit of CIU_RxMode
abbrev pub more_bit : ℕ
more_bit = 64

abbrev pub rx_crc_en : ℕ
rx_crc_en = 128

-- the field is on where one of CIU_TxControl's two lowest bits is 1: the number is not a multiple of this one
abbrev pub tx_rf_en : ℕ
tx_rf_en = 4

-- the fewest bytes of GetFirmwareVersion's response
abbrev pub version_need : ℕ
version_need = 4

-- InListPassiveTarget: MaxTg, and its codes for a bitrate, of which the last lists Type 1 tags. The target that is listed has this number.
abbrev pub one_target : ℕ
one_target = 1

abbrev pub target_number : ℕ
target_number = 0x01

abbrev pub code106a : ℕ
code106a = 0

abbrev pub code212f : ℕ
code212f = 1

abbrev pub code424f : ℕ
code424f = 2

abbrev pub code106b : ℕ
code106b = 3

abbrev pub code_type1 : ℕ
code_type1 = 4

-- DEP: CIU_Mode with the detect-sync bit off, and the first two bytes of ATR_RES
abbrev pub no_detect_sync : ℕ
no_detect_sync = 0x3B

abbrev pub atr_res_cmd0 : ℕ
atr_res_cmd0 = 0xD5

abbrev pub atr_res_cmd1 : ℕ
atr_res_cmd1 = 0x01

-- SENSF_REQ: its code, and in a list (N1) the request code for the system code and the number for one time slot
abbrev pub sensf_req_code : ℕ
sensf_req_code = 0x00

abbrev pub system_code_request : ℕ
system_code_request = 0x01

abbrev pub one_time_slot : ℕ
one_time_slot = 0x00

-- a card's commands: the cascade tag of a UID, SENS_REQ, RID, DESELECT, WUPB and its parameter
abbrev pub cascade_tag : ℕ
cascade_tag = 0x88

abbrev pub sens_req : ℕ
sens_req = 0x26

abbrev pub rid_code : ℕ
rid_code = 0x78

abbrev pub deselect_code : ℕ
deselect_code = 0xC2

abbrev pub wupb_code : ℕ
wupb_code = 0x05

abbrev pub wupb_parameter : ℕ
wupb_parameter = 0x08

-- RID to a Type 1 tag: behind its code six bytes of 0
abbrev pub rid_data : List ℕ
rid_data = rid_code ∷ 0x00 ∷ 0x00 ∷ 0x00 ∷ 0x00 ∷ 0x00 ∷ 0x00 ∷ []

-- the commands of a Type 1 tag that the chip sends
abbrev pub type1_rall : ℕ
type1_rall = 0x00

abbrev pub type1_read : ℕ
type1_read = 0x01

abbrev pub type1_write_ne : ℕ
type1_write_ne = 0x1A

abbrev pub type1_write_e : ℕ
type1_write_e = 0x53

abbrev pub type1_rid : ℕ
type1_rid = 0x72

-- a list of system codes (N1): the marks of a code that met a card, and of one that met none
abbrev pub card_mark : ℕ
card_mark = 0x01

abbrev pub no_card_mark : ℕ
no_card_mark = 0x00

-- InListPassiveTarget's response: the number of targets and of the first, and behind them its data. Of Type A SENS_RES, SEL_RES, the UID's length and the UID;
-- of Type B a byte for the protocol; of Type F IDm and PMm behind two bytes.
abbrev pub target_offset : ℕ
target_offset = 2

abbrev pub sens_res_offset : ℕ
sens_res_offset = 2

abbrev pub sel_res_offset : ℕ
sel_res_offset = 4

abbrev pub uid_length_offset : ℕ
uid_length_offset = 5

abbrev pub uid_offset : ℕ
uid_offset = 6

abbrev pub protocol_offset : ℕ
protocol_offset = 12

abbrev pub listed_idm_offset : ℕ
listed_idm_offset = 4

abbrev pub idm_and_pmm : ℕ
idm_and_pmm = 16

abbrev pub pmm_end : ℕ
pmm_end = 20
