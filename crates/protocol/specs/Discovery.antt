-- discovery.rs, and `transceive` of device.rs, as scripts. Where a list's data is meant, it stands from position 2 of the response on.
use Rattle.std.specs.Prelude.{true, cond, ◌||◌, List, [], ◌∷◌, ◌++◌, map, ℕ, suc, ◌+◌, ◌-◌, ◌/◌, ◌%◌, eqb, ltb, length, take, drop, get_or}
use Rattle.errors.specs.Refusals.{by_status}
use Rattle.errors.specs.declared.Fault.{Fault}
use Rattle.errors.specs.declared.Fault.TheVariants.{Transport, TimeOut, FalseStart, BrokenFrame, Length, FrameKind, Identifier, Code, Status, ShortResponse, NoCard, CrcA, Rate, CardStatus, OtherCard, UidLayout}
use Rattle.targets.specs.TypeA.{is_target_data, is_type2}
use Rattle.crc.specs.Crc.{type_a as crc_a, checks}
use Rattle.protocol.specs.Scripts.{Byte, own, commands_later, Answer, done, type1, uid_and_ats, nothing, refused, refused_after}
use Rattle.protocol.specs.Scripts.{Script, finish, command, field_pause, refuse, either, if_else, and_then, byte_at, part, rest}
use Rattle.protocol.specs.Arguments.{word, shortest_atr_req, nfcid3_size, active_byte, nfcid3_offset}
use Rattle.protocol.specs.Chipset.{read_single_register_of, write_single_register_of, rf_configuration_of, in_list_passive_target_of, in_data_exchange_of, in_data_exchange_else, in_communicate_thru_of, in_communicate_thru_else, in_jump_for_dep_else}
use Rattle.protocol.specs.Names.{ciu_fifo_data, ciu_mode, ciu_rx_mode, ciu_tx_control, registers_clock, rf_not_activated, timeout_status, type_b_clock, rid_clock, cascade_tag, deselect_code, idm_and_pmm, listed_idm_offset, pmm_end, protocol_offset, sel_res_offset, sens_req, sens_res_offset, target_offset, uid_length_offset, uid_offset, wupb_code, wupb_parameter, timeouts_item, timeouts, rx_crc_en, rf_field_item, field_on, no_detect_sync, atr_res_cmd0, atr_res_cmd1, system_code_request, one_time_slot, sensf_req_code, one_target, code_type1, card_mark, no_card_mark, rid_data, tx_rf_en}
use Rattle.protocol.specs.Calls.{in_communicate_thru_code, read_register_code}

-- ---- detect_type_a

-- a UID over 4 bytes gets 0x88 at 0; if then over 8, 0x88 at 4
abbrev pub prefixed : List ℕ → List ℕ
prefixed uid = cond (ltb 4 (length uid)) (cascade_tag ∷ uid) uid

abbrev pub cascaded : List ℕ → List ℕ
cascaded uid = cond (ltb 8 (length (prefixed uid))) (take 4 (prefixed uid) ++ (cascade_tag ∷ drop 4 (prefixed uid))) (prefixed uid)

-- SENS_RES in the other order, SEL_RES, SDD_RES
abbrev pub card_a : List ℕ → List Byte
card_a list = byte_at 0 list (sens_res_offset + 1) ∷ byte_at 0 list sens_res_offset ∷ byte_at 0 list sel_res_offset ∷ rest 0 list uid_offset

-- Type 2: the CRC check is switched off in the RX mode before the answer
abbrev pub without_crc : Answer Byte → Script
without_crc a = read_single_register_of ciu_rx_mode (λ bs. write_single_register_of ciu_rx_mode (get_or bs 0 0 % rx_crc_en) (finish a))

-- the answer, at once or behind the RX mode
abbrev pub by_type2 : List ℕ → Answer Byte → Script
by_type2 list a = if_else (is_type2 (get_or list sel_res_offset 0)) (without_crc a) (finish a)

abbrev pub found_a : List ℕ → Script
found_a list = if_else (ltb (length list) uid_offset) (finish nothing) (by_type2 list (done (card_a list)))

-- the RID exchange: 15 is none; short list data gives 16 behind it
abbrev pub none_on_status : Fault → Script
none_on_status r = by_status (λ _. finish nothing) (refuse r) r

abbrev pub card_type1 : List ℕ → List ℕ → Script
card_type1 list rid = if_else (ltb (length list) 4) (refuse ShortResponse) (finish (type1 (byte_at 2 list (sens_res_offset + 1) ∷ byte_at 2 list sens_res_offset ∷ rest 3 rid 1)))

abbrev pub try_type1 : Script
try_type1 =
    in_list_passive_target_of one_target code_type1 [] (finish nothing)
    (λ list. in_data_exchange_else rid_data rid_clock (card_type1 list) none_on_status)

-- no target: FIFO 0x26 is none; any other value, or a refused read, leads to the Type 1 try
abbrev pub no_target : Script
no_target = command read_register_code registers_clock (word ciu_fifo_data) (either (λ bs. if_else (eqb (get_or bs 0 0) sens_req) (finish nothing) try_type1) (λ _. try_type1))

abbrev pub detect_type_a_of : ℕ → List ℕ → Script
detect_type_a_of code uid = in_list_passive_target_of one_target code (cascaded uid) no_target found_a

-- ---- detect_type_a in the mode in which UID and ATS are told apart (document 02, N6). The UID's length stands in the data at 3, the
-- ATS's is its first byte. List data that is no target data of Type A is refused at once.

abbrev pub uid_length : List ℕ → ℕ
uid_length list = get_or list uid_length_offset 0

abbrev pub ats_length : List ℕ → ℕ
ats_length list = get_or list (uid_offset + uid_length list) 0

abbrev pub found_split : List ℕ → Script
found_split list =
    if_else (ltb (length list) uid_offset) (finish nothing)
    (if_else (is_target_data (drop target_offset list)) (by_type2 list (uid_and_ats (card_a list) (uid_length list) (ats_length list))) (refuse UidLayout))

abbrev pub detect_type_a_split : ℕ → List ℕ → Script
detect_type_a_split code uid = in_list_passive_target_of one_target code (cascaded uid) no_target found_split

-- ---- detect_type_b

-- the wake-up's failure is none
abbrev pub wake_up : ℕ → Script
wake_up afi = in_communicate_thru_else (wupb_code ∷ afi ∷ wupb_parameter ∷ []) type_b_clock (λ bs. finish (done (rest 2 bs 1))) (λ _. finish nothing)

-- the deselect's outcome is ignored
abbrev pub deselect : ℕ → Script
deselect afi = command in_communicate_thru_code type_b_clock (deselect_code ∷ []) (λ _. wake_up afi)

-- byte 10 of the data, masked with 9, is 1
abbrev pub found_b : ℕ → List ℕ → Script
found_b afi list =
    if_else (ltb (length list) (protocol_offset + 1)) (finish nothing)
    (if_else (eqb (get_or list protocol_offset 0 % 2) 1) (if_else (eqb (get_or list protocol_offset 0 / 8 % 2) 0) (deselect afi) (finish nothing)) (finish nothing))

abbrev pub detect_type_b_of : ℕ → ℕ → Script
detect_type_b_of code afi = in_list_passive_target_of one_target code (afi ∷ []) (finish nothing) (found_b afi)

-- ---- detect_type_f, whose poll is command k

abbrev pub sensf_req : ℕ → ℕ → ℕ → List ℕ
sensf_req systemCode requestCode timeSlots = sensf_req_code ∷ word systemCode ++ (requestCode ∷ timeSlots ∷ [])

abbrev pub poll : ℕ → ℕ → List ℕ → Script
poll k code req =
    in_list_passive_target_of one_target code req (refuse NoCard)
    (λ list. if_else (ltb (length list) pmm_end) (refuse ShortResponse) (finish (done (rest k list listed_idm_offset))))

abbrev pub detect_type_f_of : ℕ → List ℕ → Script
detect_type_f_of code req =
    read_single_register_of ciu_tx_control
    (λ bs. if_else (eqb (get_or bs 0 0 % tx_rf_en) 0) (rf_configuration_of rf_field_item (field_on ∷ []) (field_pause (poll 2 code req))) (poll 1 code req))

-- ---- several system codes: detect_type_f for each

-- the request for a list's code
abbrev pub system_code_req : ℕ → List ℕ
system_code_req systemCode = sensf_req systemCode system_code_request one_time_slot

-- by 17; a of any other fault
abbrev pub by_no_card : {A : Type 0} → A → A → Fault → A
by_no_card x a Transport = a
by_no_card x a TimeOut = a
by_no_card x a FalseStart = a
by_no_card x a BrokenFrame = a
by_no_card x a Length = a
by_no_card x a FrameKind = a
by_no_card x a Identifier = a
by_no_card x a Code = a
by_no_card x a (Status s) = a
by_no_card x a ShortResponse = a
by_no_card x a NoCard = x
by_no_card x a CrcA = a
by_no_card x a Rate = a
by_no_card x a (CardStatus s t) = a
by_no_card x a OtherCard = a
by_no_card x a UidLayout = a

-- what a code adds to the answer: 01, IDm and PMm of an answer that has the optional bytes behind them; 00 where no card was met
abbrev pub card_met : List Byte → List Byte
card_met bytes = own card_mark ∷ take idm_and_pmm bytes

abbrev pub no_card_met : List Byte
no_card_met = own no_card_mark ∷ []

-- the end of a code: the list goes on with what the code adds, or ends with the code's fault. detect_type_f has no other ends.
abbrev pub code_end : (List Byte → Script) → (Fault → Script) → Answer Byte → Script
code_end f g (done bytes) = f (card_met bytes)
code_end f g (type1 bytes) = f (card_met bytes)
code_end f g (uid_and_ats bytes uid ats) = f (card_met bytes)
code_end f g nothing = f no_card_met
code_end f g (refused r) = by_no_card (f no_card_met) (g r) r
code_end f g (refused_after r n) = g r

-- the codes still to come, at the call's command `first`, behind so many codes that are finished and what they found
abbrev pub poll_codes : ℕ → ℕ → ℕ → List Byte → List ℕ → Script
poll_codes code first finished found [] = finish (done found)
poll_codes code first finished found (systemCode ∷ codes) =
    and_then (detect_type_f_of code (system_code_req systemCode)) first
    (λ next a. code_end
    (λ bytes. poll_codes code next (suc finished) (found ++ map (commands_later first) bytes) codes)
    (λ r. finish (refused_after r finished)) a)

abbrev pub poll_type_f : ℕ → List ℕ → Script
poll_type_f code codes = poll_codes code 0 0 [] codes

-- ---- detect_dep

-- 15 with 01 or 0A is none
abbrev pub no_partner_of : Fault → Script
no_partner_of r = by_status (λ status. if_else (eqb status timeout_status || eqb status rf_not_activated) (finish nothing) (refuse r)) (refuse r) r

abbrev pub detect_dep_of : ℕ → List ℕ → Script
detect_dep_of code atrReq =
    rf_configuration_of timeouts_item timeouts
    (in_jump_for_dep_else (active_byte true) code [] (take nfcid3_size (drop nfcid3_offset atrReq)) (drop shortest_atr_req atrReq)
    (λ bs. write_single_register_of ciu_mode no_detect_sync (finish (done (own atr_res_cmd0 ∷ own atr_res_cmd1 ∷ rest 1 bs 2)))) no_partner_of)

-- ---- transceive

-- Type 2: a reply over 2 bytes must pass CRC_A and loses two bytes
abbrev pub transceive_type2 : List ℕ → ℕ → Script
transceive_type2 bytes ms =
    in_communicate_thru_of bytes ms
    (λ bs. if_else (ltb 3 (length bs))
    (if_else (checks crc_a (drop 1 bs)) (finish (done (part 0 bs 1 (length bs - 3)))) (refuse CrcA))
    (finish (done (rest 0 bs 1))))

abbrev pub transceive_type1 : List ℕ → ℕ → Script
transceive_type1 bytes ms = in_data_exchange_of bytes ms (λ bs. finish (done (rest 0 bs 1)))

abbrev pub transceive_thru : List ℕ → ℕ → Script
transceive_thru bytes ms = in_communicate_thru_of bytes ms (λ bs. finish (done (rest 0 bs 1)))
