-- What follows each reply of a discovery, by its stage, and the command of each stage.
use Rattle.std.specs.Prelude.{Bool, ◌||◌, List, [], ◌∷◌, ◌++◌, ℕ, ◌+◌, ◌*◌, ◌/◌, ◌%◌, eqb, leb, ltb, length, take, drop, get_or}
use Rattle.errors.specs.Choice.{pick}
use Rattle.errors.specs.Refusals.{by_status}
use Rattle.errors.specs.declared.Fault.{Fault}
use Rattle.errors.specs.declared.Fault.TheVariants.{Status, NoCard, UidLayout}
use Rattle.targets.specs.TypeA.{is_target_data, is_type2}
use Rattle.framing.specs.Lists.{both}
use Rattle.protocol.specs.Scripts.{done, type1, uid_and_ats, nothing, refused, refused_after}
use Rattle.protocol.specs.Rules.{any_nonzero_of, status_byte, masked_status}
use Rattle.protocol.specs.Arguments.{word}
use Rattle.protocol.specs.Discovery.{uid_length, ats_length, by_no_card, system_code_req}
use Rattle.chipset.specs.Responses.{found_written_of}
use Rattle.stages.specs.Stages.{Command, cmd, Decision, send, keep, next, put, pause, ends, refuse, with_length}
use Rattle.protocol.specs.Names.{ciu_fifo_data, ciu_mode, ciu_rx_mode, ciu_tx_control, command_clock, field_pause_time, in_jump_for_dep_clock, in_list_passive_target_clock, register_write_failed, registers_clock, rf_not_activated, rid_clock, timeout_status, type_b_clock, deselect_code, idm_and_pmm, listed_idm_offset, pmm_end, protocol_offset, sel_res_offset, sens_req, sens_res_offset, target_offset, uid_offset, wupb_code, wupb_parameter, rf_field_item, field_on, timeouts_item, timeouts, rx_crc_en, no_detect_sync, atr_res_cmd0, atr_res_cmd1, one_target, target_number, code_type1, card_mark, no_card_mark, rid_data, tx_rf_en}
use Rattle.protocol.specs.Calls.{in_communicate_thru_code, in_data_exchange_code, in_jump_for_dep_code, in_list_passive_target_code, read_register_code, rf_configuration_code, write_register_code}
use Rattle.discovery.specs.Kinds.{list_stage, fifo_stage, list_type1_stage, rid_stage, read_rx_mode_stage, write_rx_mode_stage, deselect_stage, wake_up_stage, field_stage, rf_on_stage, poll_stage, dep_timeouts_stage, jump_stage, write_mode_stage}

-- a list: without a target x, nothing where it is under n bytes, and else y
unfoldable pub by_target : ℕ → Decision → Decision → List ℕ → Decision
by_target n x y bs = pick (eqb (get_or bs 0 0) 0) x (with_length bs 2 (pick (ltb (length bs) n) (ends nothing) y))

-- ---- Type A

unfoldable pub type_a_command : ℕ → List ℕ → Command
type_a_command stage pending =
    pick (eqb stage list_stage) (cmd in_list_passive_target_code in_list_passive_target_clock pending)
    (pick (eqb stage fifo_stage) (cmd read_register_code registers_clock (word ciu_fifo_data))
    (pick (eqb stage list_type1_stage) (cmd in_list_passive_target_code in_list_passive_target_clock (one_target ∷ code_type1 ∷ []))
    (pick (eqb stage rid_stage) (cmd in_data_exchange_code rid_clock (target_number ∷ rid_data))
    (pick (eqb stage read_rx_mode_stage) (cmd read_register_code registers_clock (word ciu_rx_mode)) (cmd write_register_code registers_clock pending)))))

-- SENS_RES in the other order, SEL_RES, SDD_RES
abbrev pub card_bytes : List ℕ → List ℕ
card_bytes list = get_or list (sens_res_offset + 1) 0 ∷ get_or list sens_res_offset 0 ∷ get_or list sel_res_offset 0 ∷ drop uid_offset list

-- a listed target: of a Type 2 tag the RX mode is set before it is handed out
abbrev pub card_found_of : List ℕ → Decision
card_found_of bs = pick (is_type2 (get_or bs sel_res_offset 0)) (keep read_rx_mode_stage (card_bytes bs)) (ends (done (card_bytes bs)))

unfoldable pub listed_a_of : List ℕ → Decision
listed_a_of bs =
    pick (eqb (get_or bs 0 0) 0) (send fifo_stage) (with_length bs 2 (pick (ltb (length bs) uid_offset) (ends nothing) (card_found_of bs)))

unfoldable pub fifo_read : List ℕ → Decision
fifo_read bs = pick (eqb (get_or bs 0 0) sens_req) (ends nothing) (send list_type1_stage)

-- SENS_RES of a Type 1 tag in the other order, nothing of a list that is too short for it
unfoldable pub sens_res : List ℕ → List ℕ
sens_res list = pick (ltb (length list) 4) [] (get_or list (sens_res_offset + 1) 0 ∷ get_or list sens_res_offset 0 ∷ [])

unfoldable pub listed_type1_of : List ℕ → Decision
listed_type1_of bs = pick (eqb (get_or bs 0 0) 0) (ends nothing) (with_length bs 2 (keep rid_stage (sens_res bs)))

-- a status other than 0 is none; a list that was too short gives 16
unfoldable pub rid_of : List ℕ → List ℕ → Decision
rid_of found bs =
    pick (eqb (length bs) 0) (ends nothing)
    (pick (eqb (masked_status bs) 0) (with_length found 2 (ends (type1 (take 2 found ++ drop 1 bs)))) (ends nothing))

unfoldable pub rx_mode_read : List ℕ → Decision
rx_mode_read bs = with_length bs 1 (put write_rx_mode_stage (word ciu_rx_mode ++ (get_or bs 0 0 % rx_crc_en ∷ [])))

unfoldable pub type_a_decision : ℕ → List ℕ → List ℕ → Decision
type_a_decision stage found bs =
    pick (eqb stage list_stage) (listed_a_of bs)
    (pick (eqb stage fifo_stage) (fifo_read bs)
    (pick (eqb stage list_type1_stage) (listed_type1_of bs)
    (pick (eqb stage rid_stage) (rid_of found bs)
    (pick (eqb stage read_rx_mode_stage) (rx_mode_read bs) (found_written_of found bs)))))

-- a status is none in the RID exchange
unfoldable pub rid_failure : Fault → Decision
rid_failure fault = by_status (λ status. ends nothing) (refuse fault) fault

unfoldable pub type_a_failure : ℕ → Fault → Decision
type_a_failure stage fault = pick (eqb stage fifo_stage) (send list_type1_stage) (pick (eqb stage rid_stage) (rid_failure fault) (refuse fault))

-- ---- Type A in the mode that separates UID and ATS: Type A's stages. The cursor is the UID's length while the RX mode is set, where
-- the found bytes are three bytes, the UID and the ATS.

unfoldable pub split_found : List ℕ → Decision
split_found bs =
    pick (is_target_data (drop target_offset bs))
    (pick (is_type2 (get_or bs sel_res_offset 0)) (next read_rx_mode_stage (uid_length bs) (card_bytes bs)) (ends (uid_and_ats (card_bytes bs) (uid_length bs) (ats_length bs))))
    (refuse UidLayout)

unfoldable pub split_listed : List ℕ → Decision
split_listed bs =
    pick (eqb (get_or bs 0 0) 0) (send fifo_stage) (with_length bs 2 (pick (ltb (length bs) uid_offset) (ends nothing) (split_found bs)))

unfoldable pub split_written : ℕ → List ℕ → List ℕ → Decision
split_written cursor found bs =
    pick (any_nonzero_of bs) (refuse (Status register_write_failed)) (ends (uid_and_ats found cursor (get_or found (3 + cursor) 0)))

unfoldable pub split_decision : ℕ → ℕ → List ℕ → List ℕ → Decision
split_decision stage cursor found bs =
    pick (eqb stage list_stage) (split_listed bs) (pick (eqb stage write_rx_mode_stage) (split_written cursor found bs) (type_a_decision stage found bs))

-- ---- Type B

unfoldable pub type_b_command : ℕ → List ℕ → Command
type_b_command stage pending = pick (eqb stage list_stage) (cmd in_list_passive_target_code in_list_passive_target_clock pending) (pick (eqb stage deselect_stage) (cmd in_communicate_thru_code type_b_clock (deselect_code ∷ [])) (cmd in_communicate_thru_code type_b_clock pending))

-- a tag that is capable of ISO-DEP, by its protocol byte, is deselected; the wake-up is put by
unfoldable pub iso_dep_of : ℕ → ℕ → Decision
iso_dep_of protocol afi =
    pick (eqb (protocol % 2) 1) (pick (eqb (protocol / 8 % 2) 0) (put deselect_stage (wupb_code ∷ afi ∷ wupb_parameter ∷ [])) (ends nothing)) (ends nothing)

-- the pending command is the list's, which has the AFI behind 1 and the bitrate's code
unfoldable pub listed_b_of : List ℕ → List ℕ → Decision
listed_b_of pending bs =
    pick (eqb (get_or bs 0 0) 0) (ends nothing)
    (with_length bs 2 (pick (ltb (length bs) (protocol_offset + 1)) (ends nothing) (iso_dep_of (get_or bs protocol_offset 0) (get_or pending 2 0))))

unfoldable pub woken_up : List ℕ → Decision
woken_up bs = pick (eqb (status_byte bs) 0) (ends (done (drop 1 bs))) (ends nothing)

unfoldable pub type_b_decision : ℕ → List ℕ → List ℕ → Decision
type_b_decision stage pending bs = pick (eqb stage list_stage) (listed_b_of pending bs) (pick (eqb stage deselect_stage) (send wake_up_stage) (woken_up bs))

unfoldable pub type_b_failure : ℕ → Fault → Decision
type_b_failure stage fault = pick (eqb stage deselect_stage) (send wake_up_stage) (pick (eqb stage wake_up_stage) (ends nothing) (refuse fault))

-- ---- Type F

unfoldable pub type_f_command : ℕ → List ℕ → Command
type_f_command stage pending =
    pick (eqb stage field_stage) (cmd read_register_code registers_clock (word ciu_tx_control)) (pick (eqb stage rf_on_stage) (cmd rf_configuration_code command_clock (rf_field_item ∷ field_on ∷ [])) (cmd in_list_passive_target_code in_list_passive_target_clock pending))

unfoldable pub tx_control_read : List ℕ → Decision
tx_control_read bs = with_length bs 1 (pick (eqb (get_or bs 0 0 % tx_rf_en) 0) (send rf_on_stage) (send poll_stage))

unfoldable pub polled : List ℕ → Decision
polled bs = pick (eqb (get_or bs 0 0) 0) (refuse NoCard) (with_length bs 2 (with_length bs pmm_end (ends (done (drop listed_idm_offset bs)))))

unfoldable pub type_f_decision : ℕ → List ℕ → Decision
type_f_decision stage bs = pick (eqb stage field_stage) (tx_control_read bs) (pick (eqb stage rf_on_stage) (pause field_pause_time poll_stage) (polled bs))

-- ---- several system codes: Type F's stages for each. The pending command is the bitrate's code and the words of the system codes; the
-- cursor is the number of codes finished.

-- the poll of the cursor's code
abbrev pub poll_of : ℕ → List ℕ → List ℕ
poll_of cursor pending = one_target ∷ get_or pending 0 0 ∷ system_code_req (256 * get_or pending (2 * cursor + 1) 0 + get_or pending (2 * cursor + 2) 0)

unfoldable pub poll_command : ℕ → ℕ → List ℕ → Command
poll_command stage cursor pending = type_f_command stage (poll_of cursor pending)

-- the most bytes that the codes before the last add: a mark, IDm and PMm for each
abbrev pub so_far_limit : ℕ
so_far_limit = 255

-- what the finished codes add to the answer: nothing before the first
unfoldable pub so_far : ℕ → List ℕ → List ℕ
so_far cursor found = pick (eqb cursor 0) [] (take so_far_limit found)

-- a code follows, where this is not the last
abbrev pub last_code : ℕ
last_code = 15

unfoldable pub has_next_of : ℕ → List ℕ → Bool
has_next_of cursor pending = both (ltb cursor last_code) (leb (2 * cursor + 5) (length pending))

-- a code is finished, and adds these bytes
unfoldable pub code_finished : ℕ → List ℕ → List ℕ → List ℕ → Decision
code_finished cursor pending found bytes =
    pick (has_next_of cursor pending) (next field_stage (cursor + 1) (so_far cursor found ++ bytes)) (ends (done (so_far cursor found ++ bytes)))

-- no card is the mark 00; any other fault ends the list
unfoldable pub poll_failure : ℕ → List ℕ → List ℕ → Fault → Decision
poll_failure cursor pending found fault = by_no_card (code_finished cursor pending found (no_card_mark ∷ [])) (ends (refused_after fault cursor)) fault

-- a decision whose ends with bytes and with a fault are others
abbrev pub on_end : (List ℕ → Decision) → (Fault → Decision) → Decision → Decision
on_end f g (send n) = send n
on_end f g (keep n l) = keep n l
on_end f g (next n c l) = next n c l
on_end f g (put n l) = put n l
on_end f g (pause us n) = pause us n
on_end f g (ends (done bytes)) = f bytes
on_end f g (ends (type1 bytes)) = ends (type1 bytes)
on_end f g (ends (uid_and_ats bytes uid ats)) = ends (uid_and_ats bytes uid ats)
on_end f g (ends nothing) = ends nothing
on_end f g (ends (refused fault)) = g fault
on_end f g (ends (refused_after fault n)) = ends (refused_after fault n)

-- Type F's; a card is the mark 01, IDm and PMm
unfoldable pub poll_decision : ℕ → ℕ → List ℕ → List ℕ → List ℕ → Decision
poll_decision stage cursor pending found bs =
    on_end (λ bytes. code_finished cursor pending found (card_mark ∷ take idm_and_pmm bytes)) (poll_failure cursor pending found) (type_f_decision stage bs)

-- ---- DEP

unfoldable pub dep_command : ℕ → List ℕ → Command
dep_command stage pending =
    pick (eqb stage dep_timeouts_stage) (cmd rf_configuration_code command_clock (timeouts_item ∷ timeouts))
    (pick (eqb stage jump_stage) (cmd in_jump_for_dep_code in_jump_for_dep_clock pending) (cmd write_register_code registers_clock (word ciu_mode ++ (no_detect_sync ∷ []))))

unfoldable pub no_partner_of : ℕ → Decision
no_partner_of status = pick (eqb status timeout_status || eqb status rf_not_activated) (ends nothing) (refuse (Status status))

unfoldable pub jumped_to : List ℕ → Decision
jumped_to bs = pick (eqb (status_byte bs) 0) (with_length bs 2 (keep write_mode_stage (atr_res_cmd0 ∷ atr_res_cmd1 ∷ drop 2 bs))) (no_partner_of (status_byte bs))

unfoldable pub dep_decision : ℕ → List ℕ → List ℕ → Decision
dep_decision stage found bs = pick (eqb stage dep_timeouts_stage) (send jump_stage) (pick (eqb stage jump_stage) (jumped_to bs) (found_written_of found bs))

unfoldable pub jump_failure : Fault → Decision
jump_failure fault = by_status no_partner_of (refuse fault) fault

unfoldable pub dep_failure : ℕ → Fault → Decision
dep_failure stage fault = pick (eqb stage jump_stage) (jump_failure fault) (refuse fault)
