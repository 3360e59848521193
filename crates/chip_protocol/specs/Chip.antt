-- The chip: its state, its response to a command of the opening, the discoveries and transceive, and its state after it.
use Rattle.std.specs.Prelude.{Bool, true, false, List, [], ◌∷◌, map, ℕ, zero, suc, ◌/◌, ◌%◌, eqb, ltb, length, get_or, drop}
use Rattle.std.proofs.Math.Option.{Option, none, some}
use Rattle.errors.specs.Choice.{pick}
use Rattle.protocol.specs.Arguments.{words_in}
use Rattle.protocol.specs.Calls.{get_firmware_version_code, read_register_code, write_register_code, set_parameters_code, reset_mode_code, rf_configuration_code, in_data_exchange_code, in_communicate_thru_code, in_list_passive_target_code, in_jump_for_dep_code}
use Rattle.protocol.specs.Names.{ciu_fifo_data, ciu_tx_control, sens_req, timeout_status, rf_field_item, one_target, target_number}
use Rattle.chip_protocol.specs.Names.{longest_response, firmware_version, success_status, no_target, tx_control_on, tx_control_off, other_register, initiator_offset, br_ty_offset, type_a_initiator, type_b_initiator, type_f_initiator}
use Rattle.chip_protocol.specs.Packets.{Received, received, no_command, received_in, Response, responds, syntax_error, packets_of}
use Rattle.chip_protocol.specs.Field.{Card, is_at, reply_to}
use Rattle.chip_protocol.specs.declared.Kind.{Kind}
use Rattle.chip_protocol.specs.declared.Kind.TheVariants.{TypeA, TypeB, TypeF, Dep}

-- the cards, the place of the card found among them, and whether the RF field is on
pub record ChipState : Type 0 where
  pub field : List Card
  pub found : Option ℕ
  pub is_rf_field_on : Bool

-- at its start
abbrev pub fresh_chip : ChipState
fresh_chip = record { field = []; found = none; is_rf_field_on = false }

abbrev pub with_found_of : ChipState → Option ℕ → Bool → ChipState
with_found_of s place on = record { field = s.field; found = place; is_rf_field_on = on }

-- more cards or replies: what was found stays found
abbrev pub with_field : ChipState → List Card → ChipState
with_field s f = record { field = f; found = s.found; is_rf_field_on = s.is_rf_field_on }

-- ---- the search for a card

abbrev pub card_in : List Card → ℕ → Option Card
card_in [] n = none
card_in (c ∷ cs) zero = some c
card_in (c ∷ cs) (suc n) = card_in cs n

abbrev pub card_at : List Card → Option ℕ → Option Card
card_at f none = none
card_at f (some n) = card_in f n

-- the place of the first card of the kind at the bitrate of this code, the places being counted from n on
unfoldable pub first_from : ℕ → Kind → ℕ → List Card → Option ℕ
first_from n k code [] = none
first_from n k code (c ∷ cs) = pick (is_at k code c) (some n) (first_from (suc n) k code cs)

abbrev pub first_place_of : Kind → ℕ → List Card → Option ℕ
first_place_of k code f = first_from zero k code f

-- Type A, B and F are told apart by the length of the initiator data
unfoldable pub searched : List Card → ℕ → ℕ → Option ℕ
searched f code initiator =
    pick (eqb initiator type_a_initiator) (first_place_of TypeA code f)
    (pick (eqb initiator type_b_initiator) (first_place_of TypeB code f)
    (pick (eqb initiator type_f_initiator) (first_place_of TypeF code f) none))

-- InListPassiveTarget, InJumpForDEP
abbrev pub listed_place : List Card → List ℕ → Option ℕ
listed_place f bytes = searched f (get_or bytes br_ty_offset 0) (length (drop initiator_offset bytes))

abbrev pub partner_place : List Card → List ℕ → Option ℕ
partner_place f bytes = first_place_of Dep (get_or bytes br_ty_offset 0) f

-- ---- responses

abbrev pub listed : Option Card → List ℕ
listed none = no_target ∷ []
listed (some c) = one_target ∷ target_number ∷ c.list_data

abbrev pub jumped : Option Card → List ℕ
jumped none = timeout_status ∷ []
jumped (some c) = success_status ∷ target_number ∷ c.list_data

abbrev pub exchanged : Option (List ℕ) → List ℕ
exchanged none = timeout_status ∷ []
exchanged (some reply) = success_status ∷ reply

abbrev pub exchanged_with : Option Card → List ℕ → List ℕ
exchanged_with none bytes = timeout_status ∷ []
exchanged_with (some c) bytes = exchanged (reply_to c.replies bytes)

-- registers: the FIFO reads 26 at all times, CIU_TxControl says if the RF field is on
unfoldable pub register_value_of : Bool → ℕ → ℕ
register_value_of on address =
    pick (eqb address ciu_fifo_data) sens_req
    (pick (eqb address ciu_tx_control) (pick on tx_control_on tx_control_off) other_register)

-- a byte for each word; more than fit a packet are an error
unfoldable pub registers_read : Bool → List ℕ → Response
registers_read on bytes = pick (ltb longest_response (length bytes / 2)) syntax_error (responds (map (register_value_of on) (words_in bytes)))

unfoldable pub response_to : ChipState → ℕ → List ℕ → Response
response_to s code bytes =
    pick (eqb code get_firmware_version_code) (responds firmware_version)
    (pick (eqb code read_register_code) (registers_read s.is_rf_field_on bytes)
    (pick (eqb code write_register_code) (responds (success_status ∷ []))
    (pick (eqb code set_parameters_code) (responds [])
    (pick (eqb code reset_mode_code) (responds [])
    (pick (eqb code rf_configuration_code) (responds [])
    (pick (eqb code in_data_exchange_code) (responds (exchanged_with (card_at s.field s.found) (drop 1 bytes)))
    (pick (eqb code in_communicate_thru_code) (responds (exchanged_with (card_at s.field s.found) bytes))
    (pick (eqb code in_list_passive_target_code) (responds (listed (card_at s.field (listed_place s.field bytes))))
    (pick (eqb code in_jump_for_dep_code) (responds (jumped (card_at s.field (partner_place s.field bytes)))) syntax_error)))))))))

-- ---- the state afterwards

-- RFConfiguration's item 1 switches the RF field by its byte's lowest bit
unfoldable pub field_on_after : Bool → List ℕ → Bool
field_on_after on bytes = pick (eqb (get_or bytes 0 0) rf_field_item) (eqb (get_or bytes 1 0 % 2) 1) on

-- a card stays found until the next search or reset
unfoldable pub state_after : ChipState → ℕ → List ℕ → ChipState
state_after s code bytes =
    pick (eqb code reset_mode_code) (with_found_of s none false)
    (pick (eqb code rf_configuration_code) (with_found_of s s.found (field_on_after s.is_rf_field_on bytes))
    (pick (eqb code in_list_passive_target_code) (with_found_of s (listed_place s.field bytes) true)
    (pick (eqb code in_jump_for_dep_code) (with_found_of s (partner_place s.field bytes) true) s)))

-- ---- the chip's step: the bytes that the host wrote; the packets that the chip sends for them, and its state then

pub record ChipStep : Type 0 where
  pub state : ChipState
  pub packets : List (List ℕ)

abbrev pub step_for : ChipState → Received → ChipStep
step_for s (received code bytes) = record { state = state_after s code bytes; packets = packets_of code (response_to s code bytes) }
step_for s no_command = record { state = s; packets = [] }

unfoldable pub chip_step : ChipState → List ℕ → ChipStep
chip_step s written = step_for s (received_in written)
