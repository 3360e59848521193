-- The chip's own numbers by name. Those that host and chip share are in framing/specs/Names.antt and protocol/specs/Names.antt, the command codes in
-- protocol/specs/Calls.antt.
use Rattle.std.specs.Prelude.{List, [], ◌∷◌, ◌≡◌, refl, ℕ, ◌+◌}
use Rattle.framing.specs.Names.{extended_overhead}
use Rattle.protocol.specs.Names.{target_offset}

-- the longest packet, and the most bytes that a response has behind D5 and its code
abbrev pub longest_packet : ℕ
longest_packet = 1024

abbrev pub longest_response : ℕ
longest_response = 1012

longest_response_lem : extended_overhead + (2 + longest_response) ≡ longest_packet
longest_response_lem = refl

-- the most list data: two bytes stand before it. The longest reply: the status stands before it.
abbrev pub longest_list_data : ℕ
longest_list_data = 1010

longest_list_data_lem : target_offset + longest_list_data ≡ longest_response
longest_list_data_lem = refl

abbrev pub longest_reply : ℕ
longest_reply = 1011

longest-reply : 1 + longest_reply ≡ longest_response
longest-reply = refl

-- the most cards in a field, and stated replies of a card
abbrev pub most_cards : ℕ
most_cards = 4

abbrev pub most_replies : ℕ
most_replies = 8

-- GetFirmwareVersion's response: IC, Ver, Rev, Support of an RC-S956
abbrev pub firmware_version : List ℕ
firmware_version = 0x33 ∷ 0x01 ∷ 0x30 ∷ 0x07 ∷ []

-- the status of a command that succeeded
abbrev pub success_status : ℕ
success_status = 0x00

-- the number of targets in InListPassiveTarget's response
abbrev pub no_target : ℕ
no_target = 0

-- CIU_TxControl with the RF field on, and with it off; the registers of which nothing is known
abbrev pub tx_control_on : ℕ
tx_control_on = 0x83

abbrev pub tx_control_off : ℕ
tx_control_off = 0x80

abbrev pub other_register : ℕ
other_register = 0x00

-- InListPassiveTarget: the bytes before the initiator data, MaxTg and BrTy; where BrTy stands, and where InJumpForDEP has BR
abbrev pub initiator_offset : ℕ
initiator_offset = 2

abbrev pub br_ty_offset : ℕ
br_ty_offset = 1

-- how long the initiator data is: of Type A without a UID, of Type B the AFI, of Type F SENSF_REQ
abbrev pub type_a_initiator : ℕ
type_a_initiator = 0

abbrev pub type_b_initiator : ℕ
type_b_initiator = 1

abbrev pub type_f_initiator : ℕ
type_f_initiator = 5

-- what stands for the code of a bitrate that no search has
abbrev pub no_br_ty : ℕ
no_br_ty = 0xFF
