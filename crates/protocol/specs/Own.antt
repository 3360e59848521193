-- Which bytes of an answer are the engine's own, and what they are worked out from. Document 01 names them: DEP's D5 01, the chip's
-- name, the more flag and rates; document 02 the marks of a list of system codes, and two lengths
-- beside Type A's answer. All other bytes are card bytes. A new rule or discovery adds its line.
use Rattle.std.specs.Prelude.{◌≡◌, Bool, cond, List, [], ◌∷◌, ◌++◌, ℕ, suc, ◌+◌, ◌/◌, ◌%◌, ◌≤◌, eqb, length, drop}
use Rattle.targets.specs.TypeA.{TargetData}
use Rattle.protocol.specs.Scripts.{Byte, own, card, Answer, done, type1, uid_and_ats, nothing, refused, refused_after, byte_at, part, rest}
use Rattle.protocol.specs.Rules.{Rule, version, no_bytes_of, all_bytes, registers_written, first_byte_of, listed_target, exchanged_data, thru, jump, status, initiator_command, target_status, rate, rate_bytes}
use Rattle.protocol.specs.Device.{chipset_name}
use Rattle.protocol.specs.Calls.{Request, Row, row, resets, row_of, Call, opening, reader, request, device, unknown}
use Rattle.protocol.specs.Calls.{DeviceCall, detect_type_a_of, detect_type_a_split, detect_type_b_of, detect_type_f_of, poll_type_f, detect_dep_of, transceive, read_without_encryption, write_without_encryption}
use Rattle.protocol.specs.Names.{idm_and_pmm, listed_idm_offset, sel_res_offset, sens_res_offset, target_offset, uid_length_offset, uid_offset, more_bit, atr_res_cmd0, atr_res_cmd1, card_mark, no_card_mark}

-- ---- the forms of an answer

-- card bytes alone, or no bytes
abbrev pub Cards : List Byte → Type 0
Cards [] = Unit {0}
Cards (own b ∷ bytes) = ⊥
Cards (card k p b ∷ bytes) = Cards bytes

-- bytes of the engine's own alone
abbrev pub Owns : List Byte → Type 0
Owns [] = Unit {0}
Owns (own b ∷ bytes) = Owns bytes
Owns (card k p b ∷ bytes) = ⊥

-- IC, version and revision are card bytes; behind them stands the chip's name, made of this version and this revision
pub record VersionAndName (bytes : List Byte) : Type 0 where
  pub ic : ℕ
  pub ver : ℕ
  pub rev : ℕ
  pub form : bytes ≡ card 1 0 ic ∷ card 1 1 ver ∷ card 1 2 rev ∷ chipset_name ver rev
  pub own_name : Owns (chipset_name ver rev)

-- D5 01, then card bytes
pub record DepAndCards (bytes : List Byte) : Type 0 where
  pub cards : List Byte
  pub form : bytes ≡ own atr_res_cmd0 ∷ own atr_res_cmd1 ∷ cards
  pub all_cards : Cards cards

-- The answer for n system codes, which took k commands. A code's poll is its last command: its second, or its third where the field
-- was off (`more` is 0 or 1). A card met is the mark 01, then IDm and PMm, bytes 4 to 19 of the response to this poll; no card met is
-- the mark 00.
pub data Polled : ℕ → ℕ → List Byte → Type 0 where
  no_codes : Polled 0 0 []
  met : (n k more : ℕ) (bytes : List Byte) (response : List ℕ) → Polled n k bytes → more ≤ 1
      → Polled (suc n) (k + (more + 2)) (bytes ++ (own card_mark ∷ part (k + (more + 1)) response listed_idm_offset idm_and_pmm))
  not_met : (n k more : ℕ) (bytes : List Byte) → Polled n k bytes → more ≤ 1 → Polled (suc n) (k + (more + 2)) (bytes ++ (own no_card_mark ∷ []))

pub record PolledCodes (n : ℕ) (bytes : List Byte) : Type 0 where
  pub commands : ℕ
  pub polled : Polled n commands bytes

-- a rate by its index, 0 for none
abbrev pub rate_if : Bool → ℕ → ℕ
rate_if isActive index = cond isActive (rate index) 0

-- `At k p b`: b is the byte at position p of the response to the call's command k.
module _ (At : ℕ → ℕ → ℕ → Type 0) where
  -- card bytes, then the more flag: bit 6 of the status
  pub record CardsAndFlag (bytes : List Byte) : Type 0 where
    pub cards : List Byte
    pub status : ℕ
    pub form : bytes ≡ cards ++ (own (status / more_bit % 2) ∷ [])
    pub all_cards : Cards cards
    pub source : At 0 0 status

  -- the state, a card byte, then two rates, the high byte of each first: by bits 4 to 6 and 0 to 2 of the next byte in state 1, else 0
  pub record CardAndRates (bytes : List Byte) : Type 0 where
    pub state : ℕ
    pub indices : ℕ
    pub form : bytes ≡ card 0 0 state ∷ (rate_bytes (rate_if (eqb state 1) (indices / 16 % 8)) ++ rate_bytes (rate_if (eqb state 1) (indices % 8)))
    pub source : At 0 1 indices

  -- Type A's answer with two lengths: SENS_RES, SEL_RES and what follows NFCID1Length of the list, which is the response to command 0.
  -- Its data is target data, and the lengths are those of its UID and its ATS. NFCID1Length, which the UID's is taken from, is byte 5.
  pub record OfTarget (bytes : List Byte) (uid_length ats_length : ℕ) : Type 0 where
    pub list : List ℕ
    pub uid : List ℕ
    pub ats : List ℕ
    pub form : bytes ≡ byte_at 0 list (sens_res_offset + 1) ∷ byte_at 0 list sens_res_offset ∷ byte_at 0 list sel_res_offset ∷ rest 0 list uid_offset
    pub target : TargetData (drop target_offset list) uid ats
    pub uid_is : uid_length ≡ length uid
    pub ats_is : ats_length ≡ length ats
    pub source : At 0 uid_length_offset uid_length

pub data Form : Type 0 where
  only_cards : Form
  version_and_name : Form
  cards_and_flag : Form
  card_and_rates : Form
  dep_and_cards : Form
  polled_codes : ℕ → Form

-- of an answer's bytes, and of an answer: `none` and refusals have no bytes
abbrev pub HasForm : (ℕ → ℕ → ℕ → Type 0) → Form → List Byte → Type 0
HasForm At only_cards bytes = Cards bytes
HasForm At version_and_name bytes = VersionAndName bytes
HasForm At cards_and_flag bytes = CardsAndFlag At bytes
HasForm At card_and_rates bytes = CardAndRates At bytes
HasForm At dep_and_cards bytes = DepAndCards bytes
HasForm At (polled_codes n) bytes = PolledCodes n bytes

abbrev pub Formed : (ℕ → ℕ → ℕ → Type 0) → Form → Answer Byte → Type 0
Formed At f (done bytes) = HasForm At f bytes
Formed At f (type1 bytes) = HasForm At f bytes
Formed At f (uid_and_ats bytes uid ats) = Cards bytes × OfTarget At bytes uid ats
Formed At f nothing = Unit {0}
Formed At f (refused r) = Unit {0}
Formed At f (refused_after r n) = Unit {0}

-- ---- the form of each call's answer

-- of a command, by its rule
abbrev pub rule_form : Rule → Form
rule_form version = only_cards
rule_form no_bytes_of = only_cards
rule_form all_bytes = only_cards
rule_form registers_written = only_cards
rule_form first_byte_of = only_cards
rule_form listed_target = only_cards
rule_form exchanged_data = cards_and_flag
rule_form thru = only_cards
rule_form jump = only_cards
rule_form status = only_cards
rule_form initiator_command = only_cards
rule_form target_status = card_and_rates

abbrev pub row_form : Row → Form
row_form (row holds code clock sent rule) = rule_form rule
row_form resets = only_cards

abbrev pub request_form : Request → Form
request_form r = row_form (row_of r)

abbrev pub device_form : DeviceCall → Form
device_form (detect_type_a_of text uid) = only_cards
device_form (detect_type_a_split text uid) = only_cards
device_form (detect_type_b_of text sensbReq) = only_cards
device_form (detect_type_f_of text systemCode requestCode timeSlots) = only_cards
device_form (poll_type_f text words) = polled_codes (length words / 2)
device_form (detect_dep_of text atrReq) = dep_and_cards
device_form (transceive text selRes ridRes sent ms) = only_cards
device_form (read_without_encryption idm service blocks ms) = only_cards
device_form (write_without_encryption idm service blocks sent ms) = only_cards

abbrev pub form_of : Call → Form
form_of (opening mode) = version_and_name
form_of (reader (request r)) = request_form r
form_of (reader (device d)) = device_form d
form_of (reader unknown) = only_cards
