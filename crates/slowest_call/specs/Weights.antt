-- The weight of every call: a line for each.
use Rattle.std.specs.Prelude.{◌≡◌, Bool, true, false, cond, List, ℕ, ◌-◌, leb, ltb, length}
use Rattle.std.proofs.Common.{subst}
use Rattle.std.proofs.lemmas.Bool.{false≢true}
use Rattle.std.proofs.Math.Option.{Option, none, some}
use Rattle.errors.specs.Refusals.{by_status}
use Rattle.errors.specs.declared.Fault.{Fault}
use Rattle.errors.specs.declared.Fault.TheVariants.{Transport, TimeOut, FalseStart, BrokenFrame, Length, FrameKind, Identifier, Code, Status, ShortResponse, NoCard, CrcA, Rate, CardStatus, OtherCard, UidLayout}
use Rattle.errors.specs.declared.Refusal.TheVariants.{Bitrate as BadBitrate}
use Rattle.std.specs.Prelude.{Result, Ok, Err}
use Rattle.targets.specs.Bitrates.{Choice, chosen, no_code_of, by_bitrate, by_code_of}
use Rattle.targets.specs.declared.Bitrate.{Bitrate}
use Rattle.protocol.specs.Scripts.{Script, if_else, ask}
use Rattle.protocol.specs.Rules.{Rule, version, no_bytes_of, all_bytes, registers_written, first_byte_of, listed_target, exchanged_data, thru, jump, status, initiator_command, target_status, rule_script}
use Rattle.protocol.specs.Calls.{Row, row, resets, row_of, Call, opening, reader, request, device, unknown, padded_mode}
use Rattle.protocol.specs.Calls.{Request, reset_mode_of, set_parameters_of, rf_configuration_of, rf_field_off_of, read_register, write_register_of, read_single_register_of, write_single_register_of, in_list_passive_target_of, in_data_exchange_of, in_communicate_thru_of, in_jump_for_dep, tg_init_target, tg_set_general_bytes, tg_get_initiator_command, tg_response_to_initiator, tg_get_target_status}
use Rattle.protocol.specs.Calls as calls
use Rattle.protocol.specs.Calls.{DeviceCall, detect_type_a_of, detect_type_a_split, detect_type_b_of, detect_type_f_of, poll_type_f, detect_dep_of, transceive, read_without_encryption, write_without_encryption}
use Rattle.protocol.specs.Starts.{Start, refuses, limited, row_start}
use Rattle.protocol.specs.Blocks.{by_check}
use Rattle.protocol.specs.Device.{device_new}
use Rattle.protocol.specs.Names.{version_need}
use Rattle.protocol.proofs.Sound.{holds}
use Rattle.slowest_call.specs.Question.{is_slow, Most, MostStarted, MostOf, NoneLonger}
use Rattle.slowest_call.specs.Kinds.{Kind, opening_kind, request_kind, device_kind, kind_of, most}
use Rattle.slowest_call.specs.Bound.{none_longer}

-- ---- rules

pub most_if : (b : Bool) (x y : Script) (n : ℕ) → Most x n → Most y n → Most (if_else b x y) n
most_if true x y n h k = h
most_if false x y n h k = k

-- a fault that is no 15, and any
pub slow_status : (f : ℕ → Script) (a : Script) (r : Fault) (n : ℕ) → is_slow r ≡ true → Most a n → Most (by_status f a r) n
slow_status f a Transport n e k = k
slow_status f a TimeOut n e k = k
slow_status f a FalseStart n e k = k
slow_status f a BrokenFrame n e k = k
slow_status f a Length n e k = k
slow_status f a FrameKind n e k = k
slow_status f a Identifier n e k = k
slow_status f a Code n e k = k
slow_status f a (Status s) n e k = absurd (false≢true e)
slow_status f a ShortResponse n e k = k
slow_status f a NoCard n e k = k
slow_status f a CrcA n e k = k
slow_status f a Rate n e k = k
slow_status f a (CardStatus s t) n e k = k
slow_status f a OtherCard n e k = k
slow_status f a UidLayout n e k = k

pub most_status : (f : ℕ → Script) (a : Script) (r : Fault) (n : ℕ) → ((s : ℕ) → Most (f s) n) → Most a n → Most (by_status f a r) n
most_status f a Transport n h k = k
most_status f a TimeOut n h k = k
most_status f a FalseStart n h k = k
most_status f a BrokenFrame n h k = k
most_status f a Length n h k = k
most_status f a FrameKind n h k = k
most_status f a Identifier n h k = k
most_status f a Code n h k = k
most_status f a (Status s) n h k = h s
most_status f a ShortResponse n h k = k
most_status f a NoCard n h k = k
most_status f a CrcA n h k = k
most_status f a Rate n h k = k
most_status f a (CardStatus s t) n h k = k
most_status f a OtherCard n h k = k
most_status f a UidLayout n h k = k

pub most_check : (s : Script) (c : Result (Unit {0}) Fault) (n : ℕ) → Most s n → Most (by_check s c) n
most_check s (Ok v) n h = h
most_check s (Err r) n h = tt

pub start_if : (o t : Bool) (x y : Start) (n : ℕ) → MostStarted o x n → MostStarted o y n → MostStarted o (cond t x y) n
start_if o true x y n h k = h
start_if o false x y n h k = k

pub start_bitrate : (o : Bool) (c : Choice) (f : Bitrate → Start) (n : ℕ) → ((b : Bitrate) → MostStarted o (f b) n) → MostStarted o (by_bitrate (refuses BadBitrate) c f) n
start_bitrate o (chosen b) f n h = h b
start_bitrate o (no_code_of e) f n h = tt

pub start_code : (o : Bool) (code : Option ℕ) (f : ℕ → Start) (n : ℕ) → ((k : ℕ) → MostStarted o (f k) n) → MostStarted o (by_code_of (refuses BadBitrate) code f) n
start_code o none f n h = tt
start_code o (some k) f n h = h k

pub ruleset most_rules = (holds, most_if, slow_status, most_status, most_check, start_if, start_bitrate, start_code)

-- ---- each call

abbrev most_row : Row → ℕ
most_row (row asserts code clock bytes rule) = 4
most_row resets = 6

rule_most : (code clock : ℕ) (bytes : List ℕ) (q : Rule) → MostStarted false (limited bytes (ask code clock bytes (rule_script q))) 4
rule_most code clock bytes version = search most_rules depth 60
rule_most code clock bytes no_bytes_of = search most_rules depth 60
rule_most code clock bytes all_bytes = search most_rules depth 60
rule_most code clock bytes registers_written = search most_rules depth 60
rule_most code clock bytes first_byte_of = search most_rules depth 60
rule_most code clock bytes listed_target = search most_rules depth 60
rule_most code clock bytes exchanged_data = search most_rules depth 60
rule_most code clock bytes thru = search most_rules depth 60
rule_most code clock bytes jump = search most_rules depth 60
rule_most code clock bytes status = search most_rules depth 60
rule_most code clock bytes initiator_command = search most_rules depth 60
rule_most code clock bytes target_status = search most_rules depth 60

row-most : (w : Row) → MostStarted false (row_start w) (most_row w)
row-most (row asserts code clock bytes q) = start_if false asserts _ _ 4 (rule_most code clock bytes q) tt
row-most resets = search most_rules depth 60

-- the weight, where there is one
abbrev pub HasMost : Call → Option Kind → Type 0
HasMost c none = Unit {0}
HasMost c (some k) = MostOf c (most k)

request-most : (r : Request) → MostOf (reader (request r)) (most (request_kind r))
request-most calls.version = row-most (row_of calls.version)
request-most reset_mode_of = row-most (row_of reset_mode_of)
request-most (set_parameters_of flags) = row-most (row_of (set_parameters_of flags))
request-most (rf_configuration_of item bytes) = row-most (row_of (rf_configuration_of item bytes))
request-most rf_field_off_of = row-most (row_of rf_field_off_of)
request-most (read_register addresses) = row-most (row_of (read_register addresses))
request-most (write_register_of values) = row-most (row_of (write_register_of values))
request-most (read_single_register_of address) = row-most (row_of (read_single_register_of address))
request-most (write_single_register_of address value) = row-most (row_of (write_single_register_of address value))
request-most (in_list_passive_target_of maxTg bitrate bytes) = row-most (row_of (in_list_passive_target_of maxTg bitrate bytes))
request-most (in_data_exchange_of bytes ms) = row-most (row_of (in_data_exchange_of bytes ms))
request-most (in_communicate_thru_of bytes ms) = row-most (row_of (in_communicate_thru_of bytes ms))
request-most (in_jump_for_dep active br passive nfcid3 gi) = row-most (row_of (in_jump_for_dep active br passive nfcid3 gi))
request-most (tg_init_target mode mifare felica nfcid3t gt ms) = row-most (row_of (tg_init_target mode mifare felica nfcid3t gt ms))
request-most (tg_set_general_bytes gb) = row-most (row_of (tg_set_general_bytes gb))
request-most (tg_get_initiator_command ms) = row-most (row_of (tg_get_initiator_command ms))
request-most (tg_response_to_initiator bytes) = row-most (row_of (tg_response_to_initiator bytes))
request-most tg_get_target_status = row-most (row_of tg_get_target_status)

device_most : (d : DeviceCall) → HasMost (reader (device d)) (device_kind d)
device_most (detect_type_a_of text uid) = search most_rules depth 60
device_most (detect_type_a_split text uid) = search most_rules depth 60
device_most (detect_type_b_of text sensbReq) = search most_rules depth 60
device_most (detect_type_f_of text systemCode requestCode timeSlots) = search most_rules depth 60
device_most (poll_type_f text words) = tt
device_most (detect_dep_of text atrReq) = search most_rules depth 60
device_most (transceive text selRes ridRes bytes ms) = search most_rules depth 60
device_most (read_without_encryption idm service blocks ms) = search most_rules depth 60
device_most (write_without_encryption idm service blocks bytes ms) = search most_rules depth 60

-- the opening's ten commands; a failure of those that are no reset ends the call
fault_ends : (t : Bool) (r : Fault) → is_slow r ≡ t → Unit {0}
fault_ends t r e = tt

abbrev asked : {A : Type 0} → A → Unit {0} × A × ((r : Fault) → is_slow r ≡ true → Unit {0}) × ((r : Fault) → is_slow r ≡ false → Unit {0})
asked a = (tt, a, fault_ends true, fault_ends false)

opening_most : Most device_new (most opening_kind - 2)
opening_most = (
  tt,
  asked (λ bs. most_if (ltb (length bs) version_need) _ _ 28 tt
      (asked (λ _. asked (λ _. asked (λ _. asked (λ _. asked (λ _. asked (λ _. (tt, asked (λ bs. search most_rules depth 60)))))))))),
)

call_most : (c : Call) → HasMost c (kind_of c)
call_most (opening mode) = start_if true (leb mode padded_mode) _ _ (most opening_kind) (tt, opening_most) tt
call_most (reader (request r)) = request-most r
call_most (reader (device d)) = device_most d
call_most (reader unknown) = tt

-- no run of a call of a kind is longer
pub none_of_kind : (k : Kind) (c : Call) → kind_of c ≡ some k → NoneLonger c (most k)
none_of_kind k c e = none_longer (most k) c (subst (HasMost c) e (call_most c))
