-- How each call starts: it is refused at once, or it is a script. A command's is by its row; a discovery adds its line in `device_start`.
use Rattle.std.specs.Prelude.{Bool, true, false, cond, ◌&&◌, ◌||◌, List, [], ◌∷◌, ℕ, ◌+◌, eqb, leb, ltb, length, get_or}
use Rattle.std.proofs.Math.Option.{Option, none, some}
use Rattle.errors.specs.declared.Refusal.{Refusal}
use Rattle.errors.specs.declared.Refusal.TheVariants.{OverLong, BadArgument, NotSendable, Bitrate as BadBitrate}
use Rattle.felica.specs.Packets.{request_fits, write_fits_of}
use Rattle.targets.specs.Bitrates.{choice_of, by_bitrate, code_or}
use Rattle.targets.specs.TypeA.{is_type2}
use Rattle.targets.specs.declared.Bitrate.{Bitrate}
use Rattle.targets.specs.declared.Bitrate.TheVariants.{B106A, B212F, B424F, B106B, B212B, B424B, B848B, Other}
use Rattle.protocol.specs.Scripts.{Script, reset, ask, if_else}
use Rattle.protocol.specs.Rules.{rule_script, finished}
use Rattle.protocol.specs.Arguments.{system_codes_fit, atr_req_fits, words_in}
use Rattle.protocol.specs.Calls.{Row, row, resets, Request, row_of, ReaderCall, request, device, unknown, Call, opening, reader, padded_mode}
use Rattle.protocol.specs.Calls.{DeviceCall, detect_type_a_of, detect_type_a_split, detect_type_b_of, detect_type_f_of, poll_type_f, detect_dep_of, transceive, read_without_encryption, write_without_encryption}
use Rattle.protocol.specs.Device.{device_new}
use Rattle.protocol.specs.Discovery.{cascaded, sensf_req}
use Rattle.protocol.specs.Blocks.{read_blocks, write_blocks}
use Rattle.protocol.specs.Discovery as discovery
use Rattle.protocol.specs.Names.{one_target, target_number, code106a, code212f, code424f, code106b, type1_rall, type1_read, type1_write_ne, type1_write_e, type1_rid}

-- what becomes of a call's arguments: a refusal at once (4, 5, 6, 3 in this order), or a script
pub data Start : Type 0 where
  refuses : Refusal → Start
  starts : Script → Start

-- command data of at most 512 bytes, else 3
abbrev pub data_limit : ℕ
data_limit = 512

abbrev pub limited : List ℕ → Script → Start
limited bytes s = cond (ltb data_limit (length bytes)) (refuses OverLong) (starts s)

-- what the Rust asserts, a mode that there is, and blocks that there is a request of, else 4
abbrev pub asserted : Bool → Start → Start
asserted holds s = cond holds s (refuses BadArgument)

-- ---- bitrates: malformed, or not supported by the call, gives 5

-- the code by which a call names the bitrate to the chip; 5 where it takes none
abbrev pub code_for : (Bitrate → Option ℕ) → List ℕ → (ℕ → Start) → Start
code_for takes text f = code_or (refuses BadBitrate) takes text f

abbrev pub type_a_code : Bitrate → Option ℕ
type_a_code B106A = some code106a
type_a_code B212F = some code212f
type_a_code B424F = some code424f
type_a_code B106B = some code106b
type_a_code B212B = none
type_a_code B424B = none
type_a_code B848B = none
type_a_code Other = none

-- the codes 6, 7 and 8 of the others are not supported
abbrev pub type_b_code : Bitrate → Option ℕ
type_b_code B106A = none
type_b_code B212F = none
type_b_code B424F = none
type_b_code B106B = some code106b
type_b_code B212B = none
type_b_code B424B = none
type_b_code B848B = none
type_b_code Other = none

abbrev pub type_f_code : Bitrate → Option ℕ
type_f_code B106A = none
type_f_code B212F = some code212f
type_f_code B424F = some code424f
type_f_code B106B = none
type_f_code B212B = none
type_f_code B424B = none
type_f_code B848B = none
type_f_code Other = none

abbrev pub dep_code : Bitrate → Option ℕ
dep_code B106A = some code106a
dep_code B212F = some code212f
dep_code B424F = some code424f
dep_code B106B = none
dep_code B212B = none
dep_code B424B = none
dep_code B848B = none
dep_code Other = none

abbrev pub is106a : Bitrate → Bool
is106a B106A = true
is106a B212F = false
is106a B424F = false
is106a B106B = false
is106a B212B = false
is106a B424B = false
is106a B848B = false
is106a Other = false

-- ---- DEP and transceive

-- the first byte of SEL_RES
abbrev pub type2_sel_res : List ℕ → Bool
type2_sel_res [] = false
type2_sel_res (b ∷ bs) = is_type2 b

-- Type 1 sends what starts with one of five bytes, else 6
abbrev pub is_sendable : List ℕ → Bool
is_sendable [] = false
is_sendable (b ∷ bs) = eqb b type1_rall || eqb b type1_read || eqb b type1_write_ne || eqb b type1_write_e || eqb b type1_rid

-- what transceive waits for a card where no time is given, and what the chip gets beside it
abbrev pub standard_ms : ℕ
standard_ms = 1000

abbrev pub margin_ms : ℕ
margin_ms = 100

abbrev pub clock_of : Option ℕ → ℕ
clock_of none = standard_ms + margin_ms
clock_of (some ms) = ms + margin_ms

-- RID_RES present means Type 1 at any bitrate
abbrev pub transceive_start : Bitrate → List ℕ → Bool → List ℕ → ℕ → Start
transceive_start rate selRes ridRes bytes ms =
    cond ridRes
    (cond (is_sendable bytes) (limited (target_number ∷ bytes) (discovery.transceive_type1 bytes ms)) (refuses NotSendable))
    (limited bytes (if_else (is106a rate && type2_sel_res selRes) (discovery.transceive_type2 bytes ms) (discovery.transceive_thru bytes ms)))

-- ---- each call

-- a command: 4, then 3, then its frame
abbrev pub row_start : Row → Start
row_start (row holds code clock bytes rule) = asserted holds (limited bytes (ask code clock bytes (rule_script rule)))
row_start resets = starts (reset finished)

abbrev pub request_start : Request → Start
request_start r = row_start (row_of r)

abbrev pub device_start : DeviceCall → Start
device_start (detect_type_a_of text uid) = code_for type_a_code text (λ code. limited (one_target ∷ code ∷ cascaded uid) (discovery.detect_type_a_of code uid))
device_start (detect_type_a_split text uid) = code_for type_a_code text (λ code. limited (one_target ∷ code ∷ cascaded uid) (discovery.detect_type_a_split code uid))
device_start (detect_type_b_of text sensbReq) = code_for type_b_code text (λ code. starts (discovery.detect_type_b_of code (get_or sensbReq 0 0)))
device_start (detect_type_f_of text systemCode requestCode timeSlots) =
    code_for type_f_code text (λ code. starts (discovery.detect_type_f_of code (sensf_req systemCode requestCode timeSlots)))
device_start (poll_type_f text words) =
    asserted (system_codes_fit words) (code_for type_f_code text (λ code. starts (discovery.poll_type_f code (words_in words))))
device_start (detect_dep_of text atrReq) =
    asserted (atr_req_fits atrReq) (code_for dep_code text (λ code. starts (discovery.detect_dep_of code atrReq)))
device_start (transceive text selRes ridRes bytes ms) = by_bitrate (refuses BadBitrate) (choice_of text) (λ rate. transceive_start rate selRes ridRes bytes (clock_of ms))
device_start (read_without_encryption idm service blocks ms) = asserted (request_fits idm blocks) (starts (read_blocks idm service blocks (clock_of ms)))
device_start (write_without_encryption idm service blocks bytes ms) =
    asserted (write_fits_of idm blocks bytes) (starts (write_blocks idm service blocks bytes (clock_of ms)))

abbrev pub reader_start : ReaderCall → Start
reader_start (request r) = request_start r
reader_start (device d) = device_start d
reader_start unknown = refuses BadArgument

abbrev pub start_of : Call → Start
start_of (opening mode) = asserted (leb mode padded_mode) (starts device_new)
start_of (reader c) = reader_start c
