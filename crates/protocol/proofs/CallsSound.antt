-- Every call's script is sound: a line for each rule, which serves all commands of it, and for each other call.
use Rattle.std.specs.Prelude.{◌≡◌, List, [], ℕ, ◌+◌, ◌*◌, ◌/◌, ◌≤◌, ◌∷◌, get_or, eqb, ◌%◌, leb, ltb, length}
use Rattle.std.proofs.Common.{sym, arith}
use Rattle.protocol.specs.Discovery as discovery
use Rattle.protocol.specs.Scripts.{Byte, Script, Answer, if_else, refuse, field_pause, done, ask}
use Rattle.protocol.specs.Rules.{Rule, version, no_bytes_of, all_bytes, registers_written, first_byte_of, listed_target, exchanged_data, thru, jump, status, initiator_command, target_status, rule_script}
use Rattle.protocol.specs.Calls.{Row, row, resets, row_of, Call, opening, reader, request, device, unknown, limit, device_limit, call_frames, opening_frames, code_frames, padded_mode}
use Rattle.protocol.specs.Calls.{DeviceCall, detect_type_a_of, detect_type_a_split, detect_type_b_of, detect_type_f_of, detect_dep_of, transceive, poll_type_f, read_without_encryption, write_without_encryption}
use Rattle.protocol.specs.Starts.{data_limit, limited, row_start, device_start, start_of}
use Rattle.protocol.specs.Arguments.{words_in}
use Rattle.protocol.specs.Own.{Form, only_cards, version_and_name, rule_form, row_form, device_form, form_of, no_codes, polled_codes}
use Rattle.protocol.specs.Sound.{Within, response_to, Final, Correct, Sound, no_bytes}
use Rattle.protocol.proofs.Sound.{cards-placed, cards_rest, ends_either, ends_if, sound_if, version_name, target_answer_lem, correct_rules, sound_rules}
use Rattle.protocol.specs.Names.{rf_field_item, field_on, tx_rf_en, uid_offset, version_need}
use Rattle.protocol.specs.Chipset.{rf_configuration_of}
use Rattle.protocol.specs.Device.{device_new}
use Rattle.protocol.specs.Rules.{on_first_byte}
use Rattle.errors.specs.declared.Fault.TheVariants.{ShortResponse}
use Rattle.protocol.proofs.BlocksSound.{block_rules}
use Rattle.protocol.proofs.PollSound.{words_count, codes_within, codes_correct}
use Rattle.protocol.specs.CallsSound.{opening_last, opening_rest}

-- a script of bytes that are not too many
limited_sound : (o : Form) (bytes : List ℕ) (s : Script) → Within s call_frames → Correct o s [] → Sound o (limited bytes s) call_frames
limited_sound o bytes s w c = sound_if o (ltb data_limit (length bytes)) _ _ call_frames tt (w, c)

-- a command, by its rule
rule_sound : (code clock : ℕ) (bytes : List ℕ) (q : Rule) → Sound (rule_form q) (limited bytes (ask code clock bytes (rule_script q))) call_frames
rule_sound code clock bytes version = limited_sound (rule_form version) bytes _ (search sound_rules depth 60) (search sound_rules depth 60)
rule_sound code clock bytes no_bytes_of = limited_sound (rule_form no_bytes_of) bytes _ (search sound_rules depth 60) (search sound_rules depth 60)
rule_sound code clock bytes all_bytes = limited_sound (rule_form all_bytes) bytes _ (search sound_rules depth 60) (search sound_rules depth 60)
rule_sound code clock bytes registers_written = limited_sound (rule_form registers_written) bytes _ (search sound_rules depth 60) (search sound_rules depth 60)
rule_sound code clock bytes first_byte_of = limited_sound (rule_form first_byte_of) bytes _ (search sound_rules depth 60) (search sound_rules depth 60)
rule_sound code clock bytes listed_target = limited_sound (rule_form listed_target) bytes _ (search sound_rules depth 60) (search sound_rules depth 60)
rule_sound code clock bytes exchanged_data = limited_sound (rule_form exchanged_data) bytes _ (search sound_rules depth 60) (search sound_rules depth 60)
rule_sound code clock bytes thru = limited_sound (rule_form thru) bytes _ (search sound_rules depth 60) (search sound_rules depth 60)
rule_sound code clock bytes jump = limited_sound (rule_form jump) bytes _ (search sound_rules depth 60) (search sound_rules depth 60)
rule_sound code clock bytes status = limited_sound (rule_form status) bytes _ (search sound_rules depth 60) (search sound_rules depth 60)
rule_sound code clock bytes initiator_command = limited_sound (rule_form initiator_command) bytes _ (search sound_rules depth 60) (search sound_rules depth 60)
rule_sound code clock bytes target_status = limited_sound (rule_form target_status) bytes _ (search sound_rules depth 60) (search sound_rules depth 60)

row_sound : (w : Row) → Sound (row_form w) (row_start w) call_frames
row_sound (row holds code clock bytes q) = sound_if (rule_form q) holds _ _ call_frames (rule_sound code clock bytes q) tt
row_sound resets = search sound_rules depth 60

-- Type A's script in parts, each upon the responses before it
type1_correct : (list rid fifo first : List ℕ) → Correct only_cards (discovery.card_type1 list rid) (rid ∷ (list ∷ (fifo ∷ (first ∷ []))))
type1_correct list rid fifo first = search correct_rules depth 60

try_correct : (fifo first : List ℕ) → Correct only_cards discovery.try_type1 (fifo ∷ (first ∷ []))
try_correct fifo first = search (type1_correct, correct_rules) depth 60

no_target_correct : (first : List ℕ) → Correct only_cards discovery.no_target (first ∷ [])
no_target_correct first = search (try_correct, correct_rules) depth 60

type2_correct : (list : List ℕ) (a : Answer Byte) → ((rs : List (List ℕ)) → response_to rs 0 ≡ list → Final only_cards rs a) → Correct only_cards (discovery.by_type2 list a) (list ∷ [])
type2_correct list a h = search (h, correct_rules) depth 60

cards_placed : (rs : List (List ℕ)) (list : List ℕ) → response_to rs 0 ≡ list → uid_offset ≤ length list → Final only_cards rs (done (discovery.card_a list))
cards_placed rs list e long = (cards-placed only_cards rs list e long, cards_rest 0 list uid_offset)

found_correct : (list : List ℕ) → Correct only_cards (discovery.found_a list) (list ∷ [])
found_correct list = search (type2_correct, cards_placed, correct_rules) depth 60

split_correct : (list : List ℕ) → Correct only_cards (discovery.found_split list) (list ∷ [])
split_correct list = search (type2_correct, target_answer_lem, correct_rules) depth 60

type_a_sound : (code : ℕ) (uid : List ℕ) → Within (discovery.detect_type_a_of code uid) call_frames × Correct only_cards (discovery.detect_type_a_of code uid) []
type_a_sound code uid = (search sound_rules depth 60, search (no_target_correct, found_correct, correct_rules) depth 60)

split_sound : (code : ℕ) (uid : List ℕ) → Within (discovery.detect_type_a_split code uid) call_frames × Correct only_cards (discovery.detect_type_a_split code uid) []
split_sound code uid = (search sound_rules depth 60, search (no_target_correct, split_correct, correct_rules) depth 60)

-- a list of system codes
words_sound : (code : ℕ) (words : List ℕ) → Within (discovery.poll_type_f code (words_in words)) (code_frames * (length words / 2))
    × Correct (polled_codes (length words / 2)) (discovery.poll_type_f code (words_in words)) []
words_sound code words =
    let codes : List ℕ = words_in words in
    let e : 0 + length codes ≡ length codes = omega arith in
    let right = codes_correct code 0 [] codes [] record { placed = no_bytes; polled = no_codes } in
    rw (sym (words_count words)) (codes_within code 0 0 [] codes, rw (sym e) right)

-- Type F's script: its poll with the field on and with the field switched on, and what comes before
poll_correct : (code : ℕ) (req first : List ℕ) → Correct only_cards (discovery.poll 1 code req) (first ∷ [])
poll_correct code req first = search correct_rules depth 60

poll_on_correct : (code : ℕ) (req on first : List ℕ) → Correct only_cards (discovery.poll 2 code req) (on ∷ (first ∷ []))
poll_on_correct code req on first = search correct_rules depth 60

type_f_on_correct : (code : ℕ) (req first : List ℕ) → Correct only_cards (rf_configuration_of rf_field_item (field_on ∷ []) (field_pause (discovery.poll 2 code req))) (first ∷ [])
type_f_on_correct code req first = ends_either (Final only_cards) (λ on. field_pause (discovery.poll 2 code req)) refuse (first ∷ []) (λ on. poll_on_correct code req on first) (λ e q. tt)

type_f_correct : (code : ℕ) (req : List ℕ) → Correct only_cards (discovery.detect_type_f_of code req) []
type_f_correct code req =
    let on : Script = rf_configuration_of rf_field_item (field_on ∷ []) (field_pause (discovery.poll 2 code req)) in
    let by_field : List ℕ → Script = λ bs. if_else (eqb (get_or bs 0 0 % tx_rf_en) 0) on (discovery.poll 1 code req) in
    ends_either (Final only_cards) (λ bs. on_first_byte bs by_field) refuse []
    (λ bs. ends_if (Final only_cards) (ltb (length bs) 1) (refuse ShortResponse) (by_field bs) (bs ∷ []) (λ few. tt)
    (λ one. ends_if (Final only_cards) (eqb (get_or bs 0 0 % tx_rf_en) 0) on (discovery.poll 1 code req) (bs ∷ []) (λ off. type_f_on_correct code req bs) (λ on. poll_correct code req bs)))
    (λ e q. tt)

type_f_sound : (code : ℕ) (req : List ℕ) → Within (discovery.detect_type_f_of code req) call_frames × Correct only_cards (discovery.detect_type_f_of code req) []
type_f_sound code req = (search sound_rules depth 60, type_f_correct code req)

device_sound : (d : DeviceCall) → Sound (device_form d) (device_start d) (device_limit d)
device_sound (detect_type_a_of text uid) = search (type_a_sound, sound_rules) depth 60
device_sound (detect_type_a_split text uid) = search (split_sound, sound_rules) depth 60
device_sound (detect_type_b_of text sensbReq) = search sound_rules depth 60
device_sound (detect_type_f_of text systemCode requestCode timeSlots) = search (type_f_sound, sound_rules) depth 60
device_sound (poll_type_f text words) = search (words_sound, sound_rules) depth 60
device_sound (detect_dep_of text atrReq) = search sound_rules depth 60
device_sound (transceive text selRes ridRes bytes ms) = search sound_rules depth 60
device_sound (read_without_encryption idm service blocks ms) = search (block_rules, sound_rules) depth 60
device_sound (write_without_encryption idm service blocks bytes ms) = search (block_rules, sound_rules) depth 60

opening_end : (ver first r2 r3 r4 r5 : List ℕ) → version_need ≤ length ver → Correct version_and_name (opening_last (get_or ver 0 0) (get_or ver 1 0) (get_or ver 2 0)) (r5 ∷ (r4 ∷ (r3 ∷ (r2 ∷ (ver ∷ (first ∷ []))))))
opening_end ver first r2 r3 r4 r5 h = search (version_name, correct_rules) depth 60

opening_middle : (ver first : List ℕ) → version_need ≤ length ver → Correct version_and_name (opening_rest (get_or ver 0 0) (get_or ver 1 0) (get_or ver 2 0)) (ver ∷ (first ∷ []))
opening_middle ver first h = search (opening_end, correct_rules) depth 60

opening_correct : Correct version_and_name device_new []
opening_correct = search (opening_middle, correct_rules) depth 60

pub sound : (c : Call) → Sound (form_of c) (start_of c) (limit c)
sound (opening mode) =
    sound_if version_and_name (leb mode padded_mode) _ _ opening_frames (search sound_rules depth 60, opening_correct) tt
sound (reader (request r)) = row_sound (row_of r)
sound (reader (device d)) = device_sound d
sound (reader unknown) = search sound_rules depth 60
