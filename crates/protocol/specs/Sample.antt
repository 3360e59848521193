-- Runs checked by computation: document 01's whole case, an opening and a version as the Rust has them, two system codes,
-- a UID and an ATS told apart, single packets.
use Rattle.std.specs.Prelude.{◌≡◌, refl, List, [], ◌∷◌, ◌++◌, map, ℕ, ◌+◌, replicate, take}
use Rattle.errors.specs.declared.Refusal.TheVariants.{OutOfTurn, ShortBuffer, OverLong, BadArgument}
use Rattle.errors.specs.declared.Fault.TheVariants.{Transport, TimeOut, BrokenFrame, Length, FrameKind, Identifier, Code, Status, UidLayout}
use Rattle.framing.specs.Frames.{ack, total, checksum_of, length_bytes, normal_frame, extended_frame, head_of, frame_of}
use Rattle.errors.specs.Choice.{pick, same, in_range}
use Rattle.targets.specs.Form.{all_digits}
use Rattle.targets.specs.Bitrates.{is_rate, send_length, is_bitrate, send_part_of, code_of, choice_of}
use Rattle.framing.specs.Lists.{starts}
use Rattle.framing.specs.Padded.{is_padded, zeros_up_to, extra_zeros_of, unpadded}
use Rattle.framing.specs.Parse.{is_error_of, extends, length_at, normal_at, extended_at, normal_of, extended_of, data_of, parse_of, payload_of}
use Rattle.exchange.specs.Packets.{command_frame, is_ack, has_start, ack_led, Reply, reply_of, response, failed}
use Rattle.exchange.specs.Exchange.{write, read, drain, pause, Event, ok, bad, pkt, time, late, slept, pending, reading, waiting, cancelling, advance}
use Rattle.targets.specs.TypeA.{is_target_data, is_uid_length, is_ats}
use Rattle.protocol.specs.Scripts.{done, uid_and_ats, refused, own, refused_after, part, rest}
use Rattle.protocol.specs.Calls.{opening, reader, request, version, device, detect_type_a_split, poll_type_f}
use Rattle.framing.specs.declared.LengthEncoding.TheVariants.{NormalOrExtendedBigEndian}
use Rattle.protocol.specs.Session.{Entry, call, event, Output, orders, answers, rejects, fresh, outputs, session_after}
use Rattle.protocol.specs.Record.{Item, record_of, lines_of, frames, events, resets, idle_reads, allowed}
use Rattle.protocol.specs.Machine.{output_values}
use Rattle.protocol.specs.Device.{hex_digit_of, hex, dotted}

-- an entry, and what is given out for it
abbrev Pair : Type 0
Pair = Entry × Output ℕ

abbrev on : Event → Output ℕ → Pair
on e out = (event e 1024, out)

abbrev entries_of : List Pair → List Entry
entries_of ps = map (λ (p : Pair). p.0) ps

abbrev given_for : List Pair → List (Output ℕ)
given_for ps = map (λ (p : Pair). p.1) ps

abbrev writes : List ℕ → Output ℕ
writes bytes = orders (write bytes)

-- the run is what the definitions give out
abbrev Runs : List Pair → Type 0
Runs ps = map output_values (outputs fresh (entries_of ps)) ≡ given_for ps

-- document 01's whole case: `open`, `bad`, `version`
whole_case : Runs ((call 0 (opening 0) 1024, writes ack) ∷ on bad (answers (refused Transport)) ∷ (call 0 (reader (request version)) 1024, rejects OutOfTurn) ∷ [])
whole_case = refl

-- refusals in their order; nothing changes by them
refusals : Runs
    ((call 0 (opening 0) 1023, rejects ShortBuffer)
    ∷ (event ok 0, rejects OutOfTurn)
    ∷ (call 0 (opening 0) 1024, writes ack)
    ∷ (call 0 (opening 0) 0, rejects OutOfTurn)
    ∷ (event time 0, rejects OutOfTurn)
    ∷ (event ok 1023, rejects ShortBuffer)
    ∷ (event ok 1024, orders (read 10))
    ∷ (event late 1024, rejects OutOfTurn)
    ∷ (event (pkt (replicate 1025 0)) 1023, rejects ShortBuffer)
    ∷ (event (pkt (replicate 1025 0)) 1024, rejects OverLong)
    ∷ (event (pkt (replicate 1024 0)) 1024, orders (read 10))
    ∷ [])
refusals = refl

-- ---- an opening and a version, with the packets and orders of the Rust

-- a command is acknowledged and answered, with z extra zeros before each packet
abbrev answered_by : ℕ → ℕ → List ℕ → Output ℕ → List Pair
answered_by z clock packet out =
    on ok (orders (read 100)) ∷ on (pkt (replicate z 0 ++ ack)) (orders (read clock)) ∷ on (pkt (replicate z 0 ++ packet)) out ∷ []

abbrev configured : List ℕ
configured = 0x00 ∷ 0x00 ∷ 0xFF ∷ 0x02 ∷ 0xFE ∷ 0xD5 ∷ 0x33 ∷ 0xF8 ∷ 0x00 ∷ []

abbrev reset_done : List ℕ
reset_done = 0x00 ∷ 0x00 ∷ 0xFF ∷ 0x02 ∷ 0xFE ∷ 0xD5 ∷ 0x19 ∷ 0x12 ∷ 0x00 ∷ []

abbrev version_is : List ℕ
version_is = 0x00 ∷ 0x00 ∷ 0xFF ∷ 0x06 ∷ 0xFA ∷ 0xD5 ∷ 0x03 ∷ 0x33 ∷ 0x01 ∷ 0x30 ∷ 0x07 ∷ 0xBD ∷ 0x00 ∷ []

abbrev reset_mode_of : Output ℕ
reset_mode_of = writes (0x00 ∷ 0x00 ∷ 0xFF ∷ 0x03 ∷ 0xFD ∷ 0xD4 ∷ 0x18 ∷ 0x01 ∷ 0x13 ∷ 0x00 ∷ [])

abbrev get_version : Output ℕ
get_version = writes (0x00 ∷ 0x00 ∷ 0xFF ∷ 0x02 ∷ 0xFE ∷ 0xD4 ∷ 0x02 ∷ 0x2A ∷ 0x00 ∷ [])

abbrev after_reset : Output ℕ → List Pair
after_reset out = on ok (orders (pause 10000)) ∷ on slept out ∷ []

-- with one empty packet in the opening's drain
abbrev opening_run : ℕ → ℕ → List Pair
opening_run mode z =
    ((call 0 (opening mode) 1024, writes ack) ∷ on ok (orders (read 10)) ∷ on (pkt []) (orders (read 10)) ∷ on time reset_mode_of ∷ [])
    ++ (answered_by z 100 reset_done (writes ack)
    ++ (after_reset get_version
    ++ (answered_by z 100 version_is (writes (0x00 ∷ 0x00 ∷ 0xFF ∷ 0x04 ∷ 0xFC ∷ 0xD4 ∷ 0x32 ∷ 0x01 ∷ 0x02 ∷ 0xF7 ∷ 0x00 ∷ []))
    ++ (answered_by z 100 configured (writes (0x00 ∷ 0x00 ∷ 0xFF ∷ 0x06 ∷ 0xFA ∷ 0xD4 ∷ 0x32 ∷ 0x02 ∷ 0x0B ∷ 0x0B ∷ 0x0A ∷ 0xD8 ∷ 0x00 ∷ []))
    ++ (answered_by z 100 configured (writes (0x00 ∷ 0x00 ∷ 0xFF ∷ 0x04 ∷ 0xFC ∷ 0xD4 ∷ 0x32 ∷ 0x04 ∷ 0x00 ∷ 0xF6 ∷ 0x00 ∷ []))
    ++ (answered_by z 100 configured (writes (0x00 ∷ 0x00 ∷ 0xFF ∷ 0x06 ∷ 0xFA ∷ 0xD4 ∷ 0x32 ∷ 0x05 ∷ 0x00 ∷ 0x00 ∷ 0x01 ∷ 0xF4 ∷ 0x00 ∷ []))
    ++ (answered_by z 100 configured
    (writes (0x00 ∷ 0x00 ∷ 0xFF ∷ 0x0E ∷ 0xF2 ∷ 0xD4 ∷ 0x32 ∷ 0x0A ∷ 0x5A ∷ 0xF4 ∷ 0x3F ∷ 0x11 ∷ 0x4D ∷ 0x85 ∷ 0x61 ∷ 0x6F ∷ 0x26 ∷ 0x62 ∷ 0x87 ∷ 0xA1 ∷ 0x00 ∷ []))
    ++ (answered_by z 100 configured (writes (0x00 ∷ 0x00 ∷ 0xFF ∷ 0x03 ∷ 0xFD ∷ 0xD4 ∷ 0x12 ∷ 0x08 ∷ 0x12 ∷ 0x00 ∷ []))
    ++ (answered_by z 100 (0x00 ∷ 0x00 ∷ 0xFF ∷ 0x02 ∷ 0xFE ∷ 0xD5 ∷ 0x13 ∷ 0x18 ∷ 0x00 ∷ []) reset_mode_of
    ++ (answered_by z 100 reset_done (writes ack)
    ++ (after_reset (writes (0x00 ∷ 0x00 ∷ 0xFF ∷ 0x05 ∷ 0xFB ∷ 0xD4 ∷ 0x08 ∷ 0x03 ∷ 0x28 ∷ 0x59 ∷ 0xA0 ∷ 0x00 ∷ []))
    ++ answered_by z 250 (0x00 ∷ 0x00 ∷ 0xFF ∷ 0x03 ∷ 0xFD ∷ 0xD5 ∷ 0x09 ∷ 0x00 ∷ 0x22 ∷ 0x00 ∷ [])
    (answers (done (0x33 ∷ 0x01 ∷ 0x30 ∷ 0x52 ∷ 0x43 ∷ 0x53 ∷ 0x39 ∷ 0x35 ∷ 0x36 ∷ 0x76 ∷ 0x31 ∷ 0x2E ∷ 0x33 ∷ 0x30 ∷ []))))))))))))))

abbrev version_run : ℕ → List Pair
version_run z = (call 0 (reader (request version)) 1024, get_version) ∷ answered_by z 100 version_is (answers (done (0x33 ∷ 0x01 ∷ 0x30 ∷ [])))

abbrev run : ℕ → ℕ → List Pair
run mode z = opening_run mode z ++ version_run z

-- to unfold this is to unfold the formats
unfoldable pub formats : Unit {0}
unfolding is_padded zeros_up_to extra_zeros_of unpadded total checksum_of length_bytes normal_frame extended_frame head_of frame_of pick starts same is_error_of extends length_at normal_at extended_at normal_of extended_of data_of parse_of payload_of command_frame is_ack has_start ack_led reply_of hex_digit_of hex dotted
formats = tt

opened : Runs (run 0 0)
unfolding formats
opened = refl

-- the same from a board that pads the start
padded : Runs (run 1 3)
unfolding formats
padded = refl

-- 17 zeros are no extra zeros, and 16 are none with the mode off; a mode of 2 is a bad argument
abbrev until_read : ℕ → List Pair
until_read mode =
    (call 0 (opening mode) 1024, writes ack) ∷ on ok (orders (read 10)) ∷ on time reset_mode_of ∷ on ok (orders (read 100)) ∷ []

no_start : Runs (until_read 1 ++ (on (pkt (replicate 17 0 ++ ack)) (writes ack) ∷ on ok (orders drain) ∷ []))
unfolding formats
no_start = refl

mode_off : Runs (until_read 0 ++ (on (pkt (replicate 16 0 ++ ack)) (writes ack) ∷ on ok (orders drain) ∷ []))
unfolding formats
mode_off = refl

no_mode : Runs ((call 0 (opening 2) 1023, rejects ShortBuffer) ∷ (call 0 (opening 2) 1024, rejects BadArgument) ∷ [])
no_mode = refl

-- the record of the opening: ten frames, two resets, one idle read, 37 events of the 47 allowed
abbrev opening_lines : List Item
opening_lines = lines_of 0 (record_of (entries_of (run 0 0)) (outputs fresh (entries_of (run 0 0)))).lines

abbrev counts : List Item → List ℕ
counts xs = frames xs ∷ resets xs ∷ idle_reads xs ∷ events xs ∷ allowed (opening 0) xs ∷ []

opening_counts : counts opening_lines ≡ 10 ∷ 2 ∷ 1 ∷ 37 ∷ 47 ∷ []
unfolding formats
opening_counts = refl

count-after : (session_after fresh (entries_of (run 0 0))).books.counts ≡ 11 ∷ 0 ∷ 0 ∷ 0 ∷ 0 ∷ 0 ∷ 0 ∷ 0 ∷ []
unfolding formats
count-after = refl

-- ---- two system codes in one poll: the field is off and no card is met; it is on and one is

abbrev responds : ℕ → List ℕ → List ℕ
responds code bytes = frame_of NormalOrExtendedBigEndian (0xD5 ∷ (code + 1) ∷ bytes)

abbrev sends : ℕ → List ℕ → Output ℕ
sends code bytes = writes (command_frame code bytes)

abbrev polls : ℕ → ℕ → Output ℕ
polls high low = sends 0x4A (0x01 ∷ 0x01 ∷ 0x00 ∷ high ∷ low ∷ 0x01 ∷ 0x00 ∷ [])

abbrev idm_pmm : List ℕ
idm_pmm = 0x01 ∷ 0x02 ∷ 0x03 ∷ 0x04 ∷ 0x05 ∷ 0x06 ∷ 0x07 ∷ 0x08 ∷ 0x11 ∷ 0x12 ∷ 0x13 ∷ 0x14 ∷ 0x15 ∷ 0x16 ∷ 0x17 ∷ 0x18 ∷ []

-- with two optional bytes behind
abbrev listed : List ℕ
listed = (0x01 ∷ 0x01 ∷ 0x14 ∷ 0x01 ∷ []) ++ (idm_pmm ++ (0x88 ∷ 0xB4 ∷ []))

abbrev checks_field : Output ℕ
checks_field = sends 0x06 (0x63 ∷ 0x04 ∷ [])

-- 212F, system codes 88B4 and FE00
abbrev first_code : List Pair
first_code =
    ((call 0 (reader (device (poll_type_f (0x32 ∷ 0x31 ∷ 0x32 ∷ 0x46 ∷ []) (0x88 ∷ 0xB4 ∷ 0xFE ∷ 0x00 ∷ [])))) 1024, checks_field) ∷ [])
    ++ (answered_by 0 250 (responds 0x06 (0x00 ∷ [])) (sends 0x32 (0x01 ∷ 0x01 ∷ []))
    ++ (answered_by 0 100 (responds 0x32 []) (orders (pause 20400))
    ++ ((on slept (polls 0x88 0xB4) ∷ []) ++ answered_by 0 1000 (responds 0x4A (0x00 ∷ [])) checks_field)))

abbrev second_code : List Pair
second_code =
    answered_by 0 250 (responds 0x06 (0x03 ∷ [])) (polls 0xFE 0x00)
    ++ answered_by 0 1000 (responds 0x4A listed) (answers (done (0x00 ∷ 0x01 ∷ idm_pmm)))

-- to unfold this is to unfold the bitrate's text and an answer's bytes
texts : Unit {0}
unfolding in_range all_digits is_rate send_length is_bitrate send_part_of code_of choice_of same part rest
texts = tt

polled : Runs (opening_run 0 0 ++ (first_code ++ second_code))
unfolding formats texts
polled = refl

-- the card's bytes are those of command 4, behind three commands of the first code
polled-places : outputs (session_after fresh (entries_of (opening_run 0 0 ++ (first_code ++ take 5 second_code)))) (event (pkt (responds 0x4A listed)) 1024 ∷ [])
    ≡ answers (done (own 0x00 ∷ own 0x01 ∷ part 4 listed 4 16)) ∷ []
unfolding formats texts
polled-places = refl

-- a time-out in the second code ends the list behind one code
stopped : Runs (opening_run 0 0 ++ (first_code ++ (on ok (orders (read 100)) ∷ on time (answers (refused_after TimeOut 1)) ∷ [])))
unfolding formats texts
stopped = refl

-- ---- UID and ATS told apart: a UID of 7 bytes and an ATS of 6, then a UID length of 5; 106A

abbrev uid : List ℕ
uid = 0x04 ∷ 0x41 ∷ 0x2B ∷ 0x12 ∷ 0x33 ∷ 0x44 ∷ 0x80 ∷ []

abbrev ats : List ℕ
ats = 0x06 ∷ 0x75 ∷ 0x77 ∷ 0x81 ∷ 0x02 ∷ 0x80 ∷ []

abbrev listed_with : ℕ → List ℕ → List ℕ
listed_with n bytes = 0x01 ∷ 0x01 ∷ 0x03 ∷ 0x44 ∷ 0x20 ∷ n ∷ bytes

abbrev split_by : List ℕ → Output ℕ → List Pair
split_by list o =
    ((call 0 (reader (device (detect_type_a_split (0x31 ∷ 0x30 ∷ 0x36 ∷ 0x41 ∷ []) []))) 1024, sends 0x4A (0x01 ∷ 0x00 ∷ [])) ∷ [])
    ++ answered_by 0 1000 (responds 0x4A list) o

known_apart : Runs (opening_run 0 0 ++ split_by (listed_with 7 (uid ++ ats)) (answers (uid_and_ats (0x44 ∷ 0x03 ∷ 0x20 ∷ uid ++ ats) 7 6)))
unfolding formats texts is_target_data is_uid_length is_ats pick
known_apart = refl

no_layout : Runs (opening_run 0 0 ++ split_by (listed_with 5 (take 5 uid)) (answers (refused UidLayout)))
unfolding formats texts is_target_data is_uid_length is_ats pick
no_layout = refl

-- ---- single packets

abbrev replies : List (List ℕ) → List Reply
replies ps = map (reply_of 0x02) ps

step_5 : replies
    ((0x00 ∷ 0x00 ∷ 0xFF ∷ 0x01 ∷ 0xFF ∷ 0x7F ∷ 0x81 ∷ 0x00 ∷ [])
    ∷ (0x00 ∷ 0x00 ∷ 0xFF ∷ 0x00 ∷ 0x00 ∷ 0x00 ∷ 0x00 ∷ [])
    ∷ (0x00 ∷ 0x00 ∷ 0xFF ∷ 0x01 ∷ 0xFF ∷ 0xD5 ∷ 0x2B ∷ 0x00 ∷ [])
    ∷ (0x00 ∷ 0x00 ∷ 0xFF ∷ 0x02 ∷ 0xFE ∷ 0xD5 ∷ 0x04 ∷ 0x27 ∷ 0x00 ∷ [])
    ∷ (0x00 ∷ 0x00 ∷ 0xFF ∷ 0x02 ∷ 0xFE ∷ 0xD4 ∷ 0x03 ∷ 0x29 ∷ 0x00 ∷ [])
    ∷ (0x00 ∷ 0x00 ∷ 0xFF ∷ 0xFF ∷ 0xFF ∷ 0x00 ∷ [])
    ∷ (0x00 ∷ 0x00 ∷ 0xFF ∷ 0xFF ∷ 0xFF ∷ 0x00 ∷ 0x00 ∷ 0x00 ∷ 0x00 ∷ 0x00 ∷ [])
    ∷ (0x00 ∷ 0x00 ∷ 0xFF ∷ 0x02 ∷ 0xFE ∷ 0xD5 ∷ 0x03 ∷ 0x28 ∷ 0x00 ∷ 0x00 ∷ [])
    ∷ (0x00 ∷ 0x00 ∷ 0xFF ∷ [])
    ∷ (0x00 ∷ 0x00 ∷ 0xFF ∷ 0x02 ∷ 0xFE ∷ 0xD5 ∷ 0x03 ∷ 0x28 ∷ 0x00 ∷ [])
    ∷ [])
    ≡ failed (Status 0x7F) ∷ failed Identifier ∷ failed Code ∷ failed Code ∷ failed Identifier ∷ failed FrameKind ∷ failed Identifier
    ∷ failed Length ∷ failed BrokenFrame ∷ response [] ∷ []
unfolding formats
step_5 = refl

-- ACK and one 00 more is skipped; with a clock of 0 ms no read follows
skipped : advance (reading 0x02 100) (pkt (ack ++ (0x00 ∷ []))) ≡ pending (read 100) (waiting 0x02 100)
unfolding formats
skipped = refl

no_clock : advance (reading 0x42 0) (pkt ack) ≡ pending (write ack) (cancelling TimeOut)
unfolding formats
no_clock = refl
