-- A field that fits, runs of reader and chip by computation, and what fails where a condition of N10 is left out.
use Rattle.std.specs.Prelude.{◌≡◌, refl, Bool, true, false, ◌&&◌, List, [], ◌∷◌, ◌++◌, ℕ, ltb, replicate}
use Rattle.std.proofs.lemmas.Bool.{false≢true}
use Rattle.std.proofs.Math.Option.{none}
use Rattle.std.proofs.Common.{arith, ltb-true}
use Rattle.errors.specs.Choice.{pick, same, in_range}
use Rattle.errors.specs.declared.Refusal.TheVariants.{OverLong}
use Rattle.errors.specs.declared.Fault.TheVariants.{TimeOut, Code, ShortResponse, NoCard, CrcA}
use Rattle.crc.specs.Crc.{checks, crc_bytes, crc_of, result, register_after, bits_in, bits, bit_in, polynomial}
use Rattle.framing.specs.Commands.{behind_direction_of, command_in}
use Rattle.framing.specs.Lists.{Bytes}
use Rattle.targets.specs.Bitrates.{ascii, is_rate, send_length, is_bitrate, send_part_of, code_of, choice_of}
use Rattle.targets.specs.Form.{all_digits}
use Rattle.targets.specs.declared.Bitrate.TheVariants.{B106A, B212F, B106B}
use Rattle.protocol.specs.Scripts.{done, nothing, refused, part, rest}
use Rattle.protocol.specs.Calls.{Call, opening, reader, request, in_communicate_thru_of, device, detect_type_a_of, detect_type_b_of, detect_type_f_of, detect_dep_of, transceive}
use Rattle.protocol.specs.Sample.{formats}
use Rattle.protocol.specs.Session.{Session, fresh, call, event, Output, answers, rejects}
use Rattle.chip_protocol.specs.Packets.{received_in, response_packet}
use Rattle.chip_protocol.specs.Field.{StatedReply, Card, is_at, wupb, reply_to, crc_fits, FieldFits}
use Rattle.chip_protocol.specs.Chip.{ChipState, first_from, searched, register_value_of, registers_read, response_to, field_on_after, state_after, chip_step}
use Rattle.chip_protocol.specs.declared.Kind.TheVariants.{TypeA, TypeB, TypeF, Dep}
use Rattle.chip_protocol.specs.Channel.{simulated, Channel, channel, call_run}
use Rattle.chip_protocol.specs.Script.{AllBytes}
use Rattle.chip_protocol.specs.Intact.{all_bytes_lem}
use Rattle.chip_protocol.specs.SessionReader.{session}

-- ---- a field that fits

abbrev small : List ℕ → Bool
small [] = true
small (b ∷ l) = ltb b 256 && small l

all_small : (l : List ℕ) → small l ≡ true → AllBytes l
all_small [] h = tt
all_small (b ∷ l) h = go (ltb b 256) refl h (all_small l)
  where
    go : (t : Bool) → ltb b 256 ≡ t → (t && small l) ≡ true → (small l ≡ true → AllBytes l) → AllBytes (b ∷ l)
    go true e k again = (ltb-true b 256 e, again k)
    go false e k again = absurd (false≢true k)

are_bytes : (l : List ℕ) → small l ≡ true → Bytes l
are_bytes l h = all_bytes_lem l (all_small l h)

abbrev pub reply : List ℕ → List ℕ → StatedReply
reply sent bytes = record { sent = sent; reply = bytes }

-- a Type 2 tag, a Type B card, a FeliCa card, a partner
abbrev pub tag : Card
tag =
    record {
      kind = TypeA;
      bitrate = B106A;
      list_data = 0x00 ∷ 0x44 ∷ 0x00 ∷ 0x07 ∷ 0x04 ∷ 0xA1 ∷ 0xB2 ∷ 0xC3 ∷ 0xD4 ∷ 0xE5 ∷ 0xF6 ∷ [];
      replies = reply (0x30 ∷ 0x00 ∷ []) (0x00 ∷ 0x00 ∷ 0xA0 ∷ 0x1E ∷ []) ∷ reply (0x30 ∷ 0x01 ∷ []) (0x0A ∷ 0x0B ∷ []) ∷ [];
    }

abbrev pub card_b : Card
card_b =
    record {
      kind = TypeB;
      bitrate = B106B;
      list_data = 0x50 ∷ 0x01 ∷ 0x02 ∷ 0x03 ∷ 0x04 ∷ 0x05 ∷ 0x06 ∷ 0x07 ∷ 0x08 ∷ 0x33 ∷ 0x81 ∷ 0x81 ∷ [];
      replies = reply wupb (0x50 ∷ 0x01 ∷ 0x02 ∷ 0x03 ∷ 0x04 ∷ []) ∷ [];
    }

abbrev pub felica : Card
felica =
    record {
      kind = TypeF;
      bitrate = B212F;
      list_data = 0x12 ∷ 0x01 ∷ 0x01 ∷ 0x02 ∷ 0x03 ∷ 0x04 ∷ 0x05 ∷ 0x06 ∷ 0x07 ∷ 0x08 ∷ 0x11 ∷ 0x12 ∷ 0x13 ∷ 0x14 ∷ 0x15 ∷ 0x16 ∷ 0x17 ∷ 0x18 ∷ [];
      replies = reply (0x02 ∷ 0x04 ∷ []) (0x03 ∷ 0x05 ∷ 0x00 ∷ []) ∷ [];
    }

abbrev pub partner : Card
partner = record { kind = Dep; bitrate = B106A; list_data = 0x01 ∷ 0x02 ∷ []; replies = [] }

abbrev pub with_cards : List Card → ChipState
with_cards f = record { field = f; found = none; is_rf_field_on = false }

abbrev pub four : ChipState
four = with_cards (tag ∷ card_b ∷ felica ∷ partner ∷ [])

checked : crc_fits true (0x00 ∷ 0x00 ∷ 0xA0 ∷ 0x1E ∷ []) ≡ true
unfolding checks crc_bytes crc_of result register_after bits_in bits bit_in polynomial pick same
checked = refl

pub four-fit : FieldFits four.field
unfolding reply_to pick same
four-fit = (
  record {
    bytes = are_bytes tag.list_data refl;
    long = omega arith;
    short = omega arith;
    protocol = refl;
    wakes = refl;
    replies = (
      record { bytes = are_bytes (0x00 ∷ 0x00 ∷ 0xA0 ∷ 0x1E ∷ []) refl; short = omega arith; crc = checked },
      (record { bytes = are_bytes (0x0A ∷ 0x0B ∷ []) refl; short = omega arith; crc = refl }, tt),
    );
  },
  (
    record {
      bytes = are_bytes card_b.list_data refl;
      long = omega arith;
      short = omega arith;
      protocol = refl;
      wakes = refl;
      replies = (record { bytes = are_bytes (0x50 ∷ 0x01 ∷ 0x02 ∷ 0x03 ∷ 0x04 ∷ []) refl; short = omega arith; crc = refl }, tt);
    },
    (
      record {
        bytes = are_bytes felica.list_data refl;
        long = omega arith;
        short = omega arith;
        protocol = refl;
        wakes = refl;
        replies = (record { bytes = are_bytes (0x03 ∷ 0x05 ∷ 0x00 ∷ []) refl; short = omega arith; crc = refl }, tt);
      },
      (record { bytes = are_bytes partner.list_data refl; long = omega arith; short = omega arith; protocol = refl; wakes = refl; replies = tt }, tt),
    ),
  ),
)

-- ---- calls one after the other, each with at most so many events

abbrev CallAndEvents : Type 0
CallAndEvents = Call × ℕ

abbrev run_calls : Session → Channel simulated → List CallAndEvents → List (Output ℕ)
run_calls s l [] = []
run_calls s l (c ∷ cs) =
    let e = call_run session simulated (λ n x. event x 1024) c.1 s l (call 0 c.0 1024) in
    e.output ∷ run_calls e.state e.channel cs

abbrev bench : ChipState → List CallAndEvents → List (Output ℕ)
bench t cs = run_calls fresh (channel simulated t []) cs

abbrev detect_a : CallAndEvents
detect_a = (reader (device (detect_type_a_of (ascii "106A") [])), 9)

abbrev detect_b : CallAndEvents
detect_b = (reader (device (detect_type_b_of (ascii "106B") [])), 9)

abbrev detect_f : CallAndEvents
detect_f = (reader (device (detect_type_f_of (ascii "212F") 0xFFFF 0 0)), 10)

abbrev opens : CallAndEvents
opens = (opening 0, 36)

abbrev opened : Output ℕ
opened = answers (done (0x33 ∷ 0x01 ∷ 0x30 ∷ 0x52 ∷ 0x43 ∷ 0x53 ∷ 0x39 ∷ 0x35 ∷ 0x36 ∷ 0x76 ∷ 0x31 ∷ 0x2E ∷ 0x33 ∷ 0x30 ∷ []))

-- to unfold this is to unfold all that a run computes with
unfoldable both_ends : Unit {0}
unfolding formats in_range response_packet received_in command_in behind_direction_of chip_step response_to state_after searched first_from is_at reply_to register_value_of registers_read field_on_after part rest is_rate send_length is_bitrate send_part_of code_of choice_of all_digits checks crc_bytes crc_of result register_after bits_in bits bit_in polynomial
both_ends = tt

finds : bench four (opens ∷ detect_f ∷ (reader (device (transceive (ascii "212F") [] false (0x02 ∷ 0x04 ∷ []) none)), 3) ∷ [])
    ≡ opened ∷ answers (done (0x01 ∷ 0x02 ∷ 0x03 ∷ 0x04 ∷ 0x05 ∷ 0x06 ∷ 0x07 ∷ 0x08 ∷ 0x11 ∷ 0x12 ∷ 0x13 ∷ 0x14 ∷ 0x15 ∷ 0x16 ∷ 0x17 ∷ 0x18 ∷ [])) ∷ answers (done (0x03 ∷ 0x05 ∷ 0x00 ∷ [])) ∷ []
unfolding both_ends
finds = refl

finds_others : bench four (opens ∷ detect_a ∷ (reader (device (transceive (ascii "106A") (0x00 ∷ []) false (0x30 ∷ 0x00 ∷ []) none)), 3) ∷ detect_b ∷ (reader (device (detect_dep_of (ascii "106A") (replicate 16 0))), 9) ∷ [])
    ≡ opened
    ∷ answers (done (0x44 ∷ 0x00 ∷ 0x00 ∷ 0x04 ∷ 0xA1 ∷ 0xB2 ∷ 0xC3 ∷ 0xD4 ∷ 0xE5 ∷ 0xF6 ∷ []))
    ∷ answers (done (0x00 ∷ 0x00 ∷ []))
    ∷ answers (done (0x50 ∷ 0x01 ∷ 0x02 ∷ 0x03 ∷ 0x04 ∷ []))
    ∷ answers (done (0xD5 ∷ 0x01 ∷ 0x01 ∷ 0x02 ∷ []))
    ∷ []
unfolding both_ends
finds_others = refl

-- two of a kind, and a Type A card at the same bitrate before them: the first of the kind is found
abbrev other : Card
other = record { kind = TypeF; bitrate = B212F; list_data = replicate 18 0; replies = [] }

abbrev type_a_at212f : Card
type_a_at212f = record { kind = TypeA; bitrate = B212F; list_data = tag.list_data; replies = [] }

first_of_two : bench (with_cards (type_a_at212f ∷ felica ∷ other ∷ [])) (opens ∷ detect_f ∷ [])
    ≡ opened ∷ answers (done (0x01 ∷ 0x02 ∷ 0x03 ∷ 0x04 ∷ 0x05 ∷ 0x06 ∷ 0x07 ∷ 0x08 ∷ 0x11 ∷ 0x12 ∷ 0x13 ∷ 0x14 ∷ 0x15 ∷ 0x16 ∷ 0x17 ∷ 0x18 ∷ [])) ∷ []
unfolding both_ends
first_of_two = refl

-- a card at another bitrate is none
other_bitrate : bench (with_cards (felica ∷ [])) (opens ∷ (reader (device (detect_type_f_of (ascii "424F") 0xFFFF 0 0)), 10) ∷ []) ≡ opened ∷ answers (refused NoCard) ∷ []
unfolding both_ends
other_bitrate = refl

-- with no Type A card six events are enough: the search, and the FIFO, which reads 26
six_events : bench (with_cards (felica ∷ [])) (opens ∷ (reader (device (detect_type_a_of (ascii "106A") [])), 6) ∷ []) ≡ opened ∷ answers nothing ∷ []
unfolding both_ends
six_events = refl

-- ---- what the conditions are for

abbrev alone : Card → ChipState
alone c = with_cards (c ∷ [])

abbrev like : Card → List ℕ → List StatedReply → Card
like c l rs = record { kind = c.kind; bitrate = c.bitrate; list_data = l; replies = rs }

-- Type A under 4 bytes: none, though the card is there
short_a : bench (alone (like tag (0x00 ∷ 0x44 ∷ 0x20 ∷ []) [])) (opens ∷ detect_a ∷ []) ≡ opened ∷ answers nothing ∷ []
unfolding both_ends
short_a = refl

-- Type B's byte 10 with the bit 8: none
protocol_b : bench (alone (like card_b (replicate 10 0x50 ++ (0x09 ∷ 0x00 ∷ [])) card_b.replies)) (opens ∷ detect_b ∷ []) ≡ opened ∷ answers nothing ∷ []
unfolding both_ends
protocol_b = refl

-- Type F under 18 bytes: 16
short_f : bench (alone (like felica (replicate 17 0) [])) (opens ∷ detect_f ∷ []) ≡ opened ∷ answers (refused ShortResponse) ∷ []
unfolding both_ends
short_f = refl

-- a Type 2 card's reply over 2 bytes that does not end in its CRC_A: 18
no_crc : bench (alone (like tag tag.list_data (reply (0x30 ∷ 0x00 ∷ []) (0x00 ∷ 0x00 ∷ 0x00 ∷ []) ∷ [])))
    (opens ∷ detect_a ∷ (reader (device (transceive (ascii "106A") (0x00 ∷ []) false (0x30 ∷ 0x00 ∷ []) none)), 3) ∷ [])
    ≡ opened ∷ answers (done (0x44 ∷ 0x00 ∷ 0x00 ∷ 0x04 ∷ 0xA1 ∷ 0xB2 ∷ 0xC3 ∷ 0xD4 ∷ 0xE5 ∷ 0xF6 ∷ [])) ∷ answers (refused CrcA) ∷ []
unfolding both_ends
no_crc = refl

-- A command with a clock of 0 ms is given up behind its ACK, and its response is left in the channel: the discovery after it gets that, and ends with 14.
-- So a sentence about a discovery says that no packet is left; an opening takes them away.
left_over : bench (alone felica) (opens ∷ (reader (request (in_communicate_thru_of (0x00 ∷ []) 0)), 3) ∷ detect_f ∷ [])
    ≡ opened ∷ answers (refused TimeOut) ∷ answers (refused Code) ∷ []
unfolding both_ends
left_over = refl

opened_anew : bench (alone felica) (opens ∷ (reader (request (in_communicate_thru_of (0x00 ∷ []) 0)), 3) ∷ (opening 0, 37) ∷ detect_f ∷ [])
    ≡ opened ∷ answers (refused TimeOut) ∷ opened ∷ answers (done (0x01 ∷ 0x02 ∷ 0x03 ∷ 0x04 ∷ 0x05 ∷ 0x06 ∷ 0x07 ∷ 0x08 ∷ 0x11 ∷ 0x12 ∷ 0x13 ∷ 0x14 ∷ 0x15 ∷ 0x16 ∷ 0x17 ∷ 0x18 ∷ [])) ∷ []
unfolding both_ends
opened_anew = refl

-- a Type B card without a reply to WUPB: none
no_wake_up : bench (alone (like card_b card_b.list_data [])) (opens ∷ detect_b ∷ []) ≡ opened ∷ answers nothing ∷ []
unfolding both_ends
no_wake_up = refl

-- Type B under 11 bytes: none
short_b : bench (alone (like card_b (replicate 10 0x01) card_b.replies)) (opens ∷ detect_b ∷ []) ≡ opened ∷ answers nothing ∷ []
unfolding both_ends
short_b = refl

-- list data of 1,011 bytes: the packet is refused with 3, and the call waits
long_f : bench (alone (like felica (replicate 1011 0) [])) (opens ∷ detect_f ∷ []) ≡ opened ∷ rejects OverLong ∷ []
unfolding both_ends
long_f = refl

-- a SEL_RES that is not the card's: its reply is taken for a Type 2 card's, and ends with 18
other_sel_res : bench (alone (like tag (0x00 ∷ 0x44 ∷ 0x20 ∷ 0x00 ∷ []) (reply (0x30 ∷ 0x00 ∷ []) (0x00 ∷ 0x00 ∷ 0x00 ∷ []) ∷ [])))
    (opens ∷ detect_a ∷ (reader (device (transceive (ascii "106A") (0x00 ∷ []) false (0x30 ∷ 0x00 ∷ []) none)), 3) ∷ [])
    ≡ opened ∷ answers (done (0x44 ∷ 0x00 ∷ 0x20 ∷ [])) ∷ answers (refused CrcA) ∷ []
unfolding both_ends
other_sel_res = refl
