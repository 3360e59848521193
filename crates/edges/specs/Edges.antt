-- Document 01's edge cases that are marked to be proved, as one table with one theorem.
use Rattle.std.specs.Prelude.{◌≡◌, refl, false, cond, List, [], ◌∷◌, ℕ, eqb, drop, Option, Some, None}
use Rattle.std.proofs.Common.{ap}
use Rattle.errors.specs.Choice.{pick, same}
use Rattle.errors.specs.Refusals.{fault_numbered, plain}
use Rattle.errors.specs.declared.Fault.{Fault}
use Rattle.errors.specs.declared.Fault.TheVariants.{TimeOut, BrokenFrame}
use Rattle.crc.specs.Crc.{CrcKind, type_a, type_b, polynomial, bit_in, bits_in, bits, register_after, result, crc_of, crc_bytes, checks}
use Rattle.framing.specs.Frames.{total, checksum_of, ack, normal_frame, extended_frame, length_bytes, head_of, frame_of}
use Rattle.framing.specs.Lists.{starts}
use Rattle.framing.specs.Parse.{is_error_of, extends, length_at, normal_at, extended_at, normal_of, extended_of, data_of, parse_of, payload_of}
use Rattle.framing.specs.Settings.{format_of}
use Rattle.framing.specs.declared.ErrorDetection.{ErrorDetection}
use Rattle.framing.specs.declared.ErrorDetection.TheVariants.{ErrorFrame, StatusByte}
use Rattle.framing.specs.declared.FrameFormat.{FrameFormat}
use Rattle.framing.specs.declared.FrameType.{FrameType}
use Rattle.framing.specs.declared.FrameType.TheVariants.{Error}
use Rattle.framing.specs.declared.LengthEncoding.{LengthEncoding}
use Rattle.framing.specs.declared.LengthEncoding.TheVariants.{Normal, ExtendedLittleEndian, NormalOrExtendedBigEndian}
use Rattle.exchange.specs.Packets.{has_start, ack_led, Reply, response, failed, reply_of}
use Rattle.exchange.specs.Exchange.{write, read, pkt, pending, ExchangePhase, reading, waiting, cancelling, after_ack, advance}
use Rattle.protocol.specs.Scripts.{Byte, card, done, Script, finish, command, reset, field_pause, part, rest}
use Rattle.protocol.specs.Discovery.{cascaded, transceive_type2}
use Rattle.chipset.specs.Responses.{with_status}
use Rattle.device.specs.Transceive.{type2_answer}

pub data Edge : Type 0 where
  frame : LengthEncoding → List ℕ → List ℕ → Edge  -- the frame of a payload
  length_field : LengthEncoding → ℕ → List ℕ → Edge  -- what stands behind the start bytes, up to the payload
  parsed : FrameFormat → List ℕ → Option FrameType → Edge  -- what a packet is under a format
  parsed_always : List ℕ → Option FrameType → Edge  -- the same under every setting
  payload : FrameFormat → List ℕ → List ℕ → Edge  -- the payload of a packet
  refused : List ℕ → Fault → ℕ → Edge  -- what the packet is refused with in step 5 of the exchange, and the number of that
  skipped : List ℕ → Edge  -- the exchange skips the packet (its step 4), be it the first or a later one
  crc : CrcKind → List ℕ → List ℕ → Edge  -- the CRC of some bytes
  uid : List ℕ → List ℕ → Edge  -- the bytes that are sent for a UID
  type2 : List ℕ → List ℕ → Edge  -- the kind of tag that a response with a Type 2 reply is
  type2_call : List ℕ → List Byte → Edge  -- the answer of the call itself, with the bytes' places

-- the exchange reads on, for any command and any clock but 0
abbrev pub ReadsOn : (ℕ → ℕ → ExchangePhase) → List ℕ → Type 0
ReadsOn step p = (code clock : ℕ) → eqb clock 0 ≡ false → advance (step code clock) (pkt p) ≡ pending (read clock) (waiting code clock)

-- what follows the reply to a script's command
abbrev pub replied : Reply → Script → Script
replied r (finish a) = finish a
replied r (command code clock bytes f) = f r
replied r (reset s) = reset s
replied r (field_pause s) = field_pause s

abbrev pub Holds : Edge → Type 0
Holds (frame e p bs) = frame_of e p ≡ bs
Holds (length_field e n bs) = drop 3 (head_of e n) ≡ bs
Holds (parsed f p x) = parse_of f p ≡ x
Holds (parsed_always p x) = (e : LengthEncoding) (d : ErrorDetection) → parse_of (format_of e d) p ≡ x
Holds (payload f p bs) = payload_of (parse_of f p) p ≡ bs
Holds (refused p r n) = ((code : ℕ) → reply_of code p ≡ failed r) × (fault_numbered r ≡ plain n)
Holds (skipped p) = ReadsOn reading p × ReadsOn waiting p
Holds (crc k s bs) = crc_bytes k s ≡ bs
Holds (uid u bs) = cascaded u ≡ bs
Holds (type2 p bs) = type2_answer p ≡ done bs
Holds (type2_call p bs) = (bytes : List ℕ) (ms : ℕ) → replied (response p) (transceive_type2 bytes ms) ≡ finish (done bs)

abbrev pub AllHold : List Edge → Type 0
AllHold [] = Unit {0}
AllHold (x ∷ xs) = Holds x × AllHold xs

abbrev pub status_frame : List ℕ
status_frame = 0x00 ∷ 0x00 ∷ 0xFF ∷ 0x01 ∷ 0xFF ∷ 0x7F ∷ 0x81 ∷ 0x00 ∷ []

abbrev pub ack_and_one : List ℕ
ack_and_one = 0x00 ∷ 0x00 ∷ 0xFF ∷ 0x00 ∷ 0xFF ∷ 0x00 ∷ 0x00 ∷ []

-- responses: the status byte, then the reply of a Type 2 tag
abbrev pub two_bytes : List ℕ
two_bytes = 0x00 ∷ 0x0A ∷ 0x0B ∷ []

abbrev pub four_bytes : List ℕ
four_bytes = 0x00 ∷ 0x00 ∷ 0x00 ∷ 0xA0 ∷ 0x1E ∷ []

abbrev pub edge_table : List Edge
edge_table =
    frame Normal (0xD4 ∷ 0x02 ∷ []) (0x00 ∷ 0x00 ∷ 0xFF ∷ 0x02 ∷ 0xFE ∷ 0xD4 ∷ 0x02 ∷ 0x2A ∷ 0x00 ∷ [])
    ∷ frame Normal [] (0x00 ∷ 0x00 ∷ 0xFF ∷ 0x00 ∷ 0x00 ∷ 0x00 ∷ 0x00 ∷ [])
    ∷ frame ExtendedLittleEndian [] (0x00 ∷ 0x00 ∷ 0xFF ∷ 0xFF ∷ 0xFF ∷ 0x00 ∷ 0x00 ∷ 0x00 ∷ 0x00 ∷ 0x00 ∷ [])
    ∷ length_field NormalOrExtendedBigEndian 255 (0xFF ∷ 0x01 ∷ [])
    ∷ length_field NormalOrExtendedBigEndian 256 (0xFF ∷ 0xFF ∷ 0x01 ∷ 0x00 ∷ 0xFF ∷ [])
    ∷ parsed (format_of Normal StatusByte) status_frame (Some (Error 8))
    ∷ parsed (format_of ExtendedLittleEndian StatusByte) status_frame (Some (Error 8))
    ∷ parsed (format_of NormalOrExtendedBigEndian StatusByte) status_frame (Some (Error 8))
    ∷ payload (format_of Normal ErrorFrame) status_frame (0x7F ∷ [])
    ∷ payload (format_of ExtendedLittleEndian ErrorFrame) status_frame (0x7F ∷ [])
    ∷ payload (format_of NormalOrExtendedBigEndian ErrorFrame) status_frame (0x7F ∷ [])
    ∷ parsed_always ack_and_one None
    ∷ refused ack_and_one BrokenFrame 10
    ∷ skipped ack_and_one
    ∷ crc type_a (0x00 ∷ 0x00 ∷ []) (0xA0 ∷ 0x1E ∷ [])
    ∷ crc type_b (0x00 ∷ 0x00 ∷ 0x00 ∷ []) (0xCC ∷ 0xC6 ∷ [])
    ∷ uid (1 ∷ 2 ∷ 3 ∷ 4 ∷ []) (1 ∷ 2 ∷ 3 ∷ 4 ∷ [])
    ∷ uid (1 ∷ 2 ∷ 3 ∷ 4 ∷ 5 ∷ 6 ∷ 7 ∷ []) (0x88 ∷ 1 ∷ 2 ∷ 3 ∷ 4 ∷ 5 ∷ 6 ∷ 7 ∷ [])
    ∷ uid (1 ∷ 2 ∷ 3 ∷ 4 ∷ 5 ∷ 6 ∷ 7 ∷ 8 ∷ []) (0x88 ∷ 1 ∷ 2 ∷ 3 ∷ 0x88 ∷ 4 ∷ 5 ∷ 6 ∷ 7 ∷ 8 ∷ [])
    ∷ uid (1 ∷ 2 ∷ 3 ∷ 4 ∷ 5 ∷ 6 ∷ 7 ∷ 8 ∷ 9 ∷ 10 ∷ []) (0x88 ∷ 1 ∷ 2 ∷ 3 ∷ 0x88 ∷ 4 ∷ 5 ∷ 6 ∷ 7 ∷ 8 ∷ 9 ∷ 10 ∷ [])
    ∷ type2 two_bytes (0x0A ∷ 0x0B ∷ [])
    ∷ type2 four_bytes (0x00 ∷ 0x00 ∷ [])
    ∷ type2_call two_bytes (card 0 1 0x0A ∷ card 0 2 0x0B ∷ [])
    ∷ type2_call four_bytes (card 0 1 0x00 ∷ card 0 2 0x00 ∷ [])
    ∷ []

-- to unfold this is to unfold the formats
formats : Unit {0}
unfolding pick starts same total checksum_of normal_frame extended_frame length_bytes head_of frame_of
    is_error_of extends length_at normal_at extended_at normal_of extended_of data_of parse_of payload_of
formats = tt

broken : (e : LengthEncoding) (d : ErrorDetection) → parse_of (format_of e d) ack_and_one ≡ None
unfolding formats
broken Normal ErrorFrame = refl
broken Normal StatusByte = refl
broken ExtendedLittleEndian ErrorFrame = refl
broken ExtendedLittleEndian StatusByte = refl
broken NormalOrExtendedBigEndian ErrorFrame = refl
broken NormalOrExtendedBigEndian StatusByte = refl

reads_on : (code clock : ℕ) → eqb clock 0 ≡ false → after_ack code clock ≡ pending (read clock) (waiting code clock)
reads_on code clock h = ap (λ t. cond t (pending (write ack) (cancelling TimeOut)) (pending (read clock) (waiting code clock))) h

pub edges : AllHold edge_table
unfolding formats
    polynomial bit_in bits_in bits register_after result crc_of crc_bytes same checks
    has_start ack_led reply_of part rest with_status type2_answer
edges = (refl, (refl, (refl, (refl, (refl, (refl, (refl, (refl, (refl, (refl, (refl, (broken, (((λ code. refl), refl), ((reads_on, reads_on), (refl, (refl, (refl, (refl, (refl, (refl, (refl, (refl, ((λ bytes ms. refl), ((λ bytes ms. refl), tt))))))))))))))))))))))))
