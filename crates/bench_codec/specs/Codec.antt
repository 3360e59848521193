-- The lines of the program `codec`, and the text that is printed for each. A line that cannot be read gives `refused 4`.
use Rattle.std.specs.Prelude.{Bool, true, false, List, [], ◌∷◌, ◌++◌, ℕ, ◌+◌, ◌*◌, ◌-◌, ◌/◌, ◌%◌, eqb, ltb, length, take, get_or, Option, Some, None, Result, Ok, Err, ◌≡◌, ◌≤◌}
use Rattle.errors.specs.Refusals.{Returned, answered, refused}
use Rattle.errors.specs.declared.Refusal.{Refusal}
use Rattle.framing.specs.Build.{limit_of}
use Rattle.framing.specs.Frames.{frame_of, checksum_of}
use Rattle.errors.specs.Choice.{pick, same}
use Rattle.framing.specs.Padded.{parse_padded_of}
use Rattle.framing.specs.Parse.{parse_of, payload_of}
use Rattle.framing.specs.Settings.{setting_of}
use Rattle.framing.specs.declared.FrameFormat.{FrameFormat}
use Rattle.framing.specs.declared.FrameType.{FrameType}
use Rattle.framing.specs.declared.FrameType.TheVariants.{Ack, Error, Data}
use Rattle.framing.specs.declared.padded.Padded.{Padded}
use Rattle.felica.specs.Fields.{RequestFields, reads, writes, no_request, request_of}
use Rattle.felica.specs.Packets.{read_request_of, write_request_of, read_reply_of, write_reply_of, request_fits, write_fits_of, read_reply_fits, idm_fits}
use Rattle.crc.specs.Crc.{CrcKind, type_a, type_b, checks, crc_bytes}
use Rattle.targets.specs.Bitrates.{ascii, send_part_of}
use Rattle.bench.specs.Texts.{decimal_of}
use Rattle.bench.specs.Hex.{dash, is_hex_of, pairs_of, hex_of}
use Rattle.bench.specs.Words.{words_of_lem}
use Rattle.bench.specs.declared.lines.Line.{Line}
use Rattle.bench.specs.declared.lines.Line.TheVariants.{Text, OverLong, End}
use Rattle.bench.specs.Lines.{feed}
use Rattle.bench_codec.specs.declared.blocks.PacketKind.{PacketKind}
use Rattle.bench_codec.specs.declared.blocks.PacketKind.TheVariants.{ReadRequest, WriteRequest, ReadReply, WriteReply}

-- the longest line, without its line feed; room for its bytes, for a frame or those bytes with their CRC, and for any answer
abbrev pub line_limit : ℕ
line_limit = 262144

abbrev pub bytes_room : ℕ
bytes_room = 131072

abbrev pub frame_room : ℕ
frame_room = 131088

abbrev pub answer_room : ℕ
answer_room = 262208

abbrev pub unreadable : List ℕ
unreadable = ascii "refused 4"

-- the setting of a word: one digit, 0 to 5; `0` is 48
abbrev pub zero_digit : ℕ
zero_digit = 48

unfoldable pub setting_named : List ℕ → Option FrameFormat
setting_named w = pick (eqb (length w) 1) (pick (ltb (get_or w 0 0) zero_digit) None (setting_of (get_or w 0 0 - zero_digit))) None

-- `build`: the frame, or refusal 3 above the format's limit
unfoldable pub build_text : FrameFormat → List ℕ → List ℕ
build_text f p = pick (ltb (limit_of f) (length p)) (ascii "refused 3") (hex_of (frame_of f.length p))

-- `parse`: the kind, the frame's length, and of a data frame the payload
unfoldable pub data_text : ℕ → List ℕ → List ℕ
data_text n payload = ascii "data " ++ decimal_of n ++ ascii " " ++ hex_of payload

unfoldable pub found_text : Option FrameType → List ℕ → List ℕ
found_text (Some (Ack n)) p = ascii "ack " ++ decimal_of n
found_text (Some (Error n)) p = ascii "error " ++ decimal_of n
found_text (Some (Data start len n)) p = data_text n (payload_of (Some (Data start len n)) p)
found_text None p = ascii "none"

unfoldable pub parse_text : FrameFormat → List ℕ → List ℕ
parse_text f p = found_text (parse_of f p) p

-- `parse_padded`: the same with the padded mode on, and behind a frame the number of extra zeros
abbrev pub is_frame : Option FrameType → Bool
is_frame (Some t) = true
is_frame None = false

unfoldable pub with_zeros : Padded → List ℕ → List ℕ
with_zeros a p = pick (is_frame a.found) (found_text a.found p ++ ascii " " ++ decimal_of a.zeros) (found_text a.found p)

unfoldable pub padded_text : FrameFormat → List ℕ → List ℕ
padded_text f p = with_zeros (parse_padded_of f true p) p

-- `checksum`: one byte
unfoldable pub checksum_text : List ℕ → List ℕ
checksum_text p = hex_of (checksum_of p ∷ [])

-- `crc_a_check`, `crc_b_check`
abbrev pub yes_or_no : Bool → List ℕ
yes_or_no true = ascii "yes"
yes_or_no false = ascii "no"

-- `crc_a_append`, `crc_b_append`: the bytes with the CRC behind them
unfoldable pub append_text : CrcKind → List ℕ → List ℕ
append_text k p = hex_of (p ++ crc_bytes k p)

-- `bitrate`: the send part, or refusal 5; `-` is the empty text
unfoldable pub send_text : Returned → List ℕ → List ℕ
send_text (answered n) t = ascii "ok " ++ take n t
send_text (refused e) t = ascii "refused 5"

unfoldable pub bitrate_text : List ℕ → List ℕ
bitrate_text t = send_text (send_part_of t) t

abbrev pub bitrate_word : List ℕ → List ℕ
bitrate_word w = pick (eqb (length w) 0) unreadable (pick (same dash w) (bitrate_text []) (bitrate_text w))

-- ---- FeliCa blocks

-- room for a packet
abbrev pub packet_room : ℕ
packet_room = 128

-- the packet of a kind, and whether there is one: IDm, two bytes that are the service code, high byte first, or both flags, block numbers or
-- a reply's block data, block data
unfoldable pub block_fits : PacketKind → List ℕ → ℕ → List ℕ → List ℕ → Bool
block_fits ReadRequest idm x blocks bytes = request_fits idm blocks
block_fits WriteRequest idm x blocks bytes = write_fits_of idm blocks bytes
block_fits ReadReply idm x blocks bytes = read_reply_fits idm x blocks
block_fits WriteReply idm x blocks bytes = idm_fits idm

unfoldable pub block_packet : PacketKind → List ℕ → ℕ → ℕ → List ℕ → List ℕ → List ℕ
block_packet ReadRequest idm x y blocks bytes = read_request_of idm (256 * x + y) blocks
block_packet WriteRequest idm x y blocks bytes = write_request_of idm (256 * x + y) blocks bytes
block_packet ReadReply idm x y blocks bytes = read_reply_of idm x y blocks
block_packet WriteReply idm x y blocks bytes = write_reply_of idm x y

-- its text, or refusal 4
unfoldable pub block_text : PacketKind → List ℕ → ℕ → ℕ → List ℕ → List ℕ → List ℕ
block_text kind idm x y blocks bytes = pick (block_fits kind idm x blocks bytes) (hex_of (block_packet kind idm x y blocks bytes)) unreadable

-- the words of its line, from the last on
abbrev pub with_bytes : PacketKind → List ℕ → ℕ → ℕ → List ℕ → List ℕ → List ℕ
with_bytes kind idm x y blocks d = pick (is_hex_of d) (block_text kind idm x y blocks (pairs_of d)) unreadable

abbrev pub with_blocks : PacketKind → List ℕ → ℕ → ℕ → List ℕ → List ℕ → List ℕ
with_blocks kind idm x y b d = pick (is_hex_of b) (with_bytes kind idm x y (pairs_of b) d) unreadable

unfoldable pub with_service : PacketKind → List ℕ → List ℕ → List ℕ → List ℕ → List ℕ
with_service kind idm s b d =
    pick (eqb (length s) 4) (pick (is_hex_of s) (with_blocks kind idm (get_or (pairs_of s) 0 0) (get_or (pairs_of s) 1 0) b d) unreadable) unreadable

abbrev pub block_line : PacketKind → List ℕ → List ℕ → List ℕ → List ℕ → List ℕ
block_line kind i s b d = pick (is_hex_of i) (with_service kind (pairs_of i) s b d) unreadable

-- a packet at the start of a buffer, and what is printed for it
abbrev pub PacketText : Result ℕ Refusal → List ℕ → List ℕ → Type 0
PacketText (Ok n) o t = (n ≤ length o) × (t ≡ hex_of (take n o))
PacketText (Err e) o t = t ≡ unreadable

-- `request`: a request's fields, each behind a space, or `none`
unfoldable pub word_text : List ℕ → List ℕ
word_text p = ascii " " ++ hex_of p

unfoldable pub asked_text : List ℕ → List ℕ → ℕ → List ℕ → List ℕ
asked_text name idm service blocks = name ++ word_text idm ++ word_text (service / 256 ∷ service % 256 ∷ []) ++ word_text blocks

unfoldable pub fields_text : RequestFields → List ℕ
fields_text (reads idm service blocks) = asked_text (ascii "read") idm service blocks
fields_text (writes idm service blocks bytes) = asked_text (ascii "write") idm service blocks ++ word_text bytes
fields_text no_request = ascii "none"

unfoldable pub request_text : List ℕ → List ℕ
request_text p = fields_text (request_of p)

-- a name and bytes
abbrev pub on_bytes : List ℕ → List ℕ → List ℕ
on_bytes name p =
    pick (same (ascii "checksum") name) (checksum_text p)
    (pick (same (ascii "crc_a_check") name) (yes_or_no (checks type_a p))
    (pick (same (ascii "crc_b_check") name) (yes_or_no (checks type_b p))
    (pick (same (ascii "crc_a_append") name) (append_text type_a p)
    (pick (same (ascii "crc_b_append") name) (append_text type_b p)
    (pick (same (ascii "request") name) (request_text p) unreadable)))))

-- a name, a format and bytes
abbrev pub on_format : List ℕ → FrameFormat → List ℕ → List ℕ
on_format name f p =
    pick (same (ascii "build") name) (build_text f p)
    (pick (same (ascii "parse") name) (parse_text f p)
    (pick (same (ascii "parse_padded") name) (padded_text f p) unreadable))

abbrev pub two_words : List ℕ → List ℕ → List ℕ
two_words name w =
    pick (same (ascii "bitrate") name) (bitrate_word w)
    (pick (is_hex_of w) (on_bytes name (pairs_of w)) unreadable)

unfoldable pub on_setting : Option FrameFormat → List ℕ → List ℕ → List ℕ
on_setting (Some f) name w = pick (is_hex_of w) (on_format name f (pairs_of w)) unreadable
on_setting None name w = unreadable

abbrev pub three_words : List ℕ → List ℕ → List ℕ → List ℕ
three_words name number w = pick (same (ascii "write_reply") name) (block_line WriteReply number w dash dash) (on_setting (setting_named number) name w)

abbrev pub four_words : List ℕ → List ℕ → List ℕ → List ℕ → List ℕ
four_words name i s b =
    pick (same (ascii "read_request") name) (block_line ReadRequest i s b dash)
    (pick (same (ascii "read_reply") name) (block_line ReadReply i s b dash) unreadable)

abbrev pub five_words : List ℕ → List ℕ → List ℕ → List ℕ → List ℕ → List ℕ
five_words name i s b d = pick (same (ascii "write_request") name) (block_line WriteRequest i s b d) unreadable

unfoldable pub on_words : List (List ℕ) → List ℕ
on_words [] = unreadable
on_words (name ∷ []) = unreadable
on_words (name ∷ word ∷ []) = two_words name word
on_words (name ∷ number ∷ word ∷ []) = three_words name number word
on_words (name ∷ i ∷ s ∷ b ∷ []) = four_words name i s b
on_words (name ∷ i ∷ s ∷ b ∷ d ∷ []) = five_words name i s b d
on_words (name ∷ i ∷ s ∷ b ∷ d ∷ more ∷ words) = unreadable

unfoldable pub answer_of : List ℕ → List ℕ
answer_of l = pick (ltb line_limit (length l)) unreadable (on_words (words_of_lem l))

-- what is written for a line that stands at the start of b: the text and a line feed (10), and nothing at the end of the input
unfoldable pub line_reply : Line → List ℕ → List ℕ
line_reply (Text n) b = answer_of (take n b) ++ (feed ∷ [])
line_reply OverLong b = unreadable ++ (feed ∷ [])
line_reply End b = []
