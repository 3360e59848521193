-- An answer and its line feed fit the room for them.
use mathlib.Core.Path.{◌≡◌, refl, sym, ap}
use mathlib.Core.Bool.{Bool, true, false}
use mathlib.Core.List.{List, [], ◌∷◌, ◌++◌}
use Prim.Native.Nat.{ℕ, ◌+◌, ◌-◌, ◌*◌, ◌/◌, ◌%◌, ◌≤◌, ◌<◌}
use native.Mathlib.Omega.{arith}
use borrow.Author.Tests.{lt-ltb, le-ltb, ltb-false}
use lib.Dec.{ltb, eqb}
use lib.ListN.{length, take, drop, get_or, length-append, length-take, length-drop}
use Rattle.errors.specs.Refusals.{Returned, answered, refused}
use Rattle.framing.specs.Build.{limit_of}
use Rattle.framing.specs.Frames.{frame_of, checksum_of}
use Rattle.std.specs.Prelude.{Option, Some, None}
use Rattle.errors.specs.Choice.{pick, same}
use Rattle.framing.specs.Padded.{parse_padded_of}
use Rattle.framing.specs.Parse.{parse_of, payload_of}
use Rattle.framing.specs.declared.FrameFormat.{FrameFormat}
use Rattle.framing.specs.declared.FrameType.{FrameType}
use Rattle.framing.specs.declared.FrameType.TheVariants.{Ack, Error, Data}
use Rattle.framing.specs.declared.padded.Padded.{Padded}
use Rattle.crc.specs.Crc.{CrcKind, type_a, type_b, checks, crc_bytes}
use Rattle.crc.specs.Laws.{crc_length}
use Rattle.targets.specs.Bitrates.{ascii, send_part_of}
use Rattle.bench_codec.specs.Codec.{line_limit, bytes_room, answer_room, unreadable, setting_named, build_text, data_text, found_text, parse_text, is_frame, with_zeros, padded_text, checksum_text, yes_or_no, append_text, send_text, bitrate_text, bitrate_word, on_bytes, on_format, two_words, on_setting, on_words, word_text, asked_text, fields_text, request_text, block_fits, block_packet, block_text, with_service, block_line, answer_of, line_reply}
use Rattle.bench.specs.Hex.{dash, is_hex_of, pairs_of, hex_of}
use Rattle.bench.specs.Texts.{over, Placed, placed, placed_at, put_at, decimal_of, Appends}
use Rattle.bench.specs.Words.{words_of_lem}
use Rattle.bench.specs.declared.lines.Line.{Line}
use Rattle.bench.specs.declared.lines.Line.TheVariants.{Text, OverLong, End}
use Rattle.felica.specs.Fields.{idm_in, service_in, count_in, list_in, block_data_in, numbers_in, is_request_of, reads, writes, no_request, request_of}
use Rattle.felica.specs.Packets.{read_code, write_code}
use Rattle.felica.specs.Taken.{request_few}
use Rattle.bench_codec.specs.declared.blocks.PacketKind.{PacketKind}
use Rattle.bench_codec.specs.declared.blocks.PacketKind.TheVariants.{ReadRequest, WriteRequest, ReadReply, WriteReply}
use Rattle.bench_codec.proofs.BlockLaws.{packet_short, word_short as block_word_short}
use Rattle.bench_codec.proofs.FrameLaws.{length-frame, longest_65535}
use Rattle.bench.specs.DecimalLaws.{decimal_short}
use Rattle.bench.specs.HexLaws.{hex_short, length_pairs}
use Rattle.bench.specs.TextLaws.{appended, then_put, at-start}
use Rattle.bench.specs.WordLaws.{word_short}
use Rattle.bench.specs.Lines.{feed}

-- the longest answer: `data`, 20 digits, the payload of a line's bytes, and 20 digits
abbrev Fits : List ℕ → Type 0
Fits t = length t ≤ 262192

pick-fits : (t : Bool) (a c : List ℕ) → Fits a → Fits c → Fits (pick t a c)
unfolding pick
pick-fits true a c h k = h
pick-fits false a c h k = k

unreadable-fits : Fits unreadable
unreadable-fits = omega arith

bitrate_fits : (t : List ℕ) → length t ≤ line_limit → Fits (bitrate_text t)
unfolding bitrate_text send_text
bitrate_fits t h = go (send_part_of t)
  where
    go : (o : Returned) → Fits (send_text o t)
    go (answered n) = rw (length-append (ascii "ok ") (take n t)) (omega (arith, length-take n t))
    go (refused e) = omega arith

word-rate-fits : (w : List ℕ) → length w ≤ line_limit → Fits (bitrate_word w)
word-rate-fits w h =
    pick-fits (eqb (length w) 0) unreadable _ unreadable-fits
    (pick-fits (same dash w) (bitrate_text []) (bitrate_text w) (bitrate_fits [] (omega arith)) (bitrate_fits w h))

yes_fits : (t : Bool) → Fits (yes_or_no t)
yes_fits true = omega arith
yes_fits false = omega arith

append-fits : (k : CrcKind) (p : List ℕ) → length p ≤ bytes_room → Fits (append_text k p)
unfolding append_text
append-fits k p h = omega (arith, hex_short (p ++ crc_bytes k p), length-append p (crc_bytes k p), crc_length k p)

numbers_short : (l : List ℕ) → 2 * length (numbers_in l) ≤ length l
unfolding numbers_in
numbers_short [] = omega arith
numbers_short (x ∷ []) = omega arith
numbers_short (x ∷ y ∷ l) = omega (arith, numbers_short l)

few_numbered : (code s : ℕ) (p : List ℕ) → is_request_of code s p ≡ true → length (numbers_in (list_in p)) ≤ 4
few_numbered code s p h = omega (arith, request_few code s p true (sym h) refl, numbers_short (list_in p), length-take (2 * count_in p) (drop 14 p))

request-fits : (p : List ℕ) → length p ≤ bytes_room → Fits (request_text p)
unfolding request_text fields_text request_of pick asked_text
request-fits p h = go (is_request_of read_code 0 p) (is_request_of write_code 16 p) refl refl
  where
    s : List ℕ
    s = service_in p / 256 ∷ service_in p % 256 ∷ []

    asked : (name : List ℕ) → length name ≤ 5 → length (numbers_in (list_in p)) ≤ 4 → length (name ++ word_text (idm_in p) ++ word_text s ++ word_text (numbers_in (list_in p))) ≤ 39
    asked name n k =
        omega (arith, length-append (name ++ word_text (idm_in p) ++ word_text s) (word_text (numbers_in (list_in p))), length-append (name ++ word_text (idm_in p)) (word_text s), length-append name (word_text (idm_in p)), block_word_short (idm_in p), block_word_short s, block_word_short (numbers_in (list_in p)), length-take 8 (drop 2 p))

    go : (t u : Bool) → is_request_of read_code 0 p ≡ t → is_request_of write_code 16 p ≡ u → Fits (fields_text (pick t (reads (idm_in p) (service_in p) (numbers_in (list_in p)))
        (pick u (writes (idm_in p) (service_in p) (numbers_in (list_in p)) (block_data_in (count_in p) p)) no_request)))
    go true u e f = omega (arith, asked (ascii "read") (omega arith) (few_numbered read_code 0 p e))
    go false true e f =
        let w : List ℕ = ascii "write" ++ word_text (idm_in p) ++ word_text s ++ word_text (numbers_in (list_in p)) in
        omega (arith, length-append w (word_text (block_data_in (count_in p) p)), asked (ascii "write") (omega arith) (few_numbered write_code 16 p f), block_word_short (block_data_in (count_in p) p), length-drop (14 + 2 * count_in p) p)
    go false false e f = omega arith

block_fits_lem : (kind : PacketKind) (x y : ℕ) (idm blocks bytes : List ℕ) → Fits (block_text kind idm x y blocks bytes)
unfolding block_text pick
block_fits_lem kind x y idm blocks bytes = go (block_fits kind idm x blocks bytes) refl
  where
    go : (t : Bool) → block_fits kind idm x blocks bytes ≡ t → Fits (pick t (hex_of (block_packet kind idm x y blocks bytes)) unreadable)
    go true h = omega (arith, packet_short kind x y idm blocks bytes h, hex_short (block_packet kind idm x y blocks bytes))
    go false h = unreadable-fits

line-fits : (kind : PacketKind) (i s b d : List ℕ) → Fits (block_line kind i s b d)
unfolding with_service
line-fits kind i s b d =
    pick-fits (is_hex_of i) _ unreadable
    (pick-fits (eqb (length s) 4) _ unreadable
    (pick-fits (is_hex_of s) _ unreadable
    (pick-fits (is_hex_of b) _ unreadable
    (pick-fits (is_hex_of d) _ unreadable (block_fits_lem kind (get_or (pairs_of s) 0 0) (get_or (pairs_of s) 1 0) (pairs_of i) (pairs_of b) (pairs_of d)) unreadable-fits) unreadable-fits) unreadable-fits) unreadable-fits) unreadable-fits

bytes_fit : (name p : List ℕ) → length p ≤ bytes_room → Fits (on_bytes name p)
unfolding checksum_text
bytes_fit name p h =
    pick-fits (same (ascii "checksum") name) _ _ (omega (arith, hex_short (checksum_of p ∷ [])))
    (pick-fits (same (ascii "crc_a_check") name) _ _ (yes_fits (checks type_a p))
    (pick-fits (same (ascii "crc_b_check") name) _ _ (yes_fits (checks type_b p))
    (pick-fits (same (ascii "crc_a_append") name) _ _ (append-fits type_a p h)
    (pick-fits (same (ascii "crc_b_append") name) _ _ (append-fits type_b p h)
    (pick-fits (same (ascii "request") name) _ unreadable (request-fits p h) unreadable-fits)))))

build_fits : (f : FrameFormat) (p : List ℕ) → Fits (build_text f p)
unfolding build_text limit_of pick
build_fits f p = go (ltb (limit_of f) (length p)) refl
  where
    go : (t : Bool) → ltb (limit_of f) (length p) ≡ t → Fits (pick t (ascii "refused 3") (hex_of (frame_of f.length p)))
    go true h = omega arith
    go false h = omega (arith, ltb-false (limit_of f) (length p) h, longest_65535 f.length, length-frame f.length p, hex_short (frame_of f.length p))

data_short : (n : ℕ) (q : List ℕ) → length q ≤ bytes_room → length (data_text n q) ≤ 262171
unfolding data_text
data_short n q h =
    rw (length-append (ascii "data " ++ decimal_of n ++ ascii " ") (hex_of q), length-append (ascii "data " ++ decimal_of n) (ascii " "), length-append (ascii "data ") (decimal_of n))
    (omega (arith, decimal_short n, hex_short q))

found_short : (r : Option FrameType) (p : List ℕ) → length p ≤ bytes_room → length (found_text r p) ≤ 262171
unfolding found_text payload_of
found_short (Some (Ack n)) p h = rw (length-append (ascii "ack ") (decimal_of n)) (omega (arith, decimal_short n))
found_short (Some (Error n)) p h = rw (length-append (ascii "error ") (decimal_of n)) (omega (arith, decimal_short n))
found_short (Some (Data s len n)) p h = data_short n _ (omega (arith, length-take len (drop s p), length-drop s p))
found_short None p h = omega arith

found-fits : (r : Option FrameType) (p : List ℕ) → length p ≤ bytes_room → Fits (found_text r p)
found-fits r p h = omega (arith, found_short r p h)

padded-fits : (a : Padded) (p : List ℕ) → length p ≤ bytes_room → Fits (with_zeros a p)
unfolding with_zeros
padded-fits a p h =
    pick-fits (is_frame a.found) _ _
    (rw (length-append (found_text a.found p ++ ascii " ") (decimal_of a.zeros), length-append (found_text a.found p) (ascii " "))
    (omega (arith, found_short a.found p h, decimal_short a.zeros)))
    (found-fits a.found p h)

format_fits : (name p : List ℕ) (f : FrameFormat) → length p ≤ bytes_room → Fits (on_format name f p)
unfolding parse_text padded_text
format_fits name p f h =
    pick-fits (same (ascii "build") name) _ _ (build_fits f p)
    (pick-fits (same (ascii "parse") name) _ _ (found-fits (parse_of f p) p h)
    (pick-fits (same (ascii "parse_padded") name) _ unreadable (padded-fits (parse_padded_of f true p) p h) unreadable-fits))

pairs_fit : (w : List ℕ) → length w ≤ line_limit → length (pairs_of w) ≤ bytes_room
pairs_fit w h = omega (arith, length_pairs w)

two_fit : (name w : List ℕ) → length w ≤ line_limit → Fits (two_words name w)
two_fit name w h =
    pick-fits (same (ascii "bitrate") name) _ _ (word-rate-fits w h)
    (pick-fits (is_hex_of w) _ unreadable (bytes_fit name (pairs_of w) (pairs_fit w h)) unreadable-fits)

setting_fits : (s : Option FrameFormat) (name w : List ℕ) → length w ≤ line_limit → Fits (on_setting s name w)
unfolding on_setting
setting_fits (Some f) name w h = pick-fits (is_hex_of w) _ unreadable (format_fits name (pairs_of w) f (pairs_fit w h)) unreadable-fits
setting_fits None name w h = unreadable-fits

words_fit : (ws : List (List ℕ)) → ((k : ℕ) → length (get_or ws k []) ≤ line_limit) → Fits (on_words ws)
unfolding on_words
words_fit [] h = unreadable-fits
words_fit (a ∷ []) h = unreadable-fits
words_fit (a ∷ b ∷ []) h = two_fit a b (h 1)
words_fit (a ∷ b ∷ c ∷ []) h = pick-fits (same (ascii "write_reply") a) _ _ (line-fits WriteReply b c dash dash) (setting_fits (setting_named b) a c (h 2))
words_fit (a ∷ b ∷ c ∷ d ∷ []) h =
    pick-fits (same (ascii "read_request") a) _ _ (line-fits ReadRequest b c d dash) (pick-fits (same (ascii "read_reply") a) _ unreadable (line-fits ReadReply b c d dash) unreadable-fits)
words_fit (a ∷ b ∷ c ∷ d ∷ e ∷ []) h = pick-fits (same (ascii "write_request") a) _ unreadable (line-fits WriteRequest b c d e) unreadable-fits
words_fit (a ∷ b ∷ c ∷ d ∷ e ∷ f ∷ ws) h = unreadable-fits

pub answer-fits : (l : List ℕ) → length (answer_of l) ≤ 262192
unfolding answer_of pick
answer-fits l = go (ltb line_limit (length l)) refl
  where
    go : (t : Bool) → ltb line_limit (length l) ≡ t → Fits (pick t unreadable (on_words (words_of_lem l)))
    go true h = unreadable-fits
    go false h = words_fit (words_of_lem l) (λ k. omega (arith, ltb-false line_limit (length l) h, word_short l k))

-- an answer, and a line feed behind it
pub answer-done : (l b o : List ℕ) (n : ℕ) → answer_room ≤ length b → Appends 0 (answer_of l) b n o → placed n o ≡ placed_at 0 (answer_of l) b
answer-done l b o n h e = at-start (answer_of l) b o n e (omega (arith, answer-fits l))

pub answer_long : (l b o : List ℕ) (n : ℕ) → line_limit < length l → Appends 0 unreadable b n o → Appends 0 (answer_of l) b n o
unfolding answer_of pick
answer_long l b o n h e = rw (lt-ltb line_limit (length l) h) e

pub answer_words : (l b o : List ℕ) (n : ℕ) → length l ≤ line_limit → Appends 0 (on_words (words_of_lem l)) b n o → Appends 0 (answer_of l) b n o
unfolding answer_of pick
answer_words l b o n h e = rw (le-ltb line_limit (length l) h) e

-- a buffer with a text put over it is as long as the longer of both
long_over : (t b : List ℕ) → length (over 0 t b) ≡ length t + (length b - length t)
unfolding over
long_over t b = simp (length-append, length-drop) (omega arith)

module _ (t : Line) (l b : List ℕ) where
  pub reply_text : (n r r' : ℕ) (p o o' : List ℕ) → t ≡ Text n → placed r' o' ≡ put_at r (feed ∷ []) o → placed r o ≡ placed_at 0 (answer_of p) b → length o ≡ answer_room → p ≡ take n l
      → placed r' o' ≡ placed_at 0 (line_reply t l) b
  unfolding line_reply
  reply_text n r r' p o o' h f e room q =
      let size : length o ≡ length (over 0 (answer_of p) b) = ap (λ (x : Placed). length x.buffer) e in
      rw (h, ← q) ((appended (feed ∷ []) o o' r r' f).behind (answer_of p) b e (omega (arith, size, long_over (answer_of p) b, answer-fits p)))

  pub reply_long : (r r' : ℕ) (o o' : List ℕ) → t ≡ OverLong → length b ≡ answer_room → Appends 0 unreadable b r o → placed r' o' ≡ put_at r (feed ∷ []) o → placed r' o' ≡ placed_at 0 (line_reply t l) b
  unfolding line_reply
  reply_long r r' o o' h room e f = rw h (at-start (unreadable ++ (feed ∷ [])) b o' r' (then_put unreadable (feed ∷ []) b o o' 0 r r' e f) (omega arith))

  pub reply-end : t ≡ End → placed 0 b ≡ placed_at 0 (line_reply t l) b
  unfolding line_reply over
  reply-end h = rw h

-- the buffer keeps its length
pub reply_room : (t : Line) (l b o : List ℕ) (r : ℕ) → placed r o ≡ placed_at 0 (line_reply t l) b → length b ≡ answer_room → length o ≡ answer_room
unfolding line_reply
reply_room t l b o r e room =
    let size : length o ≡ length (over 0 (line_reply t l) b) = ap (λ (x : Placed). length x.buffer) e in
    omega (arith, size, long_over (line_reply t l) b, short t)
  where
    short : (t : Line) → length (line_reply t l) ≤ 262193
    short (Text n) = omega (arith, length-append (answer_of (take n l)) (feed ∷ []), answer-fits (take n l))
    short OverLong = omega arith
    short End = omega arith
