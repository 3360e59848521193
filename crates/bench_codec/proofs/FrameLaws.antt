-- Laws of the lines of frames, CRCs and bitrates: what each function printed, by what its callees answered.
use mathlib.Core.Path.{◌≡◌, refl, sym, ap, ◌∙◌}
use mathlib.Core.Bool.{Bool, true, false}
use mathlib.Core.List.{List, [], ◌∷◌, ◌++◌}
use Prim.Native.Nat.{ℕ, suc, ◌+◌, ◌≤◌, ◌<◌}
use native.Mathlib.Omega.{arith}
use borrow.Author.Tests.{le-ltb, ltb-false}
use lib.Dec.{ltb, eqb}
use lib.ListN.{length, take, drop, length-append, length-drop}
use lib.Seq.{take_at, length-take-le}
use Rattle.std.specs.Prelude.{Option, Some, Result, Ok, Err}
use Rattle.errors.specs.Choice.{pick}
use Rattle.errors.specs.Refusals.{Returned, answered, refused, returned, plain}
use Rattle.errors.specs.declared.Refusal.{Refusal}
use Rattle.framing.specs.Build.{left, limit_of, put_frame, build_of}
use Rattle.framing.specs.Enclose.{length-head}
use Rattle.framing.specs.Frames.{frame_of, checksum_of, data_start_of, head_of, ending, longest}
use Rattle.framing.specs.Padded.{parse_padded_of}
use Rattle.framing.specs.Parse.{parse_of, payload_of}
use Rattle.framing.specs.declared.FrameFormat.{FrameFormat}
use Rattle.framing.specs.declared.FrameType.{FrameType}
use Rattle.framing.specs.declared.FrameType.TheVariants.{Data}
use Rattle.framing.specs.declared.LengthEncoding.{LengthEncoding}
use Rattle.framing.specs.declared.LengthEncoding.TheVariants.{Normal, ExtendedLittleEndian, NormalOrExtendedBigEndian}
use Rattle.framing.specs.declared.padded.Padded.{Padded}
use Rattle.crc.specs.Answers.{added}
use Rattle.crc.specs.Crc.{CrcKind, crc_bytes}
use Rattle.crc.specs.Laws.{crc_length}
use Rattle.targets.specs.Bitrates.{ascii, send_part_of, send_length, is_bitrate}
use Rattle.bench.specs.Hex.{hex_of}
use Rattle.bench.specs.TextLaws.{appended as put, then_put, both-put}
use Rattle.bench.specs.Texts.{placed, put_at, decimal_of, Appends}
use Rattle.bench_codec.specs.Codec.{bytes_room, frame_room, build_text, data_text, found_text, parse_text, is_frame, with_zeros, padded_text, checksum_text, yes_or_no, append_text, send_text, bitrate_text}

pub same_answer : (r s : Bool) (b o : List ℕ) (n : ℕ) → Appends 0 (yes_or_no r) b n o → r ≡ s → Appends 0 (yes_or_no s) b n o
same_answer r s b o n e h = rw h at e

pub known_yes : (t : Bool) (b o : List ℕ) (n : ℕ) → t ≡ true → placed n o ≡ put_at 0 (ascii "yes") b → Appends 0 (yes_or_no t) b n o
known_yes t b o n h e = rw h (put (ascii "yes") b o 0 n e)

pub known_no : (t : Bool) (b o : List ℕ) (n : ℕ) → t ≡ false → placed n o ≡ put_at 0 (ascii "no") b → Appends 0 (yes_or_no t) b n o
known_no t b o n h e = rw h (put (ascii "no") b o 0 n e)

-- a data frame: its kind and length, a space, its payload q
pub data_done : (q b o o₁ o₂ : List ℕ) (n r r₁ r₂ : ℕ) → Appends 0 (ascii "data " ++ decimal_of n) b r o → placed r₁ o₁ ≡ put_at r (ascii " ") o → placed r₂ o₂ ≡ put_at r₁ (hex_of q) o₁
    → Appends 0 (data_text n q) b r₂ o₂
unfolding data_text
data_done q b o o₁ o₂ n r r₁ r₂ kind space hex = then_put _ _ _ _ _ _ _ _ (then_put _ _ _ _ _ _ _ _ kind space) hex

-- what was found of a packet
pub found-done : (p b o : List ℕ) (n : ℕ) (f k : Option FrameType) → f ≡ k → Appends 0 (found_text k p) b n o → Appends 0 (found_text f p) b n o
found-done p b o n f k q e = rw q e

pub found_data : (p q b o : List ℕ) (s len k n : ℕ) (f : Option FrameType) → f ≡ Some (Data s len k) → q ≡ payload_of (Some (Data s len k)) p → Appends 0 (data_text k q) b n o → Appends 0 (found_text f p) b n o
unfolding found_text
found_data p q b o s len k n f is payload e = rw is (rw payload at e)

pub parse_done : (f : FrameFormat) (p b o : List ℕ) (n : ℕ) (t : Option FrameType) → t ≡ parse_of f p → Appends 0 (found_text t p) b n o → Appends 0 (parse_text f p) b n o
unfolding parse_text
parse_done f p b o n t h e = rw h at e

-- with the padded mode on: what was found, a space and the number of zeros
module _ (f : FrameFormat) (p b o : List ℕ) (n : ℕ) (a : Padded) (is : a ≡ parse_padded_of f true p) (found : Appends 0 (found_text a.found p) b n o) where
  pub padded_none : is_frame a.found ≡ false → Appends 0 (padded_text f p) b n o
  unfolding padded_text with_zeros pick
  padded_none h = rw (sym is, h) found

  pub zeros-done : (o₁ o₂ : List ℕ) (n₁ n₂ : ℕ) → is_frame a.found ≡ true → placed n₁ o₁ ≡ put_at n (ascii " ") o → placed n₂ o₂ ≡ put_at n₁ (decimal_of a.zeros) o₁ → Appends 0 (padded_text f p) b n₂ o₂
  unfolding padded_text with_zeros pick
  zeros-done o₁ o₂ n₁ n₂ h space zeros = rw (sym is, h) (then_put _ _ _ _ _ _ _ _ (then_put _ _ _ _ _ _ _ _ found space) zeros)

pub checksum_done : (s : ℕ) (p b o : List ℕ) (n : ℕ) → s ≡ checksum_of p → placed n o ≡ put_at 0 (hex_of (s ∷ [])) b → Appends 0 (checksum_text p) b n o
unfolding checksum_text
checksum_done s p b o n h e = put (hex_of (checksum_of p ∷ [])) b o 0 n (rw h at e)

-- t, which was put at the start of a buffer b that has the room, and counted
module _ (t b o : List ℕ) (n : ℕ) (counted : n ≡ length t) (is : o ≡ t ++ drop (length t) b) (room : length t ≤ length b) where
  pub whole_text : take n o ≡ t
  whole_text = ap (take n) is ∙ take_at t (drop (length t) b) n (sym counted)

  pub whole_length : length o ≡ length b
  whole_length = ap length is ∙ omega (arith, length-append t (drop (length t) b), length-drop (length t) b)

  pub whole_fits : n ≤ length o
  whole_fits = omega (arith, whole_length)

  pub whole_part : n ≡ length (take n o)
  whole_part = sym (length-take-le n o whole_fits)

-- a CRC behind s, in a buffer that has the room
module _ (k : CrcKind) (s b o : List ℕ) (r : Result ℕ Refusal) (known : ◌≡◌ {A = Returned × List ℕ} (returned r, o) (added k s b)) (short : length s ≤ bytes_room) (room : length b ≡ frame_room) where
  long : length (s ++ crc_bytes k s) ≡ length s + 2
  long = length-append s (crc_bytes k s) ∙ ap (λ j. length s + j) (crc_length k s)

  whole : ◌≡◌ {A = Returned × List ℕ} (returned r, o) (answered (length s + 2), s ++ crc_bytes k s ++ drop (length s + 2) b)
  unfolding added pick
  whole = known ∙ rw (le-ltb (length b) (length s + 2) (omega arith))

  pub append_refused : (e : Refusal) (t out z : List ℕ) (m : ℕ) → r ≡ Err e → Appends 0 t out m z
  unfolding returned
  append_refused e t out z m q =
      let z : ◌≡◌ {A = ℕ} 0 1 = cc (ap (λ p. p.0) whole, ap returned q) in
      absurd (omega arith)

  module _ (n : ℕ) (q : r ≡ Ok n) where
    count : n ≡ length (s ++ crc_bytes k s)
    unfolding returned
    count = cc (ap (λ p. p.0) whole, ap returned q, long)

    filled : o ≡ s ++ crc_bytes k s ++ drop (length (s ++ crc_bytes k s)) b
    filled = ap (λ p. p.1) whole ∙ ap (λ j. s ++ crc_bytes k s ++ drop j b) (sym long)

    pub append_short : (t out z : List ℕ) (m : ℕ) → length o < n → Appends 0 t out m z
    append_short t out z m h = absurd (omega (arith, whole_fits (s ++ crc_bytes k s) b o n count filled (omega (arith, long))))

    pub append-done : (out z : List ℕ) (m : ℕ) → placed m z ≡ put_at 0 (hex_of (take n o)) out → Appends 0 (append_text k s) out m z
    unfolding append_text
    append-done out z m e = put (hex_of (s ++ crc_bytes k s)) out z 0 m (rw (whole_text (s ++ crc_bytes k s) b o n count filled (omega (arith, long))) at e)

-- a frame in a buffer that has the room
pub longest_65535 : (e : LengthEncoding) → longest e ≤ 65535
longest_65535 Normal = omega arith
longest_65535 ExtendedLittleEndian = omega arith
longest_65535 NormalOrExtendedBigEndian = omega arith

start_8 : (e : LengthEncoding) (n : ℕ) → data_start_of e n ≤ 8
unfolding data_start_of pick
start_8 Normal n = omega arith
start_8 ExtendedLittleEndian n = omega arith
start_8 NormalOrExtendedBigEndian n = go (ltb n 256)
  where
    go : (t : Bool) → pick t 5 8 ≤ 8
    go true = omega arith
    go false = omega arith

pub length-frame : (e : LengthEncoding) (p : List ℕ) → length (frame_of e p) ≤ length p + 10
unfolding frame_of
length-frame e p =
    rw (length-append (head_of e (length p) ++ p) (ending p), length-append (head_of e (length p)) p, length-head e (length p))
    (omega (arith, start_8 e (length p)))

module _ (f : FrameFormat) (p b o : List ℕ) (r : Result ℕ Refusal) (known : left (returned r) o ≡ build_of f p b) (room : length b ≡ frame_room) where
  over-limit : ltb (limit_of f) (length p) ≡ true → left (returned r) o ≡ left (refused (plain 3)) b
  unfolding build_of pick
  over-limit h = known ∙ rw h

  frame-short : ltb (limit_of f) (length p) ≡ false → length (frame_of f.length p) ≤ 65545
  unfolding limit_of
  frame-short h = omega (arith, ltb-false (limit_of f) (length p) h, longest_65535 f.length, length-frame f.length p)

  in-limit : ltb (limit_of f) (length p) ≡ false
      → left (returned r) o ≡ left (answered (length (frame_of f.length p))) (frame_of f.length p ++ drop (length (frame_of f.length p)) b)
  unfolding build_of put_frame pick
  in-limit h = known ∙ rw (h, le-ltb (length b) (length (frame_of f.length p)) (omega (arith, frame-short h)))

  pub built_refused : (e : Refusal) (out z : List ℕ) (m : ℕ) → r ≡ Err e → placed m z ≡ put_at 0 (ascii "refused 3") out → Appends 0 (build_text f p) out m z
  unfolding build_text returned pick
  built_refused e out z m q d = go (ltb (limit_of f) (length p)) refl
    where
      go : (t : Bool) → ltb (limit_of f) (length p) ≡ t → Appends 0 (pick t (ascii "refused 3") (hex_of (frame_of f.length p))) out m z
      go true h = put (ascii "refused 3") out z 0 m d
      go false h =
          let z : ◌≡◌ {A = ℕ} 0 1 = cc (ap (λ l. l.result) (in-limit h), ap returned q) in
          absurd (omega arith)

  module _ (n : ℕ) (q : r ≡ Ok n) where
    within : ltb (limit_of f) (length p) ≡ false
    unfolding returned
    within = go (ltb (limit_of f) (length p)) refl
      where
        go : (t : Bool) → ltb (limit_of f) (length p) ≡ t → t ≡ false
        go true h =
            let z : ◌≡◌ {A = ℕ} 0 1 = cc (ap (λ l. l.result) (over-limit h), ap returned q) in
            absurd (omega arith)
        go false h = refl

    frame-count : n ≡ length (frame_of f.length p)
    unfolding returned
    frame-count = cc (ap (λ l. l.result) (in-limit within), ap returned q)

    frame-put : o ≡ frame_of f.length p ++ drop (length (frame_of f.length p)) b
    frame-put = ap (λ l. l.buffer) (in-limit within)

    pub built-fits : n ≤ length o
    built-fits = whole_fits (frame_of f.length p) b o n frame-count frame-put (omega (arith, frame-short within))

    pub built-part : n ≡ length (take n o)
    built-part = whole_part (frame_of f.length p) b o n frame-count frame-put (omega (arith, frame-short within))

    pub built-done : (out z : List ℕ) (m : ℕ) → placed m z ≡ put_at 0 (hex_of (take n o)) out → Appends 0 (build_text f p) out m z
    unfolding build_text pick
    built-done out z m e = rw within (put (hex_of (frame_of f.length p)) out z 0 m (rw (whole_text (frame_of f.length p) b o n frame-count frame-put (omega (arith, frame-short within))) at e))

-- a bitrate's send part is no longer than the text
send_within : (t : List ℕ) → send_length t ≤ length t
unfolding send_length
send_within [] = omega arith
send_within (x ∷ t) = go (send_within t) (eqb x 47)
  where
    go : send_length t ≤ length t → (e : Bool) → mathlib.Core.Bool.cond e 0 (send_length t + 1) ≤ suc (length t)
    go h true = omega arith
    go h false = omega arith

module _ (t b : List ℕ) (r : Result ℕ Refusal) (known : returned r ≡ send_part_of t) where
  pub not_sent : (e : Refusal) (o : List ℕ) (m : ℕ) → r ≡ Err e → placed m o ≡ put_at 0 (ascii "refused 5") b → Appends 0 (bitrate_text t) b m o
  unfolding bitrate_text send_text returned
  not_sent e o m q d = rw (sym known ∙ ap returned q) (put (ascii "refused 5") b o 0 m d)

  module _ (n : ℕ) (q : r ≡ Ok n) where
    sent-fits : n ≤ length t
    unfolding send_part_of returned
    sent-fits = go (is_bitrate t) (sym (ap returned q) ∙ known)
      where
        go : (e : Bool) → ◌≡◌ {A = Returned} (answered n) (mathlib.Core.Bool.cond e (answered (send_length t)) (refused (plain 5))) → n ≤ length t
        go true h = let s : n ≡ send_length t = cc in omega (arith, send_within t)
        go false h = let z : ◌≡◌ {A = ℕ} 0 1 = cc in absurd (omega arith)

    pub sent_part : n ≡ length (take n t)
    sent_part = sym (length-take-le n t sent-fits)

    pub sent_done : (o o₁ : List ℕ) (m m₁ : ℕ) → placed m o ≡ put_at 0 (ascii "ok ") b → placed m₁ o₁ ≡ put_at m (take n t) o → Appends 0 (bitrate_text t) b m₁ o₁
    unfolding bitrate_text send_text returned
    sent_done o o₁ m m₁ ok part = rw (sym known ∙ ap returned q) (both-put _ _ _ _ _ _ _ _ ok part)
