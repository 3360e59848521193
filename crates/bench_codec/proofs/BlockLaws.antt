-- Laws of the lines of FeliCa blocks: what each function printed, and that a packet fits.
use mathlib.Core.Path.{◌≡◌, refl, sym, ap, ◌∙◌}
use mathlib.Core.Bool.{Bool, true, false}
use mathlib.Core.List.{List, [], ◌∷◌, ◌++◌, append-nil}
use Prim.Native.Nat.{ℕ, ◌+◌, ◌*◌, ◌/◌, ◌%◌, ◌≤◌}
use native.Mathlib.Omega.{arith}
use borrow.Author.Tests.{eq-eqb, ne_eqb, le-ltb, eqb-true}
use lib.Dec.{eqb}
use lib.ListN.{length, drop, get_or, replicate, length-append}
use Rattle.std.specs.Prelude.{Option, Some, None, Result, Ok, Err}
use Rattle.errors.specs.Choice.{pick}
use Rattle.errors.specs.Refusals.{answered, refused, returned, plain}
use Rattle.errors.specs.declared.Refusal.{Refusal}
use Rattle.framing.specs.Build.{left, put_frame}
use Rattle.felica.specs.Fields.{idm_in, block_data_in, parsed_request, request_of, request_in, numbers_of}
use Rattle.felica.specs.Laid.{request-length, reply-length, fits_idm, fits_few, write_idm, write_few, write_few_bytes, reply_idm, reply_bytes_lem}
use Rattle.felica.specs.Taken.{parsed_fields}
use Rattle.felica.specs.Packets.{reply_packet, read_code, write_code, read_reply_code, write_reply_code, read_reply_fits, built_of}
use Rattle.felica.specs.declared.request.Asked.{Asked}
use Rattle.felica.specs.declared.request.Request.{Request}
use Rattle.felica.specs.declared.request.Request.TheVariants as request
use Rattle.targets.specs.Bitrates.{ascii}
use Rattle.bench.specs.Hex.{is_hex_of, hex_of, pairs_of, read_of}
use Rattle.bench.specs.HexLaws.{hex_short, length_pairs, was_read, read_into, not_read}
use Rattle.bench.specs.TextLaws.{appended, both_appended, both-put}
use Rattle.bench.specs.Texts.{over, placed, put_at, Appends}
use Rattle.bench_codec.specs.Codec.{packet_room, unreadable, word_text, asked_text, fields_text, request_text, block_fits, block_packet, block_text, with_service, block_line, PacketText}
use Rattle.bench_codec.specs.declared.blocks.PacketKind.{PacketKind}
use Rattle.bench_codec.specs.declared.blocks.PacketKind.TheVariants.{ReadRequest, WriteRequest, ReadReply, WriteReply}
use Rattle.bench_codec.proofs.FrameLaws.{whole_text, whole_fits}

-- an array of zeros
abbrev zeros : ℕ → List ℕ
zeros n = replicate n 0

-- ---- a request taken apart

pub word-done : (p b o o₁ : List ℕ) (at r r₁ : ℕ) → placed r o ≡ put_at at (ascii " ") b → placed r₁ o₁ ≡ put_at r (hex_of p) o → Appends at (word_text p) b r₁ o₁
unfolding word_text
word-done p b o o₁ at r r₁ space hex = both-put _ _ _ _ _ _ _ _ space hex

pub word_short : (p : List ℕ) → length (word_text p) ≤ 2 * length p + 2
unfolding word_text
word_short p = rw (length-append (ascii " ") (hex_of p)) (omega (arith, hex_short p))

-- the fields of a request behind a name
pub asked-done : (name idm b o₀ o₁ o₂ o₃ : List ℕ) (a : Asked) (r₀ r₁ r₂ r₃ : ℕ) → placed r₀ o₀ ≡ put_at 0 name b → Appends r₀ (word_text idm) o₀ r₁ o₁
    → Appends r₁ (word_text (a.service / 256 ∷ a.service % 256 ∷ [])) o₁ r₂ o₂ → Appends r₂ (word_text (numbers_of a)) o₂ r₃ o₃ → Appends 0 (asked_text name idm a.service (numbers_of a)) b r₃ o₃
unfolding asked_text
asked-done name idm b o₀ o₁ o₂ o₃ a r₀ r₁ r₂ r₃ word first second third =
    both_appended _ _ _ _ _ _ _ _ (both_appended _ _ _ _ _ _ _ _ (both_appended _ _ _ _ _ _ _ _ (appended name b o₀ 0 r₀ word) first) second) third

module _ (r : Option Request) (p out : List ℕ) (parsed : r ≡ parsed_request p) where
  known : request_in r p ≡ request_of p
  known = ap (λ x. request_in x p) parsed ∙ parsed_fields p

  pub text_read : (i o : List ℕ) (a : Asked) (n : ℕ) → r ≡ Some (request.Read a) → i ≡ idm_in p → Appends 0 (asked_text (ascii "read") i a.service (numbers_of a)) out n o → Appends 0 (request_text p) out n o
  unfolding request_text fields_text
  text_read i o a n q e d = rw (← known, q) (rw e at d)

  pub text_none : (o : List ℕ) (n : ℕ) → r ≡ None → placed n o ≡ put_at 0 (ascii "none") out → Appends 0 (request_text p) out n o
  unfolding request_text fields_text
  text_none o n q d = rw (← known, q) (appended (ascii "none") out o 0 n d)

  pub text_write : (i bytes o o' : List ℕ) (a : Asked) (n n' : ℕ) → r ≡ Some (request.Write a) → i ≡ idm_in p → bytes ≡ block_data_in a.count p
      → Appends 0 (asked_text (ascii "write") i a.service (numbers_of a)) out n o → Appends n (word_text bytes) o n' o' → Appends 0 (request_text p) out n' o'
  unfolding request_text fields_text
  text_write i bytes o o' a n n' q e f before word =
      let d = both_appended _ _ _ _ _ _ _ _ before word in
      rw (← known, q) (rw (e, f) at d)

-- ---- packets that are built

-- a packet has at most 86 bytes
reply_short_lem : (code f g : ℕ) (idm bytes : List ℕ) → length idm ≡ 8 → length bytes ≤ 65 → length (reply_packet code idm f g bytes) ≤ 86
reply_short_lem code f g idm bytes h k = omega (arith, reply-length code f g idm bytes h)

pub packet_short : (kind : PacketKind) (x y : ℕ) (idm blocks bytes : List ℕ) → block_fits kind idm x blocks bytes ≡ true → length (block_packet kind idm x y blocks bytes) ≤ 86
unfolding block_fits block_packet pick
packet_short ReadRequest x y idm blocks bytes f =
    omega (arith, request-length read_code (256 * x + y) idm blocks [] (fits_idm idm blocks true (sym f) refl), fits_few idm blocks true (sym f) refl)
packet_short WriteRequest x y idm blocks bytes f =
    omega (arith, request-length write_code (256 * x + y) idm blocks bytes (write_idm idm blocks bytes true (sym f) refl), write_few idm blocks bytes true (sym f) refl, write_few_bytes idm blocks bytes true (sym f) refl)
packet_short ReadReply x y idm blocks bytes f = by_flag (eqb x 0) refl f
  where
    by_flag : (t : Bool) → eqb x 0 ≡ t → read_reply_fits idm x blocks ≡ true → length (reply_packet read_reply_code idm x y (pick t (length blocks / 16 ∷ blocks) [])) ≤ 86
    by_flag true e f = reply_short_lem read_reply_code x y idm (length blocks / 16 ∷ blocks) (reply_idm idm blocks x true (sym f) refl) (omega (arith, reply_bytes_lem idm blocks x true (sym f) refl (eqb-true x 0 e)))
    by_flag false e f = reply_short_lem read_reply_code x y idm [] (reply_idm idm blocks x true (sym f) refl) (omega arith)
packet_short WriteReply x y idm blocks bytes f = reply_short_lem write_reply_code x y idm [] (eqb-true (length idm) 8 f) (omega arith)

-- what was built in a buffer that has the room
module _ (fits : Bool) (packet b o : List ℕ) (short : fits ≡ true → length packet ≤ 86) (room : packet_room ≤ length b) where
  made : (r : Result ℕ Refusal) (t : Bool) → fits ≡ t → left (returned r) o ≡ pick t (put_frame packet b) (left (refused (plain 4)) b) → PacketText r o (pick t (hex_of packet) unreadable)
  unfolding returned put_frame pick
  made (Ok n) true h e =
      let s = short h in
      let put : left (returned (Ok n)) o ≡ left (answered (length packet)) (packet ++ drop (length packet) b) = e ∙ rw (le-ltb (length b) (length packet) (omega arith)) in
      let count : n ≡ length packet = cc (ap (λ l. l.result) put) in
      let filled : o ≡ packet ++ drop (length packet) b = ap (λ l. l.buffer) put in
      (whole_fits packet b o n count filled (omega arith), ap hex_of (sym (whole_text packet b o n count filled (omega arith))))
  made (Ok n) false h e = let z : ◌≡◌ {A = ℕ} 0 1 = cc (ap (λ l. l.result) e) in absurd (omega arith)
  made (Err x) true h e =
      let s = short h in
      let put : left (returned (Err x)) o ≡ left (answered (length packet)) (packet ++ drop (length packet) b) = e ∙ rw (le-ltb (length b) (length packet) (omega arith)) in
      let z : ◌≡◌ {A = ℕ} 0 1 = cc (ap (λ l. l.result) put) in absurd (omega arith)
  made (Err x) false h e = refl

pub packet_made : (kind : PacketKind) (x y : ℕ) (idm blocks bytes b o : List ℕ) (r : Result ℕ Refusal) → packet_room ≤ length b
    → left (returned r) o ≡ built_of (block_fits kind idm x blocks bytes) (block_packet kind idm x y blocks bytes) b → PacketText r o (block_text kind idm x y blocks bytes)
unfolding built_of block_text
packet_made kind x y idm blocks bytes b o r room e =
    made (block_fits kind idm x blocks bytes) (block_packet kind idm x y blocks bytes) b o (packet_short kind x y idm blocks bytes) room r (block_fits kind idm x blocks bytes) refl e

-- the words of a line
module _ (kind : PacketKind) (i s b d : List ℕ) where
  pub no_idm : is_hex_of i ≡ false → block_line kind i s b d ≡ unreadable
  unfolding pick
  no_idm h = rw h

  module _ (idm : is_hex_of i ≡ true) where
    pub not_four : (length s ≡ 4 → ⊥) → block_line kind i s b d ≡ unreadable
    unfolding with_service pick
    not_four h = rw (idm, ne_eqb (length s) 4 h)

    module _ (four : length s ≡ 4) where
      pub no_pair : is_hex_of s ≡ false → block_line kind i s b d ≡ unreadable
      unfolding with_service pick
      no_pair h = rw (idm, eq-eqb (length s) 4 four, h)

      module _ (pair : is_hex_of s ≡ true) where
        pub no_blocks : is_hex_of b ≡ false → block_line kind i s b d ≡ unreadable
        unfolding with_service pick
        no_blocks h = rw (idm, eq-eqb (length s) 4 four, pair, h)

        module _ (blocks : is_hex_of b ≡ true) where
          pub no_bytes : is_hex_of d ≡ false → block_line kind i s b d ≡ unreadable
          unfolding with_service pick
          no_bytes h = rw (idm, eq-eqb (length s) 4 four, pair, blocks, h)

          pub all_words : is_hex_of d ≡ true → block_line kind i s b d ≡ block_text kind (pairs_of i) (get_or (pairs_of s) 0 0) (get_or (pairs_of s) 1 0) (pairs_of b) (pairs_of d)
          unfolding with_service pick
          all_words h = rw (idm, eq-eqb (length s) 4 four, pair, blocks, h)

-- the pair's two bytes
pub pair_read : (s o : List ℕ) (n : ℕ) → left (returned (Ok n)) o ≡ read_of s (zeros 2) → length s ≡ 4 → (is_hex_of s ≡ true) × (o ≡ pairs_of s)
unfolding over
pair_read s o n known four =
    let two : length (pairs_of s) ≡ 2 = omega (arith, length_pairs s) in
    (was_read s (zeros 2) o (Ok n) (omega arith) known n refl, read_into s (zeros 2) o (Ok n) (omega arith) known n refl ∙ ap (λ k. pairs_of s ++ drop (0 + k) (zeros 2)) two ∙ append-nil (pairs_of s))

pub pair_not_read : (s o : List ℕ) (e : Refusal) → left (returned (Err e)) o ≡ read_of s (zeros 2) → length s ≡ 4 → is_hex_of s ≡ false
pair_not_read s o e known four = not_read s (zeros 2) o (Err e) (omega arith) known e refl
