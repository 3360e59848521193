-- Laws of packets put together in a buffer.
use Rattle.std.specs.Prelude.{◌≡◌, refl, Bool, eqb, leb, take, get_or}
use Rattle.std.proofs.Common.{sym, ◌∙◌, arith, Fits, drop-drop, take_at}
use Rattle.std.proofs.Math.Path.{ap, ap₂}
use Rattle.std.proofs.Math.Bool.{true}
use mathlib.Core.List.{List, [], ◌∷◌, ◌++◌, append_assoc}
use Prim.Native.Nat.{ℕ, suc, ◌+◌, ◌*◌, ◌/◌, ◌%◌, ◌≤◌, ◌<◌}
use borrow.Author.Tests.{lt-ltb, le-ltb, leb-true, eqb-true, eq-eqb}
use Rattle.std.specs.Int.{w16, w64, to_le_bytes}
use Rattle.std.proofs.Math.ListN.{length, drop, length-append}
use Rattle.std.proofs.Math.Seq.{drop-append-add}
use Rattle.errors.specs.Choice.{pick}
use Rattle.errors.specs.Refusals.{refused, answered, plain}
use Rattle.framing.specs.Build.{left, put_frame}
use Rattle.framing.specs.Valid.{both_left, both_right}
use Rattle.felica.specs.Names.{idm_size, block_size, most_blocks, element_size, request_head, flags_end, one_service}
use Rattle.felica.specs.Packets.{packet, block_list, request, reply_packet, idm_fits, request_fits, write_fits_of, are_blocks_of, read_reply_fits}
use Rattle.felica.specs.Lists.{eight, list_length}

-- a part put behind the bytes l that stand at the start of b, which is c otherwise
pub put-behind : (b l part c : List ℕ) (n : ℕ) → n ≡ length l → b ≡ l ++ drop n c → take n b ++ (part ++ drop (n + length part) b) ≡ (l ++ part) ++ drop (n + length part) c
put-behind b l part c n k e =
    let front : take n b ≡ l = ap (take n) e ∙ take_at l (drop n c) n (sym k) in
    let back : drop (n + length part) b ≡ drop (n + length part) c =
    ap (drop (n + length part)) e ∙ ap (λ j. drop (j + length part) (l ++ drop n c)) k ∙ drop-append-add l (drop n c) (length part)
    ∙ drop-drop (length part) n c in
    ap₂ (λ x y. x ++ (part ++ y)) front back ∙ sym (append_assoc l part (drop (n + length part) c))

-- a packet that fits the buffer, or does not
module _ (p b : List ℕ) (n : ℕ) (k : n ≡ length p) where
  pub no_room : length b < n → left (refused (plain 2)) b ≡ put_frame p b
  unfolding put_frame pick
  no_room h = rw (lt-ltb (length b) (length p) (omega arith))

  pub has_room : n ≤ length b → (b₁ : List ℕ) → b₁ ≡ p ++ drop n b → left (answered n) b₁ ≡ put_frame p b
  unfolding put_frame pick
  has_room h b₁ e = rw (le-ltb (length b) (length p) (omega arith)) (ap₂ left (ap answered k) (e ∙ ap (λ j. p ++ drop j b) k))

-- ---- requests

module _ (code service : ℕ) (idm blocks bytes : List ℕ) (h : length idm ≡ idm_size) where
  pub request-length : length (request code idm service blocks bytes) ≡ request_head + element_size * length blocks + length bytes
  unfolding request packet
  request-length =
      let rest : List ℕ = one_service ∷ service % 256 ∷ service / 256 ∷ length blocks ∷ block_list blocks ++ bytes in
      omega (arith, length-append idm rest, length-append (block_list blocks) bytes, list_length blocks)

  -- head, block list and what follows
  request-laid : (len : ℕ) → len ≡ request_head + element_size * length blocks + length bytes
      → (len ∷ code ∷ get_or idm 0 0 ∷ get_or idm 1 0 ∷ get_or idm 2 0 ∷ get_or idm 3 0 ∷ get_or idm 4 0 ∷ get_or idm 5 0 ∷ get_or idm 6 0 ∷ get_or idm 7 0
      ∷ one_service ∷ service % 256 ∷ service / 256 ∷ length blocks ∷ []) ++ block_list blocks ++ bytes
      ≡ request code idm service blocks bytes
  unfolding request packet
  request-laid len k =
      let rest : List ℕ = one_service ∷ service % 256 ∷ service / 256 ∷ length blocks ∷ block_list blocks ++ bytes in
      let n : len ≡ suc (suc (length (idm ++ rest))) = omega (arith, length-append idm rest, length-append (block_list blocks) bytes, list_length blocks) in
      ap₂ (λ m l. m ∷ code ∷ l ++ rest) n (eight idm h)

  pub request_no_room : (b : List ℕ) → length b < request_head + element_size * length blocks + length bytes
      → left (refused (plain 2)) b ≡ put_frame (request code idm service blocks bytes) b
  request_no_room b k = no_room (request code idm service blocks bytes) b (request_head + element_size * length blocks + length bytes) (sym request-length) k

  -- the three parts put one behind the other
  pub request-put : (pair : List ℕ) → pair ≡ to_le_bytes w16 service → service < 65536 → (b b₁ b₂ b₃ : List ℕ) → request_head + element_size * length blocks + length bytes ≤ length b
      → b₁ ≡ take 0 b ++ (((request_head + element_size * length blocks + length bytes) ∷ code ∷ get_or idm 0 0 ∷ get_or idm 1 0 ∷ get_or idm 2 0 ∷ get_or idm 3 0 ∷ get_or idm 4 0 ∷ get_or idm 5 0
      ∷ get_or idm 6 0 ∷ get_or idm 7 0 ∷ one_service ∷ get_or pair 0 0 ∷ get_or pair 1 0 ∷ length blocks ∷ []) ++ drop request_head b)
      → b₂ ≡ take request_head b₁ ++ (block_list blocks ++ drop (request_head + element_size * length blocks) b₁)
      → b₃ ≡ take (request_head + element_size * length blocks) b₂ ++ (bytes ++ drop (request_head + element_size * length blocks + length bytes) b₂)
      → left (answered (request_head + element_size * length blocks + length bytes)) b₃ ≡ put_frame (request code idm service blocks bytes) b
  request-put pair e f b b₁ b₂ b₃ room e₀ e₂ e₃ =
      let len : ℕ = request_head + element_size * length blocks + length bytes in
      let head : List ℕ =
      len ∷ code ∷ get_or idm 0 0 ∷ get_or idm 1 0 ∷ get_or idm 2 0 ∷ get_or idm 3 0 ∷ get_or idm 4 0 ∷ get_or idm 5 0 ∷ get_or idm 6 0 ∷ get_or idm 7 0
      ∷ one_service ∷ service % 256 ∷ service / 256 ∷ length blocks ∷ [] in
      let high : service / 256 % 256 ≡ service / 256 = omega arith in
      let e₁ : b₁ ≡ take 0 b ++ (head ++ drop request_head b) = rw (ap (λ l. get_or l 0 0) e, ap (λ l. get_or l 1 0) e ∙ high) at e₀ in
      let n : request_head + length (block_list blocks) ≡ request_head + element_size * length blocks = ap (λ k. request_head + k) (list_length blocks) in
      let two : b₂ ≡ (head ++ block_list blocks) ++ drop (request_head + element_size * length blocks) b =
      e₂ ∙ ap (λ k. take request_head b₁ ++ (block_list blocks ++ drop k b₁)) (sym n) ∙ put-behind b₁ head (block_list blocks) b request_head refl e₁
      ∙ ap (λ k. (head ++ block_list blocks) ++ drop k b) n in
      let at : request_head + element_size * length blocks ≡ length (head ++ block_list blocks) = sym n ∙ sym (length-append head (block_list blocks)) in
      let three : b₃ ≡ ((head ++ block_list blocks) ++ bytes) ++ drop len b = e₃ ∙ put-behind b₂ (head ++ block_list blocks) bytes b (request_head + element_size * length blocks) at two in
      has_room (request code idm service blocks bytes) b len (sym request-length) room b₃
      (three ∙ ap (λ l. l ++ drop len b) (append_assoc head (block_list blocks) bytes ∙ request-laid len refl))

-- ---- replies

module _ (code flag1 flag2 : ℕ) (idm bytes : List ℕ) (h : length idm ≡ idm_size) where
  pub reply-length : length (reply_packet code idm flag1 flag2 bytes) ≡ flags_end + length bytes
  unfolding reply_packet packet
  reply-length = omega (arith, length-append idm (flag1 ∷ flag2 ∷ bytes))

  reply-laid : (len : ℕ) → len ≡ flags_end + length bytes → (len ∷ code ∷ idm ++ (flag1 ∷ flag2 ∷ [])) ++ bytes ≡ reply_packet code idm flag1 flag2 bytes
  unfolding reply_packet packet
  reply-laid len k =
      let n : len ≡ suc (suc (length (idm ++ (flag1 ∷ flag2 ∷ bytes)))) = omega (arith, length-append idm (flag1 ∷ flag2 ∷ bytes)) in
      ap₂ (λ m l. m ∷ code ∷ l) n (append_assoc idm (flag1 ∷ flag2 ∷ []) bytes)

  pub reply_no_room : (b : List ℕ) (n : ℕ) → n ≡ flags_end + length bytes → length b < n → left (refused (plain 2)) b ≡ put_frame (reply_packet code idm flag1 flag2 bytes) b
  reply_no_room b n e k = no_room (reply_packet code idm flag1 flag2 bytes) b n (e ∙ sym reply-length) k

  -- the head, and what follows it put behind it
  reply-put : (b b₁ : List ℕ) (len : ℕ) → len ≡ flags_end + length bytes → len ≤ length b → b₁ ≡ ((len ∷ code ∷ idm ++ (flag1 ∷ flag2 ∷ [])) ++ bytes) ++ drop len b
      → left (answered len) b₁ ≡ put_frame (reply_packet code idm flag1 flag2 bytes) b
  reply-put b b₁ len e room k =
      has_room (reply_packet code idm flag1 flag2 bytes) b len (e ∙ sym reply-length) room b₁ (k ∙ ap (λ l. l ++ drop len b) (reply-laid len e))

head-length : (len code flag1 flag2 : ℕ) (idm : List ℕ) → length idm ≡ idm_size → length (len ∷ code ∷ idm ++ (flag1 ∷ flag2 ∷ [])) ≡ flags_end
head-length len code flag1 flag2 idm h = omega (arith, length-append idm (flag1 ∷ flag2 ∷ []))

-- the head, and the number of blocks and their data behind it, each put behind what stands there
module _ (code flag1 flag2 : ℕ) (idm number bytes : List ℕ) (h : length idm ≡ idm_size) where
  size : flags_end + length number + length bytes ≡ flags_end + length (number ++ bytes)
  size = omega (arith, length-append number bytes)

  pub blocks_no_room : (b : List ℕ) → length b < flags_end + length number + length bytes
      → left (refused (plain 2)) b ≡ put_frame (reply_packet code idm flag1 flag2 (number ++ bytes)) b
  blocks_no_room b k = reply_no_room code flag1 flag2 idm (number ++ bytes) h b (flags_end + length number + length bytes) size k

  pub blocks_put : (head b b₁ b₂ b₃ : List ℕ) → flags_end + length number + length bytes ≤ length b
      → head ≡ (flags_end + length number + length bytes) ∷ code ∷ idm ++ (flag1 ∷ flag2 ∷ []) → b₁ ≡ take 0 b ++ (head ++ drop (0 + length head) b)
      → b₂ ≡ take flags_end b₁ ++ (number ++ drop (flags_end + length number) b₁)
      → b₃ ≡ take (flags_end + length number) b₂ ++ (bytes ++ drop (flags_end + length number + length bytes) b₂)
      → left (answered (flags_end + length number + length bytes)) b₃ ≡ put_frame (reply_packet code idm flag1 flag2 (number ++ bytes)) b
  blocks_put head b b₁ b₂ b₃ room k e₁ e₂ e₃ =
      let len : ℕ = flags_end + length number + length bytes in
      let n : length head ≡ flags_end = ap length k ∙ head-length len code flag1 flag2 idm h in
      let one : b₁ ≡ head ++ drop flags_end b = e₁ ∙ ap (λ j. take 0 b ++ (head ++ drop (0 + j) b)) n in
      let two : b₂ ≡ (head ++ number) ++ drop (flags_end + length number) b = e₂ ∙ put-behind b₁ head number b flags_end (sym n) one in
      let at : flags_end + length number ≡ length (head ++ number) = sym (length-append head number ∙ ap (λ j. j + length number) n) in
      let three : b₃ ≡ ((head ++ number) ++ bytes) ++ drop len b = e₃ ∙ put-behind b₂ (head ++ number) bytes b (flags_end + length number) at two in
      reply-put code flag1 flag2 idm (number ++ bytes) h b b₃ len size room
      (three ∙ ap (λ l. l ++ drop len b) (append_assoc head number bytes ∙ ap (λ l. l ++ (number ++ bytes)) k))

-- ---- what fits

record Named (idm blocks : List ℕ) : Type 0 where
  pub idm_eight : length idm ≡ idm_size
  pub some : 1 ≤ length blocks
  pub few : length blocks ≤ most_blocks

fits : (idm blocks : List ℕ) (r : Bool) → r ≡ request_fits idm blocks → r ≡ true → Named idm blocks
unfolding request_fits
fits idm blocks r known good =
    let h = sym known ∙ good in
    let both-h = both_right (idm_fits idm) _ h in
    record {
      idm_eight = eqb-true (length idm) idm_size (both_left (idm_fits idm) _ h);
      some = leb-true 1 (length blocks) (both_left (leb 1 (length blocks)) _ both-h);
      few = leb-true (length blocks) most_blocks (both_right (leb 1 (length blocks)) _ both-h);
    }

write_bytes : (idm blocks bytes : List ℕ) (r : Bool) → r ≡ write_fits_of idm blocks bytes → r ≡ true → (length bytes ≤ block_size * most_blocks) × Named idm blocks
unfolding write_fits_of
write_bytes idm blocks bytes r known good =
    let h = sym known ∙ good in
    let f = fits idm blocks (request_fits idm blocks) refl (both_left (request_fits idm blocks) _ h) in
    let e : length bytes ≡ block_size * length blocks = eqb-true (length bytes) (block_size * length blocks) (both_right (request_fits idm blocks) _ h) in
    (omega (arith, f.few), f)

-- of a read's reply: the IDm; with flag 1 at 0 the data of at most 4 blocks
module _ (idm bytes : List ℕ) (flag1 : ℕ) (r : Bool) (known : r ≡ read_reply_fits idm flag1 bytes) (good : r ≡ true) where
  pub reply_idm : length idm ≡ idm_size
  unfolding read_reply_fits
  reply_idm = eqb-true (length idm) idm_size (both_left (idm_fits idm) _ (sym known ∙ good))

  pub reply_bytes_lem : flag1 ≡ 0 → length bytes ≤ block_size * most_blocks
  unfolding read_reply_fits pick are_blocks_of
  reply_bytes_lem z =
      let h : pick (eqb flag1 0) (are_blocks_of (length bytes)) (eqb (length bytes) 0) ≡ true = both_right (idm_fits idm) _ (sym known ∙ good) in
      let k : are_blocks_of (length bytes) ≡ true = rw (eq-eqb flag1 0 z) at h in
      leb-true (length bytes) (block_size * most_blocks) (both_right (leb block_size (length bytes)) _ (both_right (eqb (length bytes % block_size) 0) _ k))

module _ (idm blocks : List ℕ) (r : Bool) (known : r ≡ request_fits idm blocks) (good : r ≡ true) where
  pub fits_idm : length idm ≡ idm_size
  fits_idm = (fits idm blocks r known good).idm_eight

  pub fits_few : length blocks ≤ most_blocks
  fits_few = (fits idm blocks r known good).few

  pub fits_some : 1 ≤ length blocks
  fits_some = (fits idm blocks r known good).some

  pub fits_product : Fits w64 (block_size * length blocks)
  fits_product = record { fits = omega (arith, fits_few) }

module _ (idm blocks bytes : List ℕ) (r : Bool) (known : r ≡ write_fits_of idm blocks bytes) (good : r ≡ true) where
  pub write_idm : length idm ≡ idm_size
  write_idm = (write_bytes idm blocks bytes r known good).1.idm_eight

  pub write_few : length blocks ≤ most_blocks
  write_few = (write_bytes idm blocks bytes r known good).1.few

  pub write_few_bytes : length bytes ≤ block_size * most_blocks
  write_few_bytes = (write_bytes idm blocks bytes r known good).0

module _ (idm blocks bytes : List ℕ) (h : write_fits_of idm blocks bytes ≡ true) where
  pub write_named : request_fits idm blocks ≡ true
  unfolding write_fits_of
  write_named = both_left (request_fits idm blocks) _ h

  pub write_sixteen : length bytes ≡ block_size * length blocks
  unfolding write_fits_of
  write_sixteen = eqb-true (length bytes) (block_size * length blocks) (both_right (request_fits idm blocks) _ h)
