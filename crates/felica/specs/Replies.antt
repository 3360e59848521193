-- The same of replies: `reply_fields_of` gives the fields exactly where the bytes are a reply of them.
use Rattle.std.specs.Prelude.{◌≡◌, Bool, leb, drop, get_or}
use Rattle.std.proofs.Math.Path.{refl, sym, ap}
use Rattle.std.proofs.Common.{ap₂, ◌∙◌, subst, length-take, length-drop, take-append-drop, drop_of_length-le, drop-cons, drop-drop}
use Rattle.std.proofs.Math.Bool.{true, false}
use mathlib.Core.List.{List, [], ◌∷◌, ◌++◌}
use Prim.Native.Nat.{ℕ, suc, ◌+◌, ◌*◌, ◌/◌, ◌%◌, ◌≤◌}
use native.Mathlib.Omega.{arith}
use borrow.Author.Tests.{eq-eqb, le-leb, leb-true, eqb-true}
use Rattle.std.proofs.Math.Dec.{eqb}
use Rattle.std.proofs.Math.ListN.{length}
use Rattle.errors.specs.Choice.{pick}
use Rattle.framing.specs.Lists.{both}
use Rattle.framing.specs.Valid.{both_left, both_right}
use Rattle.felica.specs.Names.{idm_size, block_size, most_blocks, code_offset, idm_offset, flag1_offset, flag2_offset, flags_end, blocks_offset}
use Rattle.felica.specs.Packets.{packet, reply_packet, read_reply_of, write_reply_of, read_reply_code, write_reply_code, idm_fits, are_blocks_of, read_reply_fits}
use Rattle.felica.specs.Fields.{idm_in, flag1_in, flag2_in, block_number_in, blocks_in, is_reply_of, has_blocks_of, reads_blocks_of, is_read_reply_of, is_write_reply_of, read_replied, write_replied, no_reply, reply_fields_of}
use Rattle.felica.specs.Lists.{eight}
use Rattle.felica.specs.Laid.{reply_idm}

-- ---- the fields of a reply

pub record ReplyParts (p : List ℕ) (code : ℕ) (idm : List ℕ) (flag1 flag2 : ℕ) (bytes : List ℕ) : Type 0 where
  pub len : get_or p 0 0 ≡ length p
  pub code_is : get_or p code_offset 0 ≡ code
  pub idm_is : idm_in p ≡ idm
  pub first : flag1_in p ≡ flag1
  pub second : flag2_in p ≡ flag2
  pub number : block_number_in p ≡ get_or bytes 0 0
  pub rest : blocks_in p ≡ drop 1 bytes
  pub size : length p ≡ flags_end + length bytes

eight_parts : (code flag1 flag2 a b c d e f g h : ℕ) (bytes : List ℕ)
    → ReplyParts (reply_packet code (a ∷ b ∷ c ∷ d ∷ e ∷ f ∷ g ∷ h ∷ []) flag1 flag2 bytes) code (a ∷ b ∷ c ∷ d ∷ e ∷ f ∷ g ∷ h ∷ []) flag1 flag2 bytes
unfolding reply_packet packet
eight_parts code flag1 flag2 a b c d e f g h bytes =
    record { len = refl; code_is = refl; idm_is = refl; first = refl; second = refl; number = refl; rest = refl; size = omega arith }

pub parts : (code flag1 flag2 : ℕ) (idm bytes : List ℕ) → length idm ≡ idm_size → ReplyParts (reply_packet code idm flag1 flag2 bytes) code idm flag1 flag2 bytes
parts code flag1 flag2 idm bytes h =
    subst (λ l. ReplyParts (reply_packet code l flag1 flag2 bytes) code l flag1 flag2 bytes) (eight idm h)
    (eight_parts code flag1 flag2 (get_or idm 0 0) (get_or idm 1 0) (get_or idm 2 0) (get_or idm 3 0) (get_or idm 4 0) (get_or idm 5 0) (get_or idm 6 0) (get_or idm 7 0) bytes)

-- ---- build, then take apart

module _ (code flag1 flag2 : ℕ) (idm bytes : List ℕ) (h : length idm ≡ idm_size) where
  is-reply : is_reply_of code (reply_packet code idm flag1 flag2 bytes) ≡ true
  unfolding is_reply_of
  is-reply =
      let p : List ℕ = reply_packet code idm flag1 flag2 bytes in
      let q = parts code flag1 flag2 idm bytes h in
      rw (le-leb flags_end (length p) (omega (arith, q.size)), eq-eqb (get_or p 0 0) (length p) q.len, eq-eqb (get_or p code_offset 0) code q.code_is)

  other-reply : (other : ℕ) → eqb code other ≡ false → is_reply_of other (reply_packet code idm flag1 flag2 bytes) ≡ false
  unfolding is_reply_of
  other-reply other ne =
      let p : List ℕ = reply_packet code idm flag1 flag2 bytes in
      let q = parts code flag1 flag2 idm bytes h in
      rw (le-leb flags_end (length p) (omega (arith, q.size)), eq-eqb (get_or p 0 0) (length p) q.len, q.code_is, ne)

-- n blocks, with their number
pub has_blocks : (code flag1 flag2 n : ℕ) (idm bytes : List ℕ) → length idm ≡ idm_size → length bytes ≡ block_size * n → has_blocks_of n (reply_packet code idm flag1 flag2 (length bytes / block_size ∷ bytes)) ≡ true
unfolding has_blocks_of
has_blocks code flag1 flag2 n idm bytes h e =
    let p : List ℕ = reply_packet code idm flag1 flag2 (length bytes / block_size ∷ bytes) in
    let q = parts code flag1 flag2 idm (length bytes / block_size ∷ bytes) h in
    rw (eq-eqb (block_number_in p) n (q.number ∙ omega (arith, e)), eq-eqb (length p) (blocks_offset + block_size * n) (omega (arith, q.size, e)))

module _ (idm bytes : List ℕ) (flag1 flag2 : ℕ) (good : read_reply_fits idm flag1 bytes ≡ true) where
  h : length idm ≡ idm_size
  h = reply_idm idm bytes flag1 true (sym good) refl

  by_flag : pick (eqb flag1 0) (are_blocks_of (length bytes)) (eqb (length bytes) 0) ≡ true
  unfolding read_reply_fits
  by_flag = both_right (idm_fits idm) _ good

  blocks-back : are_blocks_of (length bytes) ≡ true → (t : Bool) → eqb flag1 0 ≡ t → t ≡ true
      → reply_fields_of (reply_packet read_reply_code idm flag1 flag2 (length bytes / block_size ∷ bytes)) ≡ read_replied idm flag1 flag2 bytes
  unfolding reply_fields_of is_read_reply_of reads_blocks_of are_blocks_of pick
  blocks-back k t e f =
      let whole : length bytes % block_size ≡ 0 = eqb-true (length bytes % block_size) 0 (both_left (eqb (length bytes % block_size) 0) _ k) in
      let least : block_size ≤ length bytes = leb-true block_size (length bytes) (both_left (leb block_size (length bytes)) _ (both_right (eqb (length bytes % block_size) 0) _ k)) in
      let most : length bytes ≤ block_size * most_blocks = leb-true (length bytes) (block_size * most_blocks) (both_right (leb block_size (length bytes)) _ (both_right (eqb (length bytes % block_size) 0) _ k)) in
      let n : length bytes ≡ block_size * (length bytes / block_size) = omega arith in
      let p : List ℕ = reply_packet read_reply_code idm flag1 flag2 (length bytes / block_size ∷ bytes) in
      let q = parts read_reply_code flag1 flag2 idm (length bytes / block_size ∷ bytes) h in
      rw (is-reply read_reply_code flag1 flag2 idm (length bytes / block_size ∷ bytes) h, q.first, e ∙ f, q.number, le-leb 1 (length bytes / block_size) (omega arith), le-leb (length bytes / block_size) most_blocks (omega arith), has_blocks read_reply_code flag1 flag2 (length bytes / block_size) idm bytes h n)
      (ap₂ (λ i l. read_replied i flag1 (flag2_in p) l) q.idm_is q.rest ∙ ap (λ j. read_replied idm flag1 j bytes) q.second)

  flags-back : eqb flag1 0 ≡ false → length bytes ≡ 0 → reply_fields_of (reply_packet read_reply_code idm flag1 flag2 []) ≡ read_replied idm flag1 flag2 bytes
  unfolding reply_fields_of is_read_reply_of reads_blocks_of pick
  flags-back e k =
      let p : List ℕ = reply_packet read_reply_code idm flag1 flag2 [] in
      let q = parts read_reply_code flag1 flag2 idm [] h in
      rw (is-reply read_reply_code flag1 flag2 idm [] h, q.first, e, eq-eqb (length p) flags_end q.size)
      (ap₂ (λ i l. read_replied i flag1 (flag2_in p) l) q.idm_is (q.rest ∙ sym (drop_of_length-le bytes {i = 0} (omega (arith, k)))) ∙ ap (λ j. read_replied idm flag1 j bytes) q.second)

  pub read_reply_back : reply_fields_of (read_reply_of idm flag1 flag2 bytes) ≡ read_replied idm flag1 flag2 bytes
  unfolding pick
  read_reply_back = go (eqb flag1 0) refl by_flag
    where
      go : (t : Bool) → eqb flag1 0 ≡ t → pick t (are_blocks_of (length bytes)) (eqb (length bytes) 0) ≡ true
          → reply_fields_of (reply_packet read_reply_code idm flag1 flag2 (pick t (length bytes / block_size ∷ bytes) [])) ≡ read_replied idm flag1 flag2 bytes
      go true e k = blocks-back k true e refl
      go false e k = flags-back e (eqb-true (length bytes) 0 k)

pub write_reply_back : (idm : List ℕ) (flag1 flag2 : ℕ) → idm_fits idm ≡ true → reply_fields_of (write_reply_of idm flag1 flag2) ≡ write_replied idm flag1 flag2
unfolding reply_fields_of is_read_reply_of is_write_reply_of pick
write_reply_back idm flag1 flag2 good =
    let h : length idm ≡ idm_size = eqb-true (length idm) idm_size good in
    let p : List ℕ = write_reply_of idm flag1 flag2 in
    let q = parts write_reply_code flag1 flag2 idm [] h in
    rw (other-reply write_reply_code flag1 flag2 idm [] h read_reply_code refl, is-reply write_reply_code flag1 flag2 idm [] h, eq-eqb (length p) flags_end q.size)
    (ap₂ (λ i j. write_replied i j (flag2_in p)) q.idm_is q.first ∙ ap (write_replied idm flag1) q.second)

-- ---- what is taken apart is a reply

-- any bytes with their length before them, code and flags
pub laid : (code : ℕ) (p : List ℕ) → flags_end ≤ length p → get_or p 0 0 ≡ length p → get_or p code_offset 0 ≡ code → p ≡ reply_packet code (idm_in p) (flag1_in p) (flag2_in p) (drop flags_end p)
unfolding reply_packet packet
laid code p room len c =
    let from-flags : drop flag1_offset p ≡ flag1_in p ∷ flag2_in p ∷ drop flags_end p =
    drop-cons p flag1_offset 0 (omega arith) ∙ ap (λ r. flag1_in p ∷ r) (drop-cons p flag2_offset 0 (omega arith)) in
    let from-idm : drop idm_offset p ≡ idm_in p ++ drop flag1_offset p = sym (take-append-drop idm_size (drop idm_offset p)) ∙ ap (λ r. idm_in p ++ r) (drop-drop idm_size idm_offset p) in
    let from-code : drop code_offset p ≡ code ∷ idm_in p ++ (flag1_in p ∷ flag2_in p ∷ drop flags_end p) =
    drop-cons p code_offset 0 (omega arith) ∙ ap₂ (λ x r. x ∷ r) c (from-idm ∙ ap (λ r. idm_in p ++ r) from-flags) in
    let n : get_or p 0 0 ≡ suc (length (drop code_offset p)) = omega (arith, len, length-drop code_offset p) in
    drop-cons p 0 0 (omega arith) ∙ ap (λ x. x ∷ drop code_offset p) n ∙ ap (λ r. suc (length r) ∷ r) from-code

pub idm_eight : (p : List ℕ) → flags_end ≤ length p → length (idm_in p) ≡ idm_size
idm_eight p room = omega (arith, length-take idm_size (drop idm_offset p), length-drop idm_offset p)

module _ (code : ℕ) (p : List ℕ) (good : is_reply_of code p ≡ true) where
  room : flags_end ≤ length p
  unfolding is_reply_of
  room = leb-true flags_end (length p) (both_left (leb flags_end (length p)) _ good)

  is : p ≡ reply_packet code (idm_in p) (flag1_in p) (flag2_in p) (drop flags_end p)
  unfolding is_reply_of
  is =
      let k : both (eqb (get_or p 0 0) (length p)) (eqb (get_or p code_offset 0) code) ≡ true = both_right (leb flags_end (length p)) _ good in
      laid code p room (eqb-true (get_or p 0 0) (length p) (both_left (eqb (get_or p 0 0) (length p)) _ k))
      (eqb-true (get_or p code_offset 0) code (both_right (eqb (get_or p 0 0) (length p)) _ k))

-- n blocks behind the flags
pub number_and_blocks : (p : List ℕ) (n : ℕ) → has_blocks_of n p ≡ true → (length (blocks_in p) ≡ block_size * n) × (drop flags_end p ≡ length (blocks_in p) / block_size ∷ blocks_in p)
unfolding has_blocks_of
number_and_blocks p n h =
    let x : block_number_in p ≡ n = eqb-true (block_number_in p) n (both_left (eqb (block_number_in p) n) _ h) in
    let e : length p ≡ blocks_offset + block_size * n = eqb-true (length p) (blocks_offset + block_size * n) (both_right (eqb (block_number_in p) n) _ h) in
    let m : length (blocks_in p) ≡ block_size * n = omega (arith, length-drop blocks_offset p, e) in
    (m, drop-cons p flags_end 0 (omega (arith, e)) ∙ ap (λ j. j ∷ drop blocks_offset p) (x ∙ omega (arith, m)))

pub record ReadReplied (p idm : List ℕ) (flag1 flag2 : ℕ) (bytes : List ℕ) : Type 0 where
  pub is : p ≡ read_reply_of idm flag1 flag2 bytes
  pub fits : read_reply_fits idm flag1 bytes ≡ true

pub record WriteReplied (p idm : List ℕ) (flag1 flag2 : ℕ) : Type 0 where
  pub is : p ≡ write_reply_of idm flag1 flag2
  pub fits : idm_fits idm ≡ true

read_here : (p : List ℕ) → is_read_reply_of p ≡ true → ReadReplied p (idm_in p) (flag1_in p) (flag2_in p) (blocks_in p)
unfolding is_read_reply_of reads_blocks_of read_reply_fits are_blocks_of pick
read_here p h = go (eqb (flag1_in p) 0) refl (both_right (is_reply_of read_reply_code p) _ h)
  where
    good : is_reply_of read_reply_code p ≡ true
    good = both_left (is_reply_of read_reply_code p) _ h

    n : eqb (length (idm_in p)) idm_size ≡ true
    n = eq-eqb (length (idm_in p)) idm_size (idm_eight p (room read_reply_code p good))

    go : (t : Bool) → eqb (flag1_in p) 0 ≡ t
        → pick t (both (leb 1 (block_number_in p)) (both (leb (block_number_in p) most_blocks) (has_blocks_of (block_number_in p) p))) (eqb (length p) flags_end) ≡ true
        → ReadReplied p (idm_in p) (flag1_in p) (flag2_in p) (blocks_in p)
    go true e k =
        let a : 1 ≤ block_number_in p = leb-true 1 (block_number_in p) (both_left (leb 1 (block_number_in p)) _ k) in
        let b : block_number_in p ≤ most_blocks = leb-true (block_number_in p) most_blocks (both_left (leb (block_number_in p) most_blocks) _ (both_right (leb 1 (block_number_in p)) _ k)) in
        let c = number_and_blocks p (block_number_in p) (both_right (leb (block_number_in p) most_blocks) _ (both_right (leb 1 (block_number_in p)) _ k)) in
        let l : length (blocks_in p) ≡ block_size * block_number_in p = c.0 in
        record {
          is = rw e (is read_reply_code p good ∙ ap (reply_packet read_reply_code (idm_in p) (flag1_in p) (flag2_in p)) c.1);
          fits = rw (n, e, eq-eqb (length (blocks_in p) % block_size) 0 (omega arith), le-leb block_size (length (blocks_in p)) (omega arith)) (le-leb (length (blocks_in p)) (block_size * most_blocks) (omega arith));
        }
    go false e k =
        let m : length p ≡ flags_end = eqb-true (length p) flags_end k in
        let none : drop flags_end p ≡ [] = drop_of_length-le p {i = flags_end} (omega arith) in
        let rest : length (blocks_in p) ≡ 0 = omega (arith, length-drop blocks_offset p, m) in
        record {
          is = rw e (is read_reply_code p good ∙ ap (reply_packet read_reply_code (idm_in p) (flag1_in p) (flag2_in p)) none);
          fits = rw (n, e) (eq-eqb (length (blocks_in p)) 0 rest);
        }

write_here : (p : List ℕ) → is_write_reply_of p ≡ true → WriteReplied p (idm_in p) (flag1_in p) (flag2_in p)
unfolding is_write_reply_of
write_here p h =
    let good = both_left (is_reply_of write_reply_code p) _ h in
    let m : length p ≡ flags_end = eqb-true (length p) flags_end (both_right (is_reply_of write_reply_code p) _ h) in
    record {
      is = is write_reply_code p good ∙ ap (reply_packet write_reply_code (idm_in p) (flag1_in p) (flag2_in p)) (drop_of_length-le p {i = flags_end} (omega arith));
      fits = eq-eqb (length (idm_in p)) idm_size (idm_eight p (room write_reply_code p good));
    }

-- exactly where the bytes are a reply of these fields
pub read_reply-only : (p idm : List ℕ) (flag1 flag2 : ℕ) (bytes : List ℕ) → reply_fields_of p ≡ read_replied idm flag1 flag2 bytes → ReadReplied p idm flag1 flag2 bytes
unfolding reply_fields_of pick
read_reply-only p idm flag1 flag2 bytes h = go (is_read_reply_of p) refl (is_write_reply_of p) h
  where
    go : (t : Bool) → is_read_reply_of p ≡ t → (u : Bool)
        → pick t (read_replied (idm_in p) (flag1_in p) (flag2_in p) (blocks_in p)) (pick u (write_replied (idm_in p) (flag1_in p) (flag2_in p)) no_reply) ≡ read_replied idm flag1 flag2 bytes
        → ReadReplied p idm flag1 flag2 bytes
    go true e u k =
        let a : idm_in p ≡ idm = cc in
        let b : flag1_in p ≡ flag1 = cc in
        let c : flag2_in p ≡ flag2 = cc in
        let d : blocks_in p ≡ bytes = cc in
        rw (a, b, c, d) at (read_here p e)
    go false e true k = absurd (let z : ◌≡◌ {A = ℕ} 0 1 = cc in omega arith)
    go false e false k = absurd (let z : ◌≡◌ {A = ℕ} 0 1 = cc in omega arith)

pub write_reply-only : (p idm : List ℕ) (flag1 flag2 : ℕ) → reply_fields_of p ≡ write_replied idm flag1 flag2 → WriteReplied p idm flag1 flag2
unfolding reply_fields_of pick
write_reply-only p idm flag1 flag2 h = go (is_read_reply_of p) (is_write_reply_of p) refl h
  where
    go : (t u : Bool) → is_write_reply_of p ≡ u
        → pick t (read_replied (idm_in p) (flag1_in p) (flag2_in p) (blocks_in p)) (pick u (write_replied (idm_in p) (flag1_in p) (flag2_in p)) no_reply) ≡ write_replied idm flag1 flag2
        → WriteReplied p idm flag1 flag2
    go true u e k = absurd (let z : ◌≡◌ {A = ℕ} 0 1 = cc in omega arith)
    go false true e k =
        let a : idm_in p ≡ idm = cc in
        let b : flag1_in p ≡ flag1 = cc in
        let c : flag2_in p ≡ flag2 = cc in
        rw (a, b, c) at (write_here p e)
    go false false e k = absurd (let z : ◌≡◌ {A = ℕ} 0 1 = cc in omega arith)

-- none: the bytes are no reply
pub none_read_reply : (p idm : List ℕ) (flag1 flag2 : ℕ) (bytes : List ℕ) → reply_fields_of p ≡ no_reply → ReadReplied p idm flag1 flag2 bytes → ⊥
none_read_reply p idm flag1 flag2 bytes h r =
    let k : reply_fields_of p ≡ read_replied idm flag1 flag2 bytes = ap reply_fields_of r.is ∙ read_reply_back idm bytes flag1 flag2 r.fits in
    let z : ◌≡◌ {A = ℕ} 0 1 = cc in
    omega arith

pub none_write_reply : (p idm : List ℕ) (flag1 flag2 : ℕ) → reply_fields_of p ≡ no_reply → WriteReplied p idm flag1 flag2 → ⊥
none_write_reply p idm flag1 flag2 h r =
    let k : reply_fields_of p ≡ write_replied idm flag1 flag2 = ap reply_fields_of r.is ∙ write_reply_back idm flag1 flag2 r.fits in
    let z : ◌≡◌ {A = ℕ} 0 1 = cc in
    omega arith
