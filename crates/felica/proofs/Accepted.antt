-- The reader's check passes exactly the standard's replies, with flag 1 at 0, to the request, which are taken apart to their fields; and gives 20 with the flags of one that is refused.
use Rattle.std.specs.Prelude.{◌≡◌, Bool, leb, drop, Ok, Err}
use Rattle.std.proofs.Math.Path.{refl, sym, ap₂}
use Rattle.std.proofs.Common.{ap, ◌∙◌, arith, drop_of_length-le}
use Rattle.std.proofs.Math.Bool.{true, false}
use mathlib.Core.List.{List, [], ◌∷◌}
use Prim.Native.Nat.{ℕ, ◌+◌, ◌*◌, ◌/◌, ◌%◌, ◌≤◌}
use borrow.Author.Tests.{eq-eqb, ne_eqb, le-leb, leb-true, eqb-true}
use Rattle.std.proofs.Math.Dec.{eqb}
use Rattle.std.proofs.Math.ListN.{length, get_or}
use Rattle.errors.specs.Choice.{pick, same_self, same_is}
use Rattle.errors.specs.declared.Fault.TheVariants.{ShortResponse, OtherCard, CardStatus}
use Rattle.framing.specs.Valid.{both_left, both_right}
use Rattle.felica.specs.Names.{idm_size, block_size, most_blocks, code_offset, flags_end, blocks_offset}
use Rattle.felica.specs.Packets.{reply_packet, read_reply_of, write_reply_of, read_reply_code, write_reply_code, are_blocks_of, read_reply_fits}
use Rattle.felica.specs.Fields.{idm_in, flag1_in, flag2_in, block_number_in, blocks_in, has_blocks_of, reply_fields_of, read_replied, write_replied}
use Rattle.felica.specs.Checks.{is_complete, is_from_of, by_flags_of, check_of, read_check, write_check}
use Rattle.felica.specs.Replies.{parts, laid, idm_eight, has_blocks, number_and_blocks, WriteReplied, read_reply_back, write_reply_back}
use Rattle.felica.specs.Accepted.{AllRead}

-- what a good reply passed
record Passed (code : ℕ) (idm : List ℕ) (whole : Bool) (p : List ℕ) : Type 0 where
  complete : is_complete whole p ≡ true
  from : is_from_of code idm p ≡ true
  first : flag1_in p ≡ 0

passed : (code : ℕ) (idm : List ℕ) (whole : Bool) (p : List ℕ) → check_of code idm whole p ≡ Ok tt → Passed code idm whole p
unfolding check_of by_flags_of pick
passed code idm whole p h = go (is_complete whole p) (is_from_of code idm p) (eqb (flag1_in p) 0) refl refl refl h
  where
    go : (t u v : Bool) → is_complete whole p ≡ t → is_from_of code idm p ≡ u → eqb (flag1_in p) 0 ≡ v
        → pick t (pick u (pick v (Ok (tt {0})) (Err (CardStatus (flag1_in p) (flag2_in p)))) (Err OtherCard)) (Err ShortResponse) ≡ Ok (tt {0}) → Passed code idm whole p
    go true true true a b c k = record { complete = a; from = b; first = eqb-true (flag1_in p) 0 c }
    go true true false a b c k = absurd (let z : ◌≡◌ {A = ℕ} 0 1 = cc in omega arith)
    go true false v a b c k = absurd (let z : ◌≡◌ {A = ℕ} 0 1 = cc in omega arith)
    go false u v a b c k = absurd (let z : ◌≡◌ {A = ℕ} 0 1 = cc in omega arith)

module _ (code : ℕ) (idm : List ℕ) (whole : Bool) (p : List ℕ) (good : Passed code idm whole p) where
  room : flags_end ≤ length p
  unfolding is_complete
  room = leb-true flags_end (length p) (both_left (leb flags_end (length p)) _ good.complete)

  all : whole ≡ true
  unfolding is_complete pick
  all =
      let k : pick (eqb (flag1_in p) 0) whole true ≡ true = both_right (eqb (get_or p 0 0) (length p)) _ (both_right (leb flags_end (length p)) _ good.complete) in
      rw (eq-eqb (flag1_in p) 0 good.first) at k

  idm-is : idm_in p ≡ idm
  unfolding is_from_of
  idm-is = sym (same_is idm (idm_in p) (both_right (eqb (get_or p code_offset 0) code) _ good.from))

  idm-long : length idm ≡ idm_size
  idm-long = ap length (sym idm-is) ∙ idm_eight p room

  is : p ≡ reply_packet code idm 0 (flag2_in p) (drop flags_end p)
  unfolding is_complete is_from_of
  is =
      let n : get_or p 0 0 ≡ length p =
      eqb-true (get_or p 0 0) (length p) (both_left (eqb (get_or p 0 0) (length p)) _ (both_right (leb flags_end (length p)) _ good.complete)) in
      let c : get_or p code_offset 0 ≡ code = eqb-true (get_or p code_offset 0) code (both_left (eqb (get_or p code_offset 0) code) _ good.from) in
      laid code p room n c ∙ ap₂ (λ x y. reply_packet code x y (flag2_in p) (drop flags_end p)) idm-is good.first

-- 1 to 4 blocks of data
blocks_fit : (idm bytes : List ℕ) (n : ℕ) → length idm ≡ idm_size → length bytes ≡ block_size * n → 1 ≤ n → n ≤ most_blocks → read_reply_fits idm 0 bytes ≡ true
unfolding read_reply_fits are_blocks_of pick
blocks_fit idm bytes n h e some few =
    rw (eq-eqb (length idm) idm_size h, eq-eqb (length bytes % block_size) 0 (omega arith), le-leb block_size (length bytes) (omega arith))
    (le-leb (length bytes) (block_size * most_blocks) (omega arith))

pub good_read : (idm : List ℕ) (n : ℕ) (p : List ℕ) → read_check idm n p ≡ Ok tt → AllRead idm n p
unfolding pick has_blocks_of
good_read idm n p h =
    let k = passed read_reply_code idm (has_blocks_of n p) p h in
    let w = all read_reply_code idm (has_blocks_of n p) p k in
    let b = number_and_blocks p n w in
    record {
      is = is read_reply_code idm (has_blocks_of n p) p k ∙ ap (reply_packet read_reply_code idm 0 (flag2_in p)) b.1;
      size = b.0;
      long = eqb-true (length p) (blocks_offset + block_size * n) (both_right (eqb (block_number_in p) n) _ w);
      fits = blocks_fit idm (blocks_in p) n (idm-long read_reply_code idm (has_blocks_of n p) p k) b.0;
    }

-- of 1 to 4 blocks it is taken apart to its fields
pub good_read_fields : (idm : List ℕ) (n : ℕ) (p : List ℕ) → 1 ≤ n → n ≤ most_blocks → read_check idm n p ≡ Ok tt → reply_fields_of p ≡ read_replied idm 0 (flag2_in p) (blocks_in p)
good_read_fields idm n p some few h =
    let a = good_read idm n p h in
    ap reply_fields_of a.is ∙ read_reply_back idm (blocks_in p) 0 (flag2_in p) (a.fits some few)

-- a good reply to a write is the standard's, and taken apart to its fields
pub good_write : (idm p : List ℕ) → write_check idm p ≡ Ok tt → WriteReplied p idm 0 (flag2_in p)
good_write idm p h =
    let k = passed write_reply_code idm (eqb (length p) flags_end) p h in
    let n : length p ≡ flags_end = eqb-true (length p) flags_end (all write_reply_code idm (eqb (length p) flags_end) p k) in
    record {
      is = is write_reply_code idm (eqb (length p) flags_end) p k ∙ ap (reply_packet write_reply_code idm 0 (flag2_in p)) (drop_of_length-le p {i = flags_end} (omega arith));
      fits = eq-eqb (length idm) idm_size (idm-long write_reply_code idm (eqb (length p) flags_end) p k);
    }

pub good_write_fields : (idm p : List ℕ) → write_check idm p ≡ Ok tt → reply_fields_of p ≡ write_replied idm 0 (flag2_in p)
good_write_fields idm p h =
    let a = good_write idm p h in
    ap reply_fields_of a.is ∙ write_reply_back idm 0 (flag2_in p) a.fits

-- the check of a reply, by its flags
module _ (code flag1 flag2 : ℕ) (idm bytes : List ℕ) (h : length idm ≡ idm_size) (whole : Bool) where
  by_flags : (flag1 ≡ 0 → whole ≡ true) → check_of code idm whole (reply_packet code idm flag1 flag2 bytes) ≡ by_flags_of flag1 flag2
  unfolding check_of is_complete is_from_of pick
  by_flags w =
      let p : List ℕ = reply_packet code idm flag1 flag2 bytes in
      let q = parts code flag1 flag2 idm bytes h in
      rw (le-leb flags_end (length p) (omega (arith, q.size)), eq-eqb (get_or p 0 0) (length p) q.len, q.first, q.second, q.code_is, eq-eqb code code refl, q.idm_is, same_self idm)
      (go (eqb flag1 0) refl)
    where
      go : (t : Bool) → eqb flag1 0 ≡ t → pick (pick t whole true) (by_flags_of flag1 flag2) (Err ShortResponse) ≡ by_flags_of flag1 flag2
      go true e = rw (w (eqb-true flag1 0 e))
      go false e = refl

-- the standard's replies: good, or 20 with both flags
pub read_good : (idm bytes : List ℕ) (n flag2 : ℕ) → length idm ≡ idm_size → length bytes ≡ block_size * n → read_check idm n (read_reply_of idm 0 flag2 bytes) ≡ Ok tt
unfolding by_flags_of pick
read_good idm bytes n flag2 h e =
    by_flags read_reply_code 0 flag2 idm (length bytes / block_size ∷ bytes) h (has_blocks_of n (read_reply_of idm 0 flag2 bytes)) (λ _. has_blocks read_reply_code 0 flag2 n idm bytes h e)

pub write_good : (idm : List ℕ) (flag2 : ℕ) → length idm ≡ idm_size → write_check idm (write_reply_of idm 0 flag2) ≡ Ok tt
unfolding by_flags_of pick
write_good idm flag2 h =
    by_flags write_reply_code 0 flag2 idm [] h (eqb (length (write_reply_of idm 0 flag2)) flags_end) (λ _. eq-eqb (length (write_reply_of idm 0 flag2)) flags_end (parts write_reply_code 0 flag2 idm [] h).size)

module _ (idm : List ℕ) (flag1 flag2 : ℕ) (h : length idm ≡ idm_size) (ne : flag1 ≡ 0 → ⊥) where
  pub read_refused : (n : ℕ) → read_check idm n (read_reply_of idm flag1 flag2 []) ≡ Err (CardStatus flag1 flag2)
  unfolding by_flags_of pick
  read_refused n =
      rw (ne_eqb flag1 0 ne)
      (by_flags read_reply_code flag1 flag2 idm [] h (has_blocks_of n (reply_packet read_reply_code idm flag1 flag2 [])) (λ e. absurd (ne e)) ∙ rw (ne_eqb flag1 0 ne))

  pub write_refused : write_check idm (write_reply_of idm flag1 flag2) ≡ Err (CardStatus flag1 flag2)
  unfolding by_flags_of pick
  write_refused =
      by_flags write_reply_code flag1 flag2 idm [] h (eqb (length (write_reply_of idm flag1 flag2)) flags_end) (λ e. absurd (ne e)) ∙ rw (ne_eqb flag1 0 ne)
