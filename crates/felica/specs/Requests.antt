-- Taking apart undoes building, and takes apart nothing else: `request_of` gives the fields exactly where the bytes are a request of them.
use Rattle.std.specs.Prelude.{◌≡◌, refl, Bool, true, false, eqb, leb}
use Rattle.std.proofs.Math.Path.{sym, ap, ap₂}
use Rattle.std.proofs.Common.{◌∙◌, subst, arith, length-take, take-append-drop, drop_of_length-le, drop-drop, take_at, drop_at}
use mathlib.Core.List.{List, [], ◌∷◌, ◌++◌}
use Prim.Native.Nat.{ℕ, suc, ◌+◌, ◌*◌, ◌/◌, ◌%◌, ◌≤◌}
use borrow.Author.Tests.{eq-eqb, le-leb, leb-true, eqb-true}
use Rattle.std.proofs.Math.ListN.{length, drop, get_or, length-drop}
use Rattle.std.proofs.Math.Seq.{drop-cons}
use Rattle.errors.specs.Choice.{pick}
use Rattle.framing.specs.Lists.{both, Bytes}
use Rattle.framing.specs.Valid.{both_left, both_right}
use Rattle.felica.specs.Names.{idm_size, block_size, most_blocks, element_size, element, code_offset, idm_offset, services_offset, service_low_offset, service_high_offset, count_offset, request_head, one_service}
use Rattle.felica.specs.Packets.{packet, block_list, request, read_request_of, write_request_of, read_code, write_code, request_fits, write_fits_of}
use Rattle.felica.specs.Fields.{idm_in, service_in, count_in, list_in, block_data_in, numbers_in, is_block_list_of, asks_blocks, is_request_of, reads, writes, no_request, request_of}
use Rattle.felica.specs.Lists.{eight, list_length}
use Rattle.felica.specs.Taken.{list_within}
use Rattle.felica.specs.Laid.{request-length, fits_idm, fits_few, fits_some, write_named, write_sixteen}

-- ---- block lists

numbers_back : (l : List ℕ) → numbers_in (block_list l) ≡ l
unfolding block_list numbers_in
numbers_back [] = refl
numbers_back (x ∷ l) = ap (λ r. x ∷ r) (numbers_back l)

is_list : (l : List ℕ) → is_block_list_of (block_list l) ≡ true
unfolding block_list is_block_list_of
is_list [] = refl
is_list (x ∷ l) = is_list l

list_back : (l : List ℕ) → is_block_list_of l ≡ true → block_list (numbers_in l) ≡ l
unfolding block_list numbers_in is_block_list_of
list_back [] h = refl
list_back (x ∷ []) h = absurd (let z : ◌≡◌ {A = Bool} false true = h in let e : ◌≡◌ {A = ℕ} 0 1 = cc in omega arith)
list_back (x ∷ y ∷ l) h =
    ap₂ (λ a r. a ∷ y ∷ r) (sym (eqb-true x element (both_left (eqb x element) _ h))) (list_back l (both_right (eqb x element) _ h))

-- ---- the fields of a request

pub record RequestParts (p : List ℕ) (code : ℕ) (idm : List ℕ) (service : ℕ) (blocks bytes : List ℕ) : Type 0 where
  pub len : get_or p 0 0 ≡ length p
  pub code_is : get_or p code_offset 0 ≡ code
  pub one : get_or p services_offset 0 ≡ 1
  pub idm_is : idm_in p ≡ idm
  pub service_is : service_in p ≡ service
  pub count : count_in p ≡ length blocks
  pub list : list_in p ≡ block_list blocks
  pub bytes_is : block_data_in (count_in p) p ≡ bytes

eight_parts : (code service a b c d e f g h : ℕ) (blocks bytes : List ℕ)
    → RequestParts (request code (a ∷ b ∷ c ∷ d ∷ e ∷ f ∷ g ∷ h ∷ []) service blocks bytes) code (a ∷ b ∷ c ∷ d ∷ e ∷ f ∷ g ∷ h ∷ []) service blocks bytes
unfolding request packet
eight_parts code service a b c d e f g h blocks bytes =
    record {
      len = refl;
      code_is = refl;
      one = refl;
      idm_is = refl;
      service_is = omega arith;
      count = refl;
      list = take_at (block_list blocks) bytes (element_size * length blocks) (list_length blocks);
      bytes_is =
          sym (drop-drop (element_size * length blocks) request_head (request code (a ∷ b ∷ c ∷ d ∷ e ∷ f ∷ g ∷ h ∷ []) service blocks bytes))
          ∙ drop_at (block_list blocks) bytes (element_size * length blocks) (list_length blocks);
    }

pub parts : (code service : ℕ) (idm blocks bytes : List ℕ) → length idm ≡ idm_size → RequestParts (request code idm service blocks bytes) code idm service blocks bytes
parts code service idm blocks bytes h =
    subst (λ l. RequestParts (request code l service blocks bytes) code l service blocks bytes) (eight idm h)
    (eight_parts code service (get_or idm 0 0) (get_or idm 1 0) (get_or idm 2 0) (get_or idm 3 0) (get_or idm 4 0) (get_or idm 5 0) (get_or idm 6 0) (get_or idm 7 0) blocks bytes)

-- ---- build, then take apart

module _ (code service s : ℕ) (idm blocks bytes : List ℕ) (h : length idm ≡ idm_size) (some : 1 ≤ length blocks) (few : length blocks ≤ most_blocks) where
  is-request : length (request code idm service blocks bytes) ≡ request_head + (element_size + s) * length blocks → is_request_of code s (request code idm service blocks bytes) ≡ true
  unfolding is_request_of asks_blocks
  is-request n =
      let p : List ℕ = request code idm service blocks bytes in
      let q = parts code service idm blocks bytes h in
      rw (eq-eqb (get_or p 0 0) (length p) q.len, eq-eqb (get_or p code_offset 0) code q.code_is, eq-eqb (get_or p services_offset 0) 1 q.one, q.list, q.count, le-leb 1 (length blocks) some, le-leb (length blocks) most_blocks few, eq-eqb (length p) (request_head + (element_size + s) * length blocks) n)
      (is_list blocks)

  -- another code
  no-request : (other t : ℕ) → eqb code other ≡ false → is_request_of other t (request code idm service blocks bytes) ≡ false
  unfolding is_request_of
  no-request other t ne =
      let p : List ℕ = request code idm service blocks bytes in
      let q = parts code service idm blocks bytes h in
      rw (eq-eqb (get_or p 0 0) (length p) q.len, q.code_is, ne)

  numbers : numbers_in (list_in (request code idm service blocks bytes)) ≡ blocks
  numbers = ap numbers_in (parts code service idm blocks bytes h).list ∙ numbers_back blocks

pub read_back : (idm blocks : List ℕ) (service : ℕ) → request_fits idm blocks ≡ true → request_of (read_request_of idm service blocks) ≡ reads idm service blocks
unfolding request_of pick
read_back idm blocks service f =
    let h = fits_idm idm blocks true (sym f) refl in
    let few = fits_few idm blocks true (sym f) refl in
    let some = fits_some idm blocks true (sym f) refl in
    let q = parts read_code service idm blocks [] h in
    rw (is-request read_code service 0 idm blocks [] h some few (omega (arith, request-length read_code service idm blocks [] h)))
    (ap (λ i. reads i (service_in (read_request_of idm service blocks)) (numbers_in (list_in (read_request_of idm service blocks)))) q.idm_is
    ∙ ap₂ (reads idm) q.service_is (numbers read_code service 0 idm blocks [] h some few))

pub write_back : (idm blocks bytes : List ℕ) (service : ℕ) → write_fits_of idm blocks bytes ≡ true
    → request_of (write_request_of idm service blocks bytes) ≡ writes idm service blocks bytes
unfolding request_of pick
write_back idm blocks bytes service f =
    let g = write_named idm blocks bytes f in
    let n = write_sixteen idm blocks bytes f in
    let h = fits_idm idm blocks true (sym g) refl in
    let few = fits_few idm blocks true (sym g) refl in
    let some = fits_some idm blocks true (sym g) refl in
    let p : List ℕ = write_request_of idm service blocks bytes in
    let q = parts write_code service idm blocks bytes h in
    rw (no-request write_code service block_size idm blocks bytes h some few read_code 0 refl, is-request write_code service block_size idm blocks bytes h some few (omega (arith, n, request-length write_code service idm blocks bytes h)))
    (ap₂ (λ i l. writes i (service_in p) (numbers_in (list_in p)) l) q.idm_is q.bytes_is
    ∙ ap₂ (λ x y. writes idm x y bytes) q.service_is (numbers write_code service block_size idm blocks bytes h some few))

-- ---- what is taken apart is a request

module _ (code s : ℕ) (p : List ℕ) (good : is_request_of code s p ≡ true) where
  len : get_or p 0 0 ≡ length p
  unfolding is_request_of
  len = eqb-true (get_or p 0 0) (length p) (both_left (eqb (get_or p 0 0) (length p)) _ good)

  behind-len : both (eqb (get_or p code_offset 0) code) (both (eqb (get_or p services_offset 0) 1) (asks_blocks s p)) ≡ true
  unfolding is_request_of
  behind-len = both_right (eqb (get_or p 0 0) (length p)) _ good

  behind-code : both (eqb (get_or p services_offset 0) 1) (asks_blocks s p) ≡ true
  behind-code = both_right (eqb (get_or p code_offset 0) code) _ behind-len

  asked : both (leb 1 (count_in p)) (both (leb (count_in p) most_blocks) (both (eqb (length p) (request_head + (element_size + s) * count_in p)) (is_block_list_of (list_in p)))) ≡ true
  unfolding asks_blocks
  asked = both_right (eqb (get_or p services_offset 0) 1) _ behind-code

  some : 1 ≤ count_in p
  some = leb-true 1 (count_in p) (both_left (leb 1 (count_in p)) _ asked)

  few : count_in p ≤ most_blocks
  few = leb-true (count_in p) most_blocks (both_left (leb (count_in p) most_blocks) _ (both_right (leb 1 (count_in p)) _ asked))

  listed : both (eqb (length p) (request_head + (element_size + s) * count_in p)) (is_block_list_of (list_in p)) ≡ true
  listed = both_right (leb (count_in p) most_blocks) _ (both_right (leb 1 (count_in p)) _ asked)

  whole : length p ≡ request_head + (element_size + s) * count_in p
  whole = eqb-true (length p) (request_head + (element_size + s) * count_in p) (both_left (eqb (length p) (request_head + (element_size + s) * count_in p)) _ listed)

  room : request_head + element_size * count_in p ≤ length p
  room = list_within p s (count_in p) whole few

  list : block_list (numbers_in (list_in p)) ≡ list_in p
  list = list_back (list_in p) (both_right (eqb (length p) (request_head + (element_size + s) * count_in p)) _ listed)

  numbered : length (numbers_in (list_in p)) ≡ count_in p
  numbered =
      let n : element_size * length (numbers_in (list_in p)) ≡ length (list_in p) = sym (list_length (numbers_in (list_in p))) ∙ ap length list in
      omega (arith, n, length-take (element_size * count_in p) (drop request_head p), length-drop request_head p, room)

  idm_eight : length (idm_in p) ≡ idm_size
  idm_eight = omega (arith, length-take idm_size (drop idm_offset p), length-drop idm_offset p, room)

  named : request_fits (idm_in p) (numbers_in (list_in p)) ≡ true
  unfolding request_fits
  named =
      rw (eq-eqb (length (idm_in p)) idm_size idm_eight, numbered, le-leb 1 (count_in p) some)
      (le-leb (count_in p) most_blocks few)

  -- the bytes are those of its fields
  is : Bytes p → p ≡ request code (idm_in p) (service_in p) (numbers_in (list_in p)) (block_data_in (count_in p) p)
  unfolding request packet
  is bytes =
      let low : get_or p service_low_offset 0 ≡ service_in p % 256 = omega (arith, bytes service_low_offset, bytes service_high_offset) in
      let high : get_or p service_high_offset 0 ≡ service_in p / 256 = omega (arith, bytes service_low_offset, bytes service_high_offset) in
      let number : get_or p count_offset 0 ≡ length (numbers_in (list_in p)) = sym numbered in
      let first : get_or p code_offset 0 ≡ code = eqb-true (get_or p code_offset 0) code (both_left (eqb (get_or p code_offset 0) code) _ behind-len) in
      let one : get_or p services_offset 0 ≡ 1 = eqb-true (get_or p services_offset 0) 1 (both_left (eqb (get_or p services_offset 0) 1) _ behind-code) in
      let tail : drop request_head p ≡ block_list (numbers_in (list_in p)) ++ block_data_in (count_in p) p =
      sym (take-append-drop (element_size * count_in p) (drop request_head p)) ∙ ap₂ (λ x y. x ++ y) (sym list) (drop-drop (element_size * count_in p) request_head p) in
      let from-services : drop services_offset p ≡ one_service ∷ service_in p % 256 ∷ service_in p / 256 ∷ length (numbers_in (list_in p)) ∷ block_list (numbers_in (list_in p)) ++ block_data_in (count_in p) p =
      drop-cons p services_offset 0 (omega (arith, room))
      ∙ ap₂ (λ x r. x ∷ r) one (drop-cons p service_low_offset 0 (omega (arith, room))
      ∙ ap₂ (λ x r. x ∷ r) low (drop-cons p service_high_offset 0 (omega (arith, room))
      ∙ ap₂ (λ x r. x ∷ r) high (drop-cons p count_offset 0 (omega (arith, room))
      ∙ ap₂ (λ x r. x ∷ r) number tail))) in
      let from-idm : drop idm_offset p ≡ idm_in p ++ drop services_offset p = sym (take-append-drop idm_size (drop idm_offset p)) ∙ ap (λ r. idm_in p ++ r) (drop-drop idm_size idm_offset p) in
      let from-code : drop code_offset p ≡ code ∷ idm_in p ++ (one_service ∷ service_in p % 256 ∷ service_in p / 256 ∷ length (numbers_in (list_in p)) ∷ block_list (numbers_in (list_in p)) ++ block_data_in (count_in p) p) =
      drop-cons p code_offset 0 (omega (arith, room)) ∙ ap₂ (λ x r. x ∷ r) first (from-idm ∙ ap (λ r. idm_in p ++ r) from-services) in
      let n : get_or p 0 0 ≡ suc (length (drop code_offset p)) = omega (arith, len, length-drop code_offset p, room) in
      drop-cons p 0 0 (omega (arith, room)) ∙ ap (λ x. x ∷ drop code_offset p) n ∙ ap (λ r. suc (length r) ∷ r) from-code

pub record IsReadRequest (p idm : List ℕ) (service : ℕ) (blocks : List ℕ) : Type 0 where
  pub is : p ≡ read_request_of idm service blocks
  pub fits : request_fits idm blocks ≡ true

pub record IsWriteRequest (p idm : List ℕ) (service : ℕ) (blocks bytes : List ℕ) : Type 0 where
  pub is : p ≡ write_request_of idm service blocks bytes
  pub fits : write_fits_of idm blocks bytes ≡ true

read_here : (p : List ℕ) → Bytes p → is_request_of read_code 0 p ≡ true → IsReadRequest p (idm_in p) (service_in p) (numbers_in (list_in p))
read_here p bytes h =
    let n : length p ≤ request_head + element_size * count_in p = omega (arith, whole read_code 0 p h) in
    record {
      is = is read_code 0 p h bytes ∙ ap (request read_code (idm_in p) (service_in p) (numbers_in (list_in p))) (drop_of_length-le p {i = request_head + element_size * count_in p} n);
      fits = named read_code 0 p h;
    }

write_here : (p : List ℕ) → Bytes p → is_request_of write_code block_size p ≡ true → IsWriteRequest p (idm_in p) (service_in p) (numbers_in (list_in p)) (block_data_in (count_in p) p)
unfolding write_fits_of
write_here p bytes h =
    let n : length (block_data_in (count_in p) p) ≡ block_size * length (numbers_in (list_in p)) =
    omega (arith, whole write_code block_size p h, numbered write_code block_size p h, length-drop (request_head + element_size * count_in p) p) in
    record {
      is = is write_code block_size p h bytes;
      fits = rw (named write_code block_size p h) (eq-eqb (length (block_data_in (count_in p) p)) (block_size * length (numbers_in (list_in p))) n);
    }

-- exactly where the bytes are a request of these fields
pub read_only : (p idm : List ℕ) (service : ℕ) (blocks : List ℕ) → Bytes p → request_of p ≡ reads idm service blocks → IsReadRequest p idm service blocks
unfolding request_of pick
read_only p idm service blocks bytes h = go (is_request_of read_code 0 p) refl (is_request_of write_code block_size p) h
  where
    go : (t : Bool) → is_request_of read_code 0 p ≡ t → (u : Bool)
        → pick t (reads (idm_in p) (service_in p) (numbers_in (list_in p))) (pick u (writes (idm_in p) (service_in p) (numbers_in (list_in p)) (block_data_in (count_in p) p)) no_request) ≡ reads idm service blocks
        → IsReadRequest p idm service blocks
    go true e u k =
        let a : idm_in p ≡ idm = cc in
        let b : service_in p ≡ service = cc in
        let c : numbers_in (list_in p) ≡ blocks = cc in
        rw (a, b, c) at (read_here p bytes e)
    go false e true k = absurd (let z : ◌≡◌ {A = ℕ} 0 1 = cc in omega arith)
    go false e false k = absurd (let z : ◌≡◌ {A = ℕ} 0 1 = cc in omega arith)

pub write_only : (p idm : List ℕ) (service : ℕ) (blocks sent : List ℕ) → Bytes p → request_of p ≡ writes idm service blocks sent → IsWriteRequest p idm service blocks sent
unfolding request_of pick
write_only p idm service blocks sent bytes h = go (is_request_of read_code 0 p) (is_request_of write_code block_size p) refl h
  where
    go : (t u : Bool) → is_request_of write_code block_size p ≡ u
        → pick t (reads (idm_in p) (service_in p) (numbers_in (list_in p))) (pick u (writes (idm_in p) (service_in p) (numbers_in (list_in p)) (block_data_in (count_in p) p)) no_request) ≡ writes idm service blocks sent
        → IsWriteRequest p idm service blocks sent
    go true u e k = absurd (let z : ◌≡◌ {A = ℕ} 0 1 = cc in omega arith)
    go false true e k =
        let a : idm_in p ≡ idm = cc in
        let b : service_in p ≡ service = cc in
        let c : numbers_in (list_in p) ≡ blocks = cc in
        let d : block_data_in (count_in p) p ≡ sent = cc in
        rw (a, b, c, d) at (write_here p bytes e)
    go false false e k = absurd (let z : ◌≡◌ {A = ℕ} 0 1 = cc in omega arith)

-- none: the bytes are no request
pub none_read : (p idm : List ℕ) (service : ℕ) (blocks : List ℕ) → request_of p ≡ no_request → IsReadRequest p idm service blocks → ⊥
none_read p idm service blocks h r =
    let k : request_of p ≡ reads idm service blocks = ap request_of r.is ∙ read_back idm blocks service r.fits in
    let z : ◌≡◌ {A = ℕ} 0 1 = cc in
    omega arith

pub none_written : (p idm : List ℕ) (service : ℕ) (blocks bytes : List ℕ) → request_of p ≡ no_request → IsWriteRequest p idm service blocks bytes → ⊥
none_written p idm service blocks bytes h r =
    let k : request_of p ≡ writes idm service blocks bytes = ap request_of r.is ∙ write_back idm blocks bytes service r.fits in
    let z : ◌≡◌ {A = ℕ} 0 1 = cc in
    omega arith
