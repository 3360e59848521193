-- Laws of packets taken apart.
use Rattle.std.specs.Prelude.{◌≡◌, refl, Bool, true, false, List, ℕ, zero, suc, ◌+◌, ◌*◌, ◌-◌, ◌/◌, ◌≤◌, eqb, leb, length, take, drop, get_or, Some, None}
use Rattle.std.proofs.Math.Path.{sym, ap}
use Rattle.std.proofs.Common.{ap₂, ◌∙◌, Fits, length-take, length-drop}
use native.Mathlib.Omega.{arith}
use borrow.Author.Tests.{eq-eqb, ne_eqb, le-leb, leb-true, eqb-true}
use Rattle.std.specs.Int.{w64}
use Rattle.errors.specs.Choice.{pick}
use Rattle.framing.specs.Lists.{both}
use Rattle.framing.specs.Valid.{both_left, both_right}
use Rattle.felica.specs.Names.{block_size, most_blocks, element_size, code_offset, services_offset, service_low_offset, service_high_offset, request_head, flags_end}
use Rattle.felica.specs.Packets.{read_code, write_code}
use Rattle.felica.specs.Fields.{idm_in, service_in, count_in, list_in, block_data_in, numbers_in, is_block_list_of, asks_blocks, is_request_of, request_of, reads, writes, no_request, four_in, asked_in, parsed_request, numbers_of, request_in, has_blocks_of}
use Rattle.felica.specs.Lists.{few_numbers}
use Rattle.felica.specs.declared.request.Asked.{Asked}
use Rattle.felica.specs.declared.request.Request.TheVariants.{Read, Write}

-- ---- requests

small : (s n : ℕ) → s ≤ block_size → n ≤ most_blocks → (element_size + s) * n ≤ (element_size + block_size) * most_blocks
small s zero h k = omega arith
small s (suc zero) h k = omega arith
small s (suc (suc zero)) h k = omega arith
small s (suc (suc (suc zero))) h k = omega arith
small s (suc (suc (suc (suc zero)))) h k = omega arith
small s (suc (suc (suc (suc (suc n))))) h k = absurd (omega arith)

pub product_fits : (s n : ℕ) → s ≤ block_size → n ≤ most_blocks → Fits w64 ((element_size + s) * n)
product_fits s n h k = record { fits = omega (arith, small s n h k) }

pub sum_fits : (s n : ℕ) → s ≤ block_size → n ≤ most_blocks → Fits w64 (request_head + (element_size + s) * n)
sum_fits s n h k = record { fits = omega (arith, small s n h k) }

pub list_within : (p : List ℕ) (s n : ℕ) → length p ≡ request_head + (element_size + s) * n → n ≤ most_blocks → request_head + element_size * n ≤ length p
list_within p s zero e h = omega (arith, e)
list_within p s (suc zero) e h = omega (arith, e)
list_within p s (suc (suc zero)) e h = omega (arith, e)
list_within p s (suc (suc (suc zero))) e h = omega (arith, e)
list_within p s (suc (suc (suc (suc zero)))) e h = omega (arith, e)
list_within p s (suc (suc (suc (suc (suc n))))) e h = absurd (omega arith)

-- n is the number of blocks
module _ (p : List ℕ) (s n : ℕ) (known : n ≡ count_in p) where
  pub asks_list : (r : Bool) → 1 ≤ n → n ≤ most_blocks → length p ≡ request_head + (element_size + s) * n → r ≡ is_block_list_of (take (request_head + element_size * n - request_head) (drop request_head p)) → r ≡ asks_blocks s p
  unfolding asks_blocks
  asks_list r h k e t =
      let m : request_head + element_size * n - request_head ≡ element_size * n = omega arith in
      rw (← known, le-leb 1 n h, le-leb n most_blocks k, eq-eqb (length p) (request_head + (element_size + s) * n) e) (t ∙ ap (λ j. is_block_list_of (take j (drop request_head p))) m)

module _ (code s : ℕ) (p : List ℕ) (r : Bool) (known : r ≡ is_request_of code s p) (good : r ≡ true) where
  asks : asks_blocks s p ≡ true
  unfolding is_request_of
  asks = both_right (eqb (get_or p services_offset 0) 1) _ (both_right (eqb (get_or p code_offset 0) code) _ (both_right (eqb (get_or p 0 0) (length p)) _ (sym known ∙ good)))

  pub request_few : count_in p ≤ most_blocks
  unfolding asks_blocks
  request_few = leb-true (count_in p) most_blocks (both_left (leb (count_in p) most_blocks) _ (both_right (leb 1 (count_in p)) _ asks))

  pub request_room : request_head + element_size * count_in p ≤ length p
  unfolding asks_blocks
  request_room =
      let e = both_left (eqb (length p) (request_head + (element_size + s) * count_in p)) _ (both_right (leb (count_in p) most_blocks) _ (both_right (leb 1 (count_in p)) _ asks)) in
      list_within p s (count_in p) (eqb-true (length p) (request_head + (element_size + s) * count_in p) e) request_few

pub asked_of : (p : List ℕ) (s k w lo hi : ℕ) (ns : List ℕ) → s ≡ lo + 256 * hi → lo ≡ get_or p service_low_offset 0 → hi ≡ get_or p service_high_offset 0 → k ≡ count_in p → w ≡ k
    → ns ≡ four_in (take (request_head + element_size * w - request_head) (drop request_head p)) → ◌≡◌ {A = Asked} (record { service = s; count = k; numbers = ns }) (asked_in p)
asked_of p s k w lo hi ns e f g h m n =
    let j : request_head + element_size * w - request_head ≡ element_size * count_in p = omega arith in
    let service : s ≡ service_in p = e ∙ ap₂ (λ x y. x + 256 * y) f g in
    let numbers : ns ≡ four_in (list_in p) = n ∙ ap (λ i. four_in (take i (drop request_head p))) j in
    rw (service, h, numbers)

-- the answer's fields are the packet's
numbers-asked : (code s : ℕ) (p : List ℕ) → is_request_of code s p ≡ true → numbers_of (asked_in p) ≡ numbers_in (list_in p)
numbers-asked code s p h =
    let room = request_room code s p true (sym h) refl in
    let few = request_few code s p true (sym h) refl in
    let l : length (list_in p) ≡ element_size * count_in p = length-take (element_size * count_in p) (drop request_head p) ∙ omega (arith, length-drop request_head p, room) in
    let half : length (list_in p) / element_size ≡ count_in p = omega (arith, l) in
    ap (λ i. take i (four_in (list_in p))) (sym half) ∙ few_numbers (list_in p) (omega (arith, l, few))

pub parsed_fields : (p : List ℕ) → request_in (parsed_request p) p ≡ request_of p
unfolding parsed_request request_of pick
parsed_fields p = go (is_request_of read_code 0 p) (is_request_of write_code block_size p) refl refl
  where
    go : (t u : Bool) → is_request_of read_code 0 p ≡ t → is_request_of write_code block_size p ≡ u → request_in (pick t (Some (Read (asked_in p))) (pick u (Some (Write (asked_in p))) None)) p
        ≡ pick t (reads (idm_in p) (service_in p) (numbers_in (list_in p))) (pick u (writes (idm_in p) (service_in p) (numbers_in (list_in p)) (block_data_in (count_in p) p)) no_request)
    go true u e f = ap (reads (idm_in p) (service_in p)) (numbers-asked read_code 0 p e)
    go false true e f = ap (λ l. writes (idm_in p) (service_in p) l (block_data_in (count_in p) p)) (numbers-asked write_code block_size p f)
    go false false e f = refl

-- ---- replies

-- the first byte is not the number of bytes
pub not_length : (p : List ℕ) (n : ℕ) (rest : Bool) → flags_end ≤ length p → n ≡ get_or p 0 0 → (n ≡ length p → ⊥)
    → false ≡ both (leb flags_end (length p)) (both (eqb (get_or p 0 0) (length p)) rest)
not_length p n rest h e ne = rw (le-leb flags_end (length p) h, ne_eqb (get_or p 0 0) (length p) (λ k. ne (e ∙ k)))

pub known_blocks : (p : List ℕ) (n m : ℕ) (r : Bool) → n ≡ m → r ≡ has_blocks_of n p → r ≡ has_blocks_of m p
known_blocks p n m r e h = h ∙ ap (λ k. has_blocks_of k p) e
