-- Laws of parts of a list, and of lists of a few elements.
use Rattle.std.specs.Prelude.{◌≡◌, refl, Bool, true, false, leb, take, drop, get_or}
use Rattle.std.proofs.Math.Path.{sym, ap}
use Rattle.std.proofs.Common.{◌∙◌, eq-eqb, ne_eqb, drop_of_length-le, take_all, drop-cons, length-take-le}
use mathlib.Core.List.{List, [], ◌∷◌, ◌++◌}
use Prim.Native.Nat.{ℕ, ◌+◌, ◌*◌, ◌-◌, ◌/◌, ◌≤◌, ◌<◌, min}
use native.Mathlib.Omega.{arith}
use borrow.Author.Tests.{leb-true, leb-false}
use Rattle.std.proofs.Math.Dec.{eqb}
use Rattle.std.proofs.Math.ListN.{length, length-drop}
use Rattle.framing.specs.Parts.{part_clamped}
use Rattle.felica.specs.Names.{idm_size, most_blocks, element_size, element, idm_offset, idm_end, request_head}
use Rattle.felica.specs.Packets.{block_list}
use Rattle.felica.specs.Fields.{idm_in, numbers_in, is_block_list_of}

-- ---- parts that are cut to the list's end

pub idm_cut : (p : List ℕ) (a b : ℕ) → a ≡ min idm_offset (length p) → b ≡ min idm_end (length p) → take (b - a) (drop a p) ≡ idm_in p
idm_cut p a b f k =
    let n : b - a ≡ a + (b - a) - a = omega arith in
    ap (λ j. take j (drop a p)) n ∙ part_clamped p idm_offset idm_size a (b - a) f (omega arith)

pub rest_from : (p : List ℕ) (k n : ℕ) → n ≡ min (length p) k → take (length p - n) (drop n p) ≡ drop k p
rest_from p k n e = take_all (length p - n) (drop n p) (omega (arith, length-drop n p)) ∙ go (leb k (length p)) refl
  where
    go : (t : Bool) → leb k (length p) ≡ t → drop n p ≡ drop k p
    go true h = ap (λ j. drop j p) (omega (arith, e, leb-true k (length p) h))
    go false h =
        let l = leb-false k (length p) h in
        drop_of_length-le p {i = n} (omega (arith, e, l)) ∙ sym (drop_of_length-le p {i = k} (omega (arith, l)))

-- ---- lists of a few elements

pub eight : (l : List ℕ) → length l ≡ idm_size
    → get_or l 0 0 ∷ get_or l 1 0 ∷ get_or l 2 0 ∷ get_or l 3 0 ∷ get_or l 4 0 ∷ get_or l 5 0 ∷ get_or l 6 0 ∷ get_or l 7 0 ∷ [] ≡ l
eight l h =
    sym
    (drop-cons l 0 0 (omega arith)
    ∙ ap (λ r. get_or l 0 0 ∷ r) (drop-cons l 1 0 (omega arith)
    ∙ ap (λ r. get_or l 1 0 ∷ r) (drop-cons l 2 0 (omega arith)
    ∙ ap (λ r. get_or l 2 0 ∷ r) (drop-cons l 3 0 (omega arith)
    ∙ ap (λ r. get_or l 3 0 ∷ r) (drop-cons l 4 0 (omega arith)
    ∙ ap (λ r. get_or l 4 0 ∷ r) (drop-cons l 5 0 (omega arith)
    ∙ ap (λ r. get_or l 5 0 ∷ r) (drop-cons l 6 0 (omega arith)
    ∙ ap (λ r. get_or l 6 0 ∷ r) (drop-cons l 7 0 (omega arith)
    ∙ ap (λ r. get_or l 7 0 ∷ r) (drop_of_length-le l {i = idm_size} (omega arith))))))))))

-- at most four block numbers as elements, and the elements' numbers
pub few_elements : (l : List ℕ) → length l ≤ most_blocks
    → take (element_size * length l) (element ∷ get_or l 0 0 ∷ element ∷ get_or l 1 0 ∷ element ∷ get_or l 2 0 ∷ element ∷ get_or l 3 0 ∷ []) ≡ block_list l
unfolding block_list
few_elements [] h = refl
few_elements (a ∷ []) h = refl
few_elements (a ∷ b ∷ []) h = refl
few_elements (a ∷ b ∷ c ∷ []) h = refl
few_elements (a ∷ b ∷ c ∷ d ∷ []) h = refl
few_elements (a ∷ b ∷ c ∷ d ∷ e ∷ l) h = absurd (omega arith)

pub few_numbers : (l : List ℕ) → length l ≤ element_size * most_blocks → take (length l / element_size) (get_or l 1 0 ∷ get_or l 3 0 ∷ get_or l 5 0 ∷ get_or l 7 0 ∷ []) ≡ numbers_in l
unfolding numbers_in
few_numbers [] h = refl
few_numbers (a ∷ []) h = refl
few_numbers (a ∷ b ∷ []) h = refl
few_numbers (a ∷ b ∷ c ∷ []) h = refl
few_numbers (a ∷ b ∷ c ∷ d ∷ []) h = refl
few_numbers (a ∷ b ∷ c ∷ d ∷ e ∷ []) h = refl
few_numbers (a ∷ b ∷ c ∷ d ∷ e ∷ f ∷ []) h = refl
few_numbers (a ∷ b ∷ c ∷ d ∷ e ∷ f ∷ g ∷ []) h = refl
few_numbers (a ∷ b ∷ c ∷ d ∷ e ∷ f ∷ g ∷ k ∷ []) h = refl
few_numbers (a ∷ b ∷ c ∷ d ∷ e ∷ f ∷ g ∷ k ∷ m ∷ l) h = absurd (omega arith)

-- ---- block lists

pub list_length : (l : List ℕ) → length (block_list l) ≡ element_size * length l
unfolding block_list
list_length [] = refl
list_length (a ∷ l) = omega (arith, list_length l)

-- a block list, element by element: an element of the first service, and what is none
pub list_agrees : (l : List ℕ) → 2 ≤ length l → get_or l 0 0 ≡ element → is_block_list_of l ≡ is_block_list_of (take (length l - 2) (drop 2 l))
unfolding is_block_list_of
list_agrees [] h e = absurd (omega arith)
list_agrees (x ∷ []) h e = absurd (omega arith)
list_agrees (x ∷ y ∷ l) h e = rw (eq-eqb x element e, take_all (length (x ∷ y ∷ l) - 2) l (omega arith))

pub list_ends : (l : List ℕ) → length l < 2 → eqb (length l) 0 ≡ is_block_list_of l
unfolding is_block_list_of
list_ends [] h = refl
list_ends (x ∷ []) h = refl
list_ends (x ∷ y ∷ l) h = absurd (omega arith)

pub list_differs : (l : List ℕ) → 2 ≤ length l → (get_or l 0 0 ≡ element → ⊥) → eqb (length l) 0 ≡ is_block_list_of l
unfolding is_block_list_of
list_differs [] h e = absurd (omega arith)
list_differs (x ∷ []) h e = absurd (omega arith)
list_differs (x ∷ y ∷ l) h e = rw (ne_eqb x element e) (ne_eqb (length (x ∷ y ∷ l)) 0 (λ z. omega arith))

-- ---- a block list of at most four elements, put behind the head of a request

module _ (k a b c d e f g h : ℕ) (few : k ≤ most_blocks) where
  pub taken_eight : element_size * k ≡ length (take (element_size * k) (a ∷ b ∷ c ∷ d ∷ e ∷ f ∷ g ∷ h ∷ []))
  taken_eight = sym (length-take-le (element_size * k) (a ∷ b ∷ c ∷ d ∷ e ∷ f ∷ g ∷ h ∷ []) (omega arith))

pub list_put : (blocks b b₁ : List ℕ) (x y z w : ℕ) → length blocks ≤ most_blocks → x ≡ get_or blocks 0 0 → y ≡ get_or blocks 1 0 → z ≡ get_or blocks 2 0 → w ≡ get_or blocks 3 0
    → b₁ ≡ take request_head b ++ (take (element_size * length blocks) (element ∷ x ∷ element ∷ y ∷ element ∷ z ∷ element ∷ w ∷ [])
    ++ drop (request_head + length (take (element_size * length blocks) (element ∷ x ∷ element ∷ y ∷ element ∷ z ∷ element ∷ w ∷ []))) b)
    → b₁ ≡ take request_head b ++ (block_list blocks ++ drop (request_head + element_size * length blocks) b)
list_put blocks b b₁ x y z w few p q r s e =
    let l : List ℕ = take (element_size * length blocks) (element ∷ x ∷ element ∷ y ∷ element ∷ z ∷ element ∷ w ∷ []) in
    let n : length l ≡ element_size * length blocks = sym (taken_eight (length blocks) element x element y element z element w few) in
    let m : l ≡ block_list blocks = rw (p, q, r, s) (few_elements blocks few) in
    e ∙ ap (λ j. take request_head b ++ (l ++ drop (request_head + j) b)) n ∙ ap (λ k. take request_head b ++ (k ++ drop (request_head + element_size * length blocks) b)) m
