-- The first place at which a byte stands, as `position` finds it, and what one step of a scan says of it.
use Rattle.std.specs.Prelude.{◌≡◌, ◌≢◌, ℕ, zero, suc, ◌+◌, ◌-◌, ◌<◌, ◌≤◌, true, false, List, [], ◌∷◌, eqb, length, get_or, take, drop, HoldsAt, refl}
use Rattle.std.proofs.Common.{ap, sym, ◌∙◌, arith, add-one, drop-cons, length-drop, length-take-le}
use Rattle.std.specs.List.{AllWithin}
use Rattle.std.proofs.lemmas.List.{drop-take, get_or-take, length-take}
use Rattle.std.proofs.Math.ListN.{drop_of_length-le}
use borrow.Author.Tests.{eq-eqb, ne_eqb}
use Rattle.octets.specs.Bytes.{index_of, index_after, slice}

pub index-found : (b : ℕ) (l : List ℕ) (i : ℕ) → i < length l → HoldsAt (λ y. y ≡ b) l i → AllWithin (λ y. y ≢ b) l 0 i → i ≡ index_of b l
unfolding index_of index_after
index-found b [] i h k n = absurd (omega arith)
index-found b (x ∷ l) zero h k n = rw (eq-eqb x b (k 0))
index-found b (x ∷ l) (suc i) h k n =
    rw (ne_eqb x b (n 0 0 (omega arith) (omega arith)))
    (ap suc (index-found b l i (omega arith) (λ d. k d) (λ j d lo hi. n (suc j) d (omega arith) (omega arith))))

pub index-none : (b : ℕ) (l : List ℕ) → AllWithin (λ y. y ≢ b) l 0 (length l) → length l ≡ index_of b l
unfolding index_of index_after
index-none b [] n = refl
index-none b (x ∷ l) n =
    rw (ne_eqb x b (n 0 0 (omega arith) (omega arith)))
    (ap suc (index-none b l (λ j d lo hi. n (suc j) d (omega arith) (omega arith))))

-- the part of l from `from` on and below `to`, as code cuts it
module _ (b from to : ℕ) (l : List ℕ) (h : from ≤ to) where
  abbrev part : List ℕ
  part = take (to - from) (drop from l)

  part_is : part ≡ slice from to l
  unfolding slice
  part_is = let e : from + (to - from) ≡ to = omega arith in sym (drop-take from (to - from) l) ∙ ap (λ k. drop from (take k l)) e

  pub found : (i : ℕ) → i < length part → HoldsAt (λ y. y ≡ b) part i → AllWithin (λ y. y ≢ b) part 0 i → from + i ≡ from + index_of b (slice from to l)
  found i k here before = ap (λ n. from + n) (index-found b part i k here before ∙ ap (index_of b) part_is)

  pub not_found : to ≤ length l → AllWithin (λ y. y ≢ b) part 0 (length part) → to ≡ from + index_of b (slice from to l)
  not_found k none =
      let long : length part ≡ to - from = length-take-le (to - from) (drop from l) (rw (length-drop from l) (omega arith)) in
      omega (arith, index-none b part none, ap (index_of b) part_is)

module _ (b at to : ℕ) (l : List ℕ) (h : at < to) (k : to ≤ length l) where
  pub slice_next : slice at to l ≡ get_or l at 0 ∷ slice (at + 1) to l
  unfolding slice
  slice_next =
      let n : at < length (take to l) = omega (arith, length-take-le to l k) in
      rw (add-one, drop-cons (take to l) at 0 n, get_or-take)

  pub not_here : eqb (get_or l at 0) b ≡ false → index_of b (slice at to l) ≡ suc (index_of b (slice (at + 1) to l))
  unfolding index_of index_after
  not_here e = rw (slice_next, e)

  pub here : eqb (get_or l at 0) b ≡ true → index_of b (slice at to l) ≡ 0
  unfolding index_of index_after
  here e = rw (slice_next, e)

pub nothing_left : (b at to : ℕ) (l : List ℕ) → to ≤ at → index_of b (slice at to l) ≡ 0
unfolding slice index_of
nothing_left b at to l h = rw (drop_of_length-le (take to l) (short to l h))
  where
    short : (to : ℕ) (l : List ℕ) → to ≤ at → length (take to l) ≤ at
    short to l h = omega (arith, h, length-take to l)
