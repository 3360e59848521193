-- Laws of a packet's extra zeros, and of the packet without them.
use Rattle.std.specs.Prelude.{◌≡◌, ℕ, zero, suc, ◌+◌, ◌-◌, ◌<◌, ◌≤◌, min, Bool, true, false, List, [], ◌∷◌, ◌++◌, length, drop, replicate, ◌==◌, ◌≢◌, nat_eq, nat_le, nat_lt, slice_index, slice_index_or, take, HoldsAt}
use Rattle.std.proofs.Math.Path.{refl, sym, ap}
use Rattle.std.proofs.Common.{subst, ◌∙◌, arith}
use Rattle.std.proofs.lemmas.Bool.{false≢true}
use borrow.Author.Tests.{eq-eqb, ne_eqb, eqb-true, eqb-false, leb-true, leb-false, ltb-true, ltb-false}
use Rattle.std.proofs.Math.ListN.{length-drop, get_or-eq_default}
use Rattle.std.specs.List.{AllWithin}
use Rattle.std.proofs.lemmas.List.{length-replicate, get_or-take, length-take, length-take-le}
use Rattle.std.proofs.Math.Seq.{drop_at}
use Rattle.errors.specs.Choice.{pick}
use Rattle.framing.specs.Frames.{sof}
use Rattle.framing.specs.Lists.{both, starts}
use Rattle.framing.specs.Names.{sof_size, start_end}
use Rattle.framing.specs.Padded.{most_zeros, is_padded, zeros_up_to, extra_zeros_of, unpadded}
use Rattle.framing.specs.Starts.{starts_split, starts-append, starts_whole, starts_long}
use Rattle.framing.specs.Valid.{both_left, both_right}

-- its first z + 2 bytes are 0, and the next one is FF
pub zeros-before : (z : ℕ) (p : List ℕ) → is_padded z p ≡ true → (k : ℕ) → k < suc (suc z) → slice_index p k ≡ 0
unfolding is_padded starts
zeros-before zero p h k l = subst (λ q. slice_index q k ≡ 0) (sym (starts_split sof p h)) (two k l)
  where
    two : (k : ℕ) → k < 2 → slice_index (sof ++ drop sof_size p) k ≡ 0
    two zero l = refl
    two (suc zero) l = refl
    two (suc (suc k)) l = absurd (omega arith)
zeros-before (suc z) [] h k l = absurd (false≢true h)
zeros-before (suc z) (y ∷ p) h zero l = sym (eqb-true 0 y (both_left (0 == y) (is_padded z p) h))
zeros-before (suc z) (y ∷ p) h (suc k) l = zeros-before z p (both_right (0 == y) (is_padded z p) h) k (omega arith)

pub mark_behind : (z : ℕ) (p : List ℕ) → is_padded z p ≡ true → slice_index p (suc (suc z)) ≡ start_end
unfolding is_padded starts
mark_behind zero p h = subst (λ q. slice_index q 2 ≡ start_end) (sym (starts_split sof p h)) refl
mark_behind (suc z) [] h = absurd (false≢true h)
mark_behind (suc z) (y ∷ p) h = mark_behind z p (both_right (0 == y) (is_padded z p) h)

-- and a packet of that kind is z zeros before one that has the start bytes
pub padded-from : (z : ℕ) (p : List ℕ) → ((k : ℕ) → k < suc (suc z) → slice_index p k ≡ 0) → slice_index p (suc (suc z)) ≡ start_end → is_padded z p ≡ true
unfolding is_padded starts
padded-from zero [] h e = absurd (omega (arith, e))
padded-from zero (x ∷ []) h e = absurd (omega (arith, e))
padded-from zero (x ∷ y ∷ []) h e = absurd (omega (arith, e))
padded-from zero (x ∷ y ∷ w ∷ p) h e =
    rw (eq-eqb 0 x (sym (h 0 (omega arith))), eq-eqb 0 y (sym (h 1 (omega arith))), eq-eqb start_end w (sym e))
padded-from (suc z) [] h e = absurd (omega (arith, e))
padded-from (suc z) (x ∷ p) h e = rw (eq-eqb 0 x (sym (h 0 (omega arith)))) (padded-from z p (λ k l. h (suc k) (omega arith)) e)

not_less : (p : List ℕ) (y z : ℕ) → y < z → is_padded y p ≡ true → is_padded z p ≢ true
not_less p y z l a b = omega (arith, mark_behind y p a, zeros-before z p b (suc (suc y)) (omega arith))

pub padded_once : (p : List ℕ) (y z : ℕ) → is_padded y p ≡ true → is_padded z p ≡ true → y ≡ z
padded_once p y z a b = go (nat_le y z) refl (nat_le z y) refl
  where
    go : (s : Bool) → nat_le y z ≡ s → (t : Bool) → nat_le z y ≡ t → y ≡ z
    go true e true f = omega (arith, leb-true y z e, leb-true z y f)
    go true e false f = absurd (not_less p y z (leb-false z y f) a b)
    go false e t f = absurd (not_less p z y (leb-false y z e) b a)

-- The extra zeros: those that are there, or none.
up_to_is : (p : List ℕ) (z : ℕ) → is_padded z p ≡ true → (n : ℕ) → z ≤ n → zeros_up_to n p ≡ z
unfolding zeros_up_to pick
up_to_is p z h zero l = omega arith
up_to_is p z h (suc n) l = go (is_padded (suc n) p) refl (nat_le z n) refl (up_to_is p z h n)
  where
    go : (s : Bool) → is_padded (suc n) p ≡ s → (t : Bool) → nat_le z n ≡ t → (z ≤ n → zeros_up_to n p ≡ z) → pick s (suc n) (zeros_up_to n p) ≡ z
    go true e t f again = padded_once p (suc n) z e h
    go false e true f again = again (leb-true z n f)
    go false e false f again =
        let last : z ≡ suc n = omega (arith, leb-false z n f) in
        absurd (false≢true (sym e ∙ subst (λ k. is_padded k p ≡ true) last h))

up_to_none : (p : List ℕ) (n : ℕ) → ((z : ℕ) → z ≤ n → is_padded z p ≡ true → z ≡ 0) → zeros_up_to n p ≡ 0
unfolding zeros_up_to pick
up_to_none p zero h = refl
up_to_none p (suc n) h = go (is_padded (suc n) p) refl (up_to_none p n (λ z l a. h z (omega arith) a))
  where
    go : (s : Bool) → is_padded (suc n) p ≡ s → zeros_up_to n p ≡ 0 → pick s (suc n) (zeros_up_to n p) ≡ 0
    go true e rest = h (suc n) (omega arith) e
    go false e rest = rest

up_to_most : (p : List ℕ) (n : ℕ) → zeros_up_to n p ≤ n
unfolding zeros_up_to pick
up_to_most p zero = omega arith
up_to_most p (suc n) = go (is_padded (suc n) p) (up_to_most p n)
  where
    go : (s : Bool) → zeros_up_to n p ≤ n → pick s (suc n) (zeros_up_to n p) ≤ suc n
    go true rest = omega arith
    go false rest = omega arith

up_to_some : (p : List ℕ) (n : ℕ) → 0 < zeros_up_to n p → is_padded (zeros_up_to n p) p ≡ true
unfolding zeros_up_to pick
up_to_some p zero h = absurd (omega arith)
up_to_some p (suc n) h = go (is_padded (suc n) p) refl h (up_to_some p n)
  where
    go : (s : Bool) → is_padded (suc n) p ≡ s → 0 < pick s (suc n) (zeros_up_to n p) → (0 < zeros_up_to n p → is_padded (zeros_up_to n p) p ≡ true)
        → is_padded (pick s (suc n) (zeros_up_to n p)) p ≡ true
    go true e k rest = e
    go false e k rest = rest k

module _ (p : List ℕ) where
  pub extra_most : extra_zeros_of p ≤ most_zeros
  unfolding extra_zeros_of
  extra_most = up_to_most p most_zeros

  pub extra_some : 0 < extra_zeros_of p → is_padded (extra_zeros_of p) p ≡ true
  unfolding extra_zeros_of
  extra_some = up_to_some p most_zeros

  pub extra_is : (z : ℕ) → is_padded z p ≡ true → z ≤ most_zeros → extra_zeros_of p ≡ z
  unfolding extra_zeros_of
  extra_is z h l = up_to_is p z h most_zeros l

  pub extra_none : ((z : ℕ) → z ≤ most_zeros → is_padded z p ≡ true → z ≡ 0) → extra_zeros_of p ≡ 0
  unfolding extra_zeros_of
  extra_none h = up_to_none p most_zeros h

  -- a packet that has the start bytes has none
  pub extra_start : starts sof p ≡ true → extra_zeros_of p ≡ 0
  unfolding is_padded
  extra_start h = extra_is 0 h (omega arith)

  pub unpadded-start : starts sof p ≡ true → unpadded p ≡ p
  unfolding unpadded
  unpadded-start h = rw (extra_start h)

  -- without extra zeros it is itself
  pub unpadded_none : extra_zeros_of p ≡ 0 → unpadded p ≡ p
  unfolding unpadded
  unpadded_none h = rw h

  -- with some it has the start bytes behind them
  pub unpadded_some : 0 < extra_zeros_of p → starts sof (unpadded p) ≡ true
  unfolding is_padded unpadded
  unpadded_some h =
      let z = extra_zeros_of p in
      both_right (starts (replicate z 0) p) (starts sof (drop z p))
      (sym (ap (λ k. both (starts (replicate z 0) p) (starts sof (drop k p))) (length-replicate z 0)) ∙ sym (starts-append (replicate z 0) sof p) ∙ extra_some h)

  pub length-unpadded : length (unpadded p) ≡ length p - extra_zeros_of p
  unfolding unpadded
  length-unpadded = length-drop (extra_zeros_of p) p

-- a packet that has the start bytes is three bytes long
start_room : (p : List ℕ) → starts sof p ≡ true → sof_size ≤ length p
start_room p h = go (nat_le sof_size (length p)) refl
  where
    go : (t : Bool) → nat_le sof_size (length p) ≡ t → sof_size ≤ length p
    go true e = leb-true sof_size (length p) e
    go false e = absurd (false≢true (sym (starts_long sof p (leb-false sof_size (length p) e)) ∙ h))

-- Either there are none, or the packet without them has the start bytes.
module _ {A : Type 0} (p : List ℕ) (none : extra_zeros_of p ≡ 0 → A) (some : 0 < extra_zeros_of p → starts sof (unpadded p) ≡ true → A) where
  pub by_zeros : A
  by_zeros = go (nat_le 1 (extra_zeros_of p)) refl
    where
      go : (t : Bool) → nat_le 1 (extra_zeros_of p) ≡ t → A
      go false e = none (omega (arith, leb-false 1 (extra_zeros_of p) e))
      go true e = some (leb-true 1 (extra_zeros_of p) e) (unpadded_some p (leb-true 1 (extra_zeros_of p) e))

pub extra_fits : (p : List ℕ) → extra_zeros_of p ≤ length p
extra_fits p = by_zeros p (λ e. omega (arith, e)) (λ k s. omega (arith, start_room (unpadded p) s, length-unpadded p))

-- the packet without its extra zeros is empty exactly when the packet is
pub unpadded_empty : (p : List ℕ) → (length (unpadded p) == 0) ≡ (length p == 0)
unpadded_empty p =
    by_zeros p (λ e. ap (λ q. nat_eq (length q) 0) (unpadded_none p e))
    (λ k s.
    let long : sof_size ≤ length (unpadded p) = start_room (unpadded p) s in
    ne_eqb (length (unpadded p)) 0 (λ e. omega arith) ∙ sym (ne_eqb (length p) 0 (λ e. omega (arith, length-unpadded p))))

-- where it has no start bytes there are no extra zeros
pub extra_false_start : (p : List ℕ) → starts sof (unpadded p) ≡ false → extra_zeros_of p ≡ 0
extra_false_start p h = by_zeros p (λ e. e) (λ k s. absurd (false≢true (sym h ∙ s)))

-- z zeros before a packet that has the start bytes
module _ (z : ℕ) (p : List ℕ) (h : starts sof p ≡ true) where
  pub zeros-padded : is_padded z (replicate z 0 ++ p) ≡ true
  unfolding is_padded
  zeros-padded =
      starts-append (replicate z 0) sof (replicate z 0 ++ p)
      ∙ rw (starts_whole (replicate z 0) p, drop_at (replicate z 0) p (length (replicate z 0)) refl) h

  pub extra_before : z ≤ most_zeros → extra_zeros_of (replicate z 0 ++ p) ≡ z
  extra_before l = extra_is (replicate z 0 ++ p) z zeros-padded l

  pub unpadded-before : z ≤ most_zeros → unpadded (replicate z 0 ++ p) ≡ p
  unfolding unpadded
  unpadded-before l = rw (extra_before l) (drop_at (replicate z 0) p z (length-replicate z 0))

  -- 17 and more are no extra zeros, and the packet has no start
  pub extra_over : most_zeros < z → extra_zeros_of (replicate z 0 ++ p) ≡ 0
  extra_over l = extra_none (replicate z 0 ++ p) (λ y m a. absurd (omega (arith, padded_once (replicate z 0 ++ p) y z a zeros-padded)))

  pub over_no_start : most_zeros < z → starts sof (unpadded (replicate z 0 ++ p)) ≡ false
  unfolding is_padded
  over_no_start l = ap (starts sof) (unpadded_none (replicate z 0 ++ p) (extra_over l)) ∙ go (starts sof (replicate z 0 ++ p)) refl
    where
      go : (t : Bool) → starts sof (replicate z 0 ++ p) ≡ t → t ≡ false
      go false e = refl
      go true e = absurd (omega (arith, padded_once (replicate z 0 ++ p) 0 z e zeros-padded))

-- A packet is its extra zeros before the packet without them.
pub padded_split : (p : List ℕ) → replicate (extra_zeros_of p) 0 ++ unpadded p ≡ p
unfolding is_padded unpadded
padded_split p = by_zeros p (λ e. ap (λ k. replicate k 0 ++ unpadded p) e ∙ unpadded_none p e) (λ k s. split (extra_some p k))
  where
    z : ℕ
    z = extra_zeros_of p

    split : is_padded z p ≡ true → replicate z 0 ++ drop z p ≡ p
    split h =
        let led : starts (replicate z 0) p ≡ true = both_left _ _ (sym (starts-append (replicate z 0) sof p) ∙ h) in
        sym (starts_split (replicate z 0) p led ∙ ap (λ k. replicate z 0 ++ drop k p) (length-replicate z 0))

-- What `extra_zeros` counts: n zeros so far.
-- the same of a packet whose first byte other than 0 is b, behind n zeros
unfoldable pub extra_at_of : ℕ → ℕ → ℕ
extra_at_of n b = pick (b == start_end) (pick (nat_lt n 2) 0 (pick (nat_lt most_zeros (n - 2)) 0 (n - 2))) 0

module _ (p : List ℕ) (n : ℕ) (zeros : (k : ℕ) → k < n → slice_index p k ≡ 0) where
  -- the first byte other than 0 is the packet's FF, or the packet has no start
  first-other : (z b : ℕ) → b ≡ slice_index p n → (b ≢ 0) → is_padded z p ≡ true → (n ≡ suc (suc z)) × (b ≡ start_end)
  first-other z b e other h = go (nat_le (suc (suc z)) n) refl (nat_le n (suc (suc z))) refl
    where
      go : (s : Bool) → nat_le (suc (suc z)) n ≡ s → (t : Bool) → nat_le n (suc (suc z)) ≡ t → (n ≡ suc (suc z)) × (b ≡ start_end)
      go false f t g = absurd (other (e ∙ zeros-before z p h n (leb-false (suc (suc z)) n f)))
      go true f false g = absurd (omega (arith, zeros (suc (suc z)) (leb-false n (suc (suc z)) g), mark_behind z p h))
      go true f true g =
          let here : n ≡ suc (suc z) = omega (arith, leb-true (suc (suc z)) n f, leb-true n (suc (suc z)) g) in
          (here, e ∙ ap (λ k. slice_index p k) here ∙ mark_behind z p h)

  pub extra_found : (b r : ℕ) → r ≡ extra_at_of n b → b ≡ slice_index p n → (b ≢ 0) → r ≡ extra_zeros_of p
  unfolding extra_at_of pick
  extra_found b r answer e other = answer ∙ go (b == start_end) refl (nat_lt n 2) refl (nat_lt most_zeros (n - 2)) refl
    where
      go : (s : Bool) → (b == start_end) ≡ s → (t : Bool) → nat_lt n 2 ≡ t → (u : Bool) → nat_lt most_zeros (n - 2) ≡ u
          → pick s (pick t 0 (pick u 0 (n - 2))) 0 ≡ extra_zeros_of p
      go false f t g u k = sym (extra_none p (λ z l h. absurd (eqb-false b start_end f (first-other z b e other h).1)))
      go true f true g u k = sym (extra_none p (λ z l h. omega (arith, ltb-true n 2 g, (first-other z b e other h).0)))
      go true f false g true k = sym (extra_none p (λ z l h. omega (arith, ltb-true most_zeros (n - 2) k, (first-other z b e other h).0)))
      go true f false g false k =
          let here : suc (suc (n - 2)) ≡ n = omega (arith, ltb-false n 2 g) in
          let mark : slice_index_or p (suc (suc (n - 2))) 0 ≡ start_end = ap (λ j. slice_index p j) here ∙ sym e ∙ eqb-true b start_end f in
          sym (extra_is p (n - 2) (padded-from (n - 2) p (λ j l. zeros j (omega arith)) mark) (ltb-false most_zeros (n - 2) k))

  pub another : slice_index_or p n 0 ≡ 0 → (k : ℕ) → k < n + 1 → slice_index p k ≡ 0
  another e k l = go (nat_le n k) refl
    where
      go : (t : Bool) → nat_le n k ≡ t → slice_index p k ≡ 0
      go false f = zeros k (leb-false n k f)
      go true f = let last : k ≡ n = omega (arith, leb-true n k f) in subst (λ j. slice_index p j ≡ 0) (sym last) e

  pub all-zeros : (end : ℕ) → end ≡ min (length p) (most_zeros + sof_size) → end ≤ n → 0 ≡ extra_zeros_of p
  all-zeros end at-end l = sym (extra_none p (λ z m h. absurd (go z m (mark_behind z p h) (nat_le n (suc (suc z))) refl)))
    where
      go : (z : ℕ) → z ≤ most_zeros → slice_index p (suc (suc z)) ≡ start_end → (t : Bool) → nat_le n (suc (suc z)) ≢ t
      go z m h false e = omega (arith, zeros (suc (suc z)) (leb-false n (suc (suc z)) e))
      go z m h true e =
          let short : length p ≤ suc (suc z) = omega (arith, leb-true n (suc (suc z)) e) in
          omega (arith, get_or-eq_default p 0 short)

-- what the search for a byte other than 0 in the first `end` bytes says
module _ (p : List ℕ) (end : ℕ) (at-end : end ≡ min (length p) (most_zeros + sof_size)) where
  zeros-taken : (n : ℕ) → n ≤ end → AllWithin (λ y. y ≡ 0) (take end p) 0 n → (k : ℕ) → k < n → slice_index p k ≡ 0
  zeros-taken n h zeros k l = sym (get_or-take end p k 0 (omega arith)) ∙ zeros k 0 (omega arith) l

  pub other_found : (n r : ℕ) → r ≡ extra_at_of n (slice_index p n) → n < length (take end p) → HoldsAt (λ y. y ≢ 0) (take end p) n → AllWithin (λ y. y ≡ 0) (take end p) 0 n
      → r ≡ extra_zeros_of p
  other_found n r answer inside other zeros =
      let l : n < end = omega (arith, length-take end p) in
      extra_found p n (zeros-taken n (omega arith) zeros) (slice_index p n) r answer refl (λ e. other 0 (get_or-take end p n 0 l ∙ e))

  pub none_found : AllWithin (λ y. y ≡ 0) (take end p) 0 (length (take end p)) → 0 ≡ extra_zeros_of p
  none_found zeros =
      let l : length (take end p) ≡ end = length-take-le end p (omega arith) in
      all-zeros p end (zeros-taken end (omega arith) (subst (λ n. AllWithin (λ y. y ≡ 0) (take end p) 0 n) l zeros)) end at-end (omega arith)
