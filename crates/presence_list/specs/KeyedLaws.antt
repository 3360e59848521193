-- Laws of lists in the order of their keys.
use Rattle.std.proofs.Math.Path.{◌≡◌, refl, sym, ap}
use Rattle.std.proofs.Common.{◌∙◌}
use Rattle.std.specs.Prelude.{Bool, get_or}
use Rattle.std.proofs.Math.Bool.{true, false, not}
use mathlib.Core.List.{List, [], ◌∷◌, ◌++◌, map}
use Prim.Native.Nat.{ℕ, zero, suc, ◌+◌, ◌≤◌, ◌<◌}
use native.Mathlib.Omega.{arith}
use Rattle.std.proofs.Math.ListN.{length, take, drop}
use Rattle.errors.specs.Choice.{pick, same, same_self}
use Rattle.presence_list.specs.Order.{before}
use Rattle.presence_list.specs.OrderLaws.{before_self, before_trans, first_not, Compared, behind, equal, ahead, compared}
use Rattle.presence_list.specs.Keyed.{All, supersede, supersede_all, has, without, place, Below, Sorted, only}

module _ {A : Type 0} (key : A → List ℕ) where
  pub below_trans : (i k : List ℕ) (l : List A) → before i k ≡ true → Below key k l → Below key i l
  below_trans i k [] h b = tt
  below_trans i k (y ∷ ys) h b = (before_trans i k (key y) h b.0, below_trans i k ys h b.1)

  below-supersede : (k : List ℕ) (x : A) (l : List A) → before k (key x) ≡ true → Below key k l → Below key k (supersede key x l)
  unfolding supersede pick
  below-supersede k x [] h b = (h, tt)
  below-supersede k x (y ∷ ys) h b = go (compared (key x) (key y)) (below-supersede k x ys h b.1)
    where
      go : Compared (key x) (key y) → Below key k (supersede key x ys) → Below key k (supersede key x (y ∷ ys))
      go (behind p q s) r = rw p (b.0, r)
      go (equal e p q s) r = rw (p, s) (h, b.1)
      go (ahead p q s) r = rw (p, s) (h, b)

  -- a list in order stays in order
  pub supersede_sorted : (x : A) (l : List A) → Sorted key l → Sorted key (supersede key x l)
  unfolding supersede pick
  supersede_sorted x [] o = (tt, tt)
  supersede_sorted x (y ∷ ys) o = go (compared (key x) (key y)) (supersede_sorted x ys o.1)
    where
      go : Compared (key x) (key y) → Sorted key (supersede key x ys) → Sorted key (supersede key x (y ∷ ys))
      go (behind p q s) r = rw p (below-supersede (key y) x ys p o.0, r)
      go (equal e p q s) r = rw (p, s) (rw e o.0, o.1)
      go (ahead p q s) r = rw (p, s) ((q, below_trans (key x) (key y) ys q o.0), o)

  pub all_sorted : (l xs : List A) → Sorted key l → Sorted key (supersede_all key l xs)
  unfolding supersede_all
  all_sorted l [] o = o
  all_sorted l (x ∷ xs) o = all_sorted (supersede key x l) xs (supersede_sorted x l o)

  pub supersede-all : (p : A → Type 0) (x : A) (l : List A) → p x → All p l → All p (supersede key x l)
  unfolding supersede pick
  supersede-all p x [] h a = (h, tt)
  supersede-all p x (y ∷ ys) h a = go (compared (key x) (key y)) (supersede-all p x ys h a.1)
    where
      go : Compared (key x) (key y) → All p (supersede key x ys) → All p (supersede key x (y ∷ ys))
      go (behind b q s) r = rw b (a.0, r)
      go (equal e b q s) r = rw (b, s) (h, a.1)
      go (ahead b q s) r = rw (b, s) (h, a)

  pub all-all : (p : A → Type 0) (l xs : List A) → All p l → All p xs → All p (supersede_all key l xs)
  unfolding supersede_all
  all-all p l [] a b = a
  all-all p l (x ∷ xs) a b = all-all p (supersede key x l) xs (supersede-all p x l b.0 a) b.1

  pub all_append : (l xs ys : List A) → supersede_all key l (xs ++ ys) ≡ supersede_all key (supersede_all key l xs) ys
  unfolding supersede_all
  all_append l [] ys = refl
  all_append l (x ∷ xs) ys = all_append (supersede key x l) xs ys

  -- it grows by one at most, and never shrinks
  pub supersede_grows : (x : A) (l : List A) → (length l ≤ length (supersede key x l)) × (length (supersede key x l) ≤ length l + 1)
  unfolding supersede pick
  supersede_grows x [] = (omega arith, omega arith)
  supersede_grows x (y ∷ ys) = go (compared (key x) (key y)) (supersede_grows x ys)
    where
      go : Compared (key x) (key y) → (length ys ≤ length (supersede key x ys)) × (length (supersede key x ys) ≤ length ys + 1)
          → (length (y ∷ ys) ≤ length (supersede key x (y ∷ ys))) × (length (supersede key x (y ∷ ys)) ≤ length (y ∷ ys) + 1)
      go (behind p q s) r = rw p (omega arith, omega arith)
      go (equal e p q s) r = rw (p, s) (omega arith, omega arith)
      go (ahead p q s) r = rw (p, s) (omega arith, omega arith)

  pub all_grows : (l xs : List A) → length l ≤ length (supersede_all key l xs)
  unfolding supersede_all
  all_grows l [] = omega arith
  all_grows l (x ∷ xs) = let g = supersede_grows x l in let r = all_grows (supersede key x l) xs in omega arith

  pub supersede_below : (x : A) (l : List A) → Below key (key x) l → supersede key x l ≡ x ∷ l
  unfolding supersede pick
  supersede_below x [] b = refl
  supersede_below x (y ∷ ys) b = let f = first_not (key x) (key y) b.0 in rw (f.0, f.1)

  has-not-below : (k : List ℕ) (l : List A) → Below key k l → has key k l ≡ false
  unfolding has pick
  has-not-below k [] b = refl
  has-not-below k (y ∷ ys) b = rw (first_not k (key y) b.0).1 (has-not-below k ys b.1)

  -- the place
  pub place_le : (k : List ℕ) (l : List A) → place key k l ≤ length l
  unfolding place pick
  place_le k [] = omega arith
  place_le k (y ∷ ys) = go (before (key y) k) (place_le k ys)
    where
      go : (t : Bool) → place key k ys ≤ length ys → pick t (suc (place key k ys)) 0 ≤ suc (length ys)
      go true r = omega arith
      go false r = omega arith

  pub place_not : (k : List ℕ) (l : List A) (d : A) (i : ℕ) → i < length l → before (key (get_or l i d)) k ≡ false → place key k l ≤ i
  unfolding place pick
  place_not k [] d i h b = omega arith
  place_not k (y ∷ ys) d zero h b = rw b (omega arith)
  place_not k (y ∷ ys) d (suc i) h b = go (before (key y) k) (place_not k ys d i (omega arith) b)
    where
      go : (t : Bool) → place key k ys ≤ i → pick t (suc (place key k ys)) 0 ≤ suc i
      go true r = omega arith
      go false r = omega arith

  pub below_at : (k : List ℕ) (l : List A) (d : A) (i : ℕ) → i < length l → Below key k l → before k (key (get_or l i d)) ≡ true
  below_at k [] d i h b = absurd (omega arith)
  below_at k (y ∷ ys) d zero h b = b.0
  below_at k (y ∷ ys) d (suc i) h b = below_at k ys d i (omega arith) b.1

  pub place-behind : (k : List ℕ) (l : List A) (d : A) (i : ℕ) → Sorted key l → i < length l → before (key (get_or l i d)) k ≡ true → i < place key k l
  unfolding place pick
  place-behind k [] d i o h b = absurd (omega arith)
  place-behind k (y ∷ ys) d zero o h b = rw b (omega arith)
  place-behind k (y ∷ ys) d (suc i) o h b =
      let r = place-behind k ys d i o.1 (omega arith) b in
      rw (before_trans (key y) (key (get_or ys i d)) k (below_at (key y) ys d i (omega arith) o.0) b) (omega arith)

  -- whether a key is there is seen at its place
  pub has-at : (k : List ℕ) (l : List A) (d : A) → Sorted key l → place key k l < length l → has key k l ≡ not (before k (key (get_or l (place key k l) d)))
  unfolding place has pick
  has-at k [] d o h = absurd (omega arith)
  has-at k (y ∷ ys) d o h = go (compared k (key y)) (has-at k ys d o.1) h
    where
      go : Compared k (key y) → (place key k ys < length ys → has key k ys ≡ not (before k (key (get_or ys (place key k ys) d))))
          → pick (before (key y) k) (suc (place key k ys)) 0 < suc (length ys)
          → pick (same k (key y)) true (has key k ys) ≡ not (before k (key (get_or (y ∷ ys) (pick (before (key y) k) (suc (place key k ys)) 0) d)))
      go (behind p q s) f h = let l : place key k ys < length ys = omega (arith, rw p at h) in rw (p, s) (f l)
      go (equal e p q s) f h = rw (p, s, q)
      go (ahead p q s) f h = rw (p, s, q) (has-not-below k ys (below_trans k (key y) ys q o.0))

  pub has_not_end : (k : List ℕ) (l : List A) → length l ≤ place key k l → has key k l ≡ false
  unfolding place has pick
  has_not_end k [] h = refl
  has_not_end k (y ∷ ys) h = go (compared k (key y)) (has_not_end k ys) h
    where
      go : Compared k (key y) → (length ys ≤ place key k ys → has key k ys ≡ false) → suc (length ys) ≤ pick (before (key y) k) (suc (place key k ys)) 0
          → pick (same k (key y)) true (has key k ys) ≡ false
      go (behind p q s) f h = let l : length ys ≤ place key k ys = omega (arith, rw p at h) in rw s (f l)
      go (equal e p q s) f h = absurd (omega (arith, rw p at h))
      go (ahead p q s) f h = absurd (omega (arith, rw p at h))

  -- of two, the one that stands before the other comes before it
  pub sorted_at : (l : List A) (d : A) (i j : ℕ) → Sorted key l → i < j → j < length l → before (key (get_or l i d)) (key (get_or l j d)) ≡ true
  sorted_at [] d i j o h m = absurd (omega arith)
  sorted_at (y ∷ ys) d zero zero o h m = absurd (omega arith)
  sorted_at (y ∷ ys) d zero (suc j) o h m = below_at (key y) ys d j (omega arith) o.0
  sorted_at (y ∷ ys) d (suc i) zero o h m = absurd (omega arith)
  sorted_at (y ∷ ys) d (suc i) (suc j) o h m = sorted_at ys d i j o.1 (omega arith) (omega arith)

  -- where a key is
  pub found_at : (k : List ℕ) (l : List A) (d : A) (i : ℕ) → Sorted key l → i < length l → key (get_or l i d) ≡ k → (i ≡ place key k l) × (has key k l ≡ true)
  unfolding place has pick
  found_at k [] d i o h e = absurd (omega arith)
  found_at k (y ∷ ys) d zero o h e = rw (e, before_self k, same_self k) (refl, refl)
  found_at k (y ∷ ys) d (suc i) o h e = go (compared k (key y)) (rw e at (below_at (key y) ys d i (omega arith) o.0)) (found_at k ys d i o.1 (omega arith) e)
    where
      go : Compared k (key y) → before (key y) k ≡ true → (i ≡ place key k ys) × (has key k ys ≡ true)
          → (suc i ≡ pick (before (key y) k) (suc (place key k ys)) 0) × (pick (same k (key y)) true (has key k ys) ≡ true)
      go (behind p q s) b r = rw (p, s) (ap suc r.0, r.1)
      go (equal e p q s) b r = (cc, cc)
      go (ahead p q s) b r = (cc, cc)

  -- and where it would be
  pub missing_at : (k : List ℕ) (l : List A) (d : A) (i : ℕ) → i ≤ length l → ((j : ℕ) → j < i → before (key (get_or l j d)) k ≡ true)
      → ((j : ℕ) → i ≤ j → j < length l → before k (key (get_or l j d)) ≡ true) → (i ≡ place key k l) × (has key k l ≡ false)
  unfolding place has pick
  missing_at k [] d i h f g = (omega arith, refl)
  missing_at k (y ∷ ys) d zero h f g =
      let n = first_not k (key y) (g 0 (omega arith) (omega arith)) in
      rw (n.0, n.1) (refl, (missing_at k ys d 0 (omega arith) (λ j l. absurd (omega arith)) (λ j l m. g (suc j) (omega arith) (omega arith))).1)
  missing_at k (y ∷ ys) d (suc i) h f g =
      go (compared k (key y)) (f 0 (omega arith)) (missing_at k ys d i (omega arith) (λ j l. f (suc j) (omega arith)) (λ j l m. g (suc j) (omega arith) (omega arith)))
    where
      go : Compared k (key y) → before (key y) k ≡ true → (i ≡ place key k ys) × (has key k ys ≡ false)
          → (suc i ≡ pick (before (key y) k) (suc (place key k ys)) 0) × (pick (same k (key y)) true (has key k ys) ≡ false)
      go (behind p q s) b r = rw (p, s) (ap suc r.0, r.1)
      go (equal e p q s) b r = (cc, cc)
      go (ahead p q s) b r = (cc, cc)

  -- what supersedes goes to its place
  pub supersede_new : (x : A) (l : List A) → has key (key x) l ≡ false → supersede key x l ≡ take (place key (key x) l) l ++ x ∷ drop (place key (key x) l) l
  unfolding supersede place has pick
  supersede_new x [] h = refl
  supersede_new x (y ∷ ys) h = go (compared (key x) (key y)) (supersede_new x ys) h
    where
      go : Compared (key x) (key y) → (has key (key x) ys ≡ false → supersede key x ys ≡ take (place key (key x) ys) ys ++ x ∷ drop (place key (key x) ys) ys)
          → pick (same (key x) (key y)) true (has key (key x) ys) ≡ false
          → pick (before (key y) (key x)) (y ∷ supersede key x ys) (x ∷ pick (same (key x) (key y)) ys (y ∷ ys))
          ≡ take (pick (before (key y) (key x)) (suc (place key (key x) ys)) 0) (y ∷ ys) ++ x ∷ drop (pick (before (key y) (key x)) (suc (place key (key x) ys)) 0) (y ∷ ys)
      go (behind p q s) f h = rw p (ap (λ (l : List A). y ∷ l) (f (rw s at h)))
      go (equal e p q s) f h = let bad : ◌≡◌ {A = Bool} true false = rw s at h in cc
      go (ahead p q s) f h = rw (p, s)

  pub supersede_old : (x : A) (l : List A) → Sorted key l → has key (key x) l ≡ true
      → (place key (key x) l < length l) × (supersede key x l ≡ take (place key (key x) l) l ++ x ∷ drop (suc (place key (key x) l)) l)
  unfolding supersede place has pick
  supersede_old x [] o h = let bad : ◌≡◌ {A = Bool} false true = h in (absurd (never bad), cc)
    where
      never : ◌≡◌ {A = Bool} false true → ⊥
      never b = let z : ◌≡◌ {A = ℕ} 0 1 = cc in omega arith
  supersede_old x (y ∷ ys) o h = go (compared (key x) (key y)) (supersede_old x ys o.1) h
    where
      go : Compared (key x) (key y)
          → (has key (key x) ys ≡ true → (place key (key x) ys < length ys) × (supersede key x ys ≡ take (place key (key x) ys) ys ++ x ∷ drop (suc (place key (key x) ys)) ys))
          → pick (same (key x) (key y)) true (has key (key x) ys) ≡ true
          → (pick (before (key y) (key x)) (suc (place key (key x) ys)) 0 < suc (length ys))
          × (pick (before (key y) (key x)) (y ∷ supersede key x ys) (x ∷ pick (same (key x) (key y)) ys (y ∷ ys))
          ≡ take (pick (before (key y) (key x)) (suc (place key (key x) ys)) 0) (y ∷ ys) ++ x ∷ drop (suc (pick (before (key y) (key x)) (suc (place key (key x) ys)) 0)) (y ∷ ys))
      go (behind p q s) f h = let r = f (rw s at h) in rw p (omega arith, ap (λ (l : List A). y ∷ l) r.1)
      go (equal e p q s) f h = rw (p, s) (omega arith, refl)
      go (ahead p q s) f h =
          let none = has-not-below (key x) ys (below_trans (key x) (key y) ys q o.0) in
          let bad : ◌≡◌ {A = Bool} false true = sym none ∙ (rw s at h) in
          (absurd (never bad), cc)
        where
          never : ◌≡◌ {A = Bool} false true → ⊥
          never b = let z : ◌≡◌ {A = ℕ} 0 1 = cc in omega arith

  -- a part of a list in order
  below-only : (q : A → Bool) (k : List ℕ) (l : List A) → Below key k l → Below key k (only q l)
  unfolding only pick
  below-only q k [] b = tt
  below-only q k (y ∷ ys) b = go (q y) (below-only q k ys b.1)
    where
      go : (t : Bool) → Below key k (only q ys) → Below key k (pick t (y ∷ only q ys) (only q ys))
      go true r = (b.0, r)
      go false r = r

  pub only-supersede : (q : A → Bool) (x : A) (l : List A) → q x ≡ true → Sorted key l → only q (supersede key x l) ≡ supersede key x (only q l)
  unfolding supersede only pick
  only-supersede q x [] h o = rw h
  only-supersede q x (y ∷ ys) h o = go (compared (key x) (key y)) (q y) refl (only-supersede q x ys h o.1)
    where
      go : Compared (key x) (key y) → (t : Bool) → q y ≡ t → only q (supersede key x ys) ≡ supersede key x (only q ys)
          → only q (supersede key x (y ∷ ys)) ≡ supersede key x (pick (q y) (y ∷ only q ys) (only q ys))
      go (behind p z s) true e r = rw (p, e, p, r)
      go (behind p z s) false e r = rw (p, e, r)
      go (equal d p z s) true e r = rw (p, s, h, e, p, s)
      go (equal d p z s) false e r = rw (p, s, h, e) (sym (supersede_below x (only q ys) (below-only q (key x) ys (rw d o.0))))
      go (ahead p z s) t e r =
          rw (p, s, h)
          (sym (supersede_below x (only q (y ∷ ys)) (below-only q (key x) (y ∷ ys) (z, below_trans (key x) (key y) ys z o.0))))

-- by another form of the same things
module _ {A B : Type 0} (key : A → List ℕ) (key' : B → List ℕ) (f : A → B) (keeps : (a : A) → key' (f a) ≡ key a) where
  pub map-supersede : (x : A) (l : List A) → map f (supersede key x l) ≡ supersede key' (f x) (map f l)
  unfolding supersede pick
  map-supersede x [] = refl
  map-supersede x (y ∷ ys) = rw (keeps x, keeps y) (go (before (key y) (key x)) (same (key x) (key y)) (map-supersede x ys))
    where
      go : (s t : Bool) → map f (supersede key x ys) ≡ supersede key' (f x) (map f ys)
          → map f (pick s (y ∷ supersede key x ys) (x ∷ pick t ys (y ∷ ys))) ≡ pick s (f y ∷ supersede key' (f x) (map f ys)) (f x ∷ pick t (map f ys) (f y ∷ map f ys))
      go true t r = ap (λ (l : List B). f y ∷ l) r
      go false true r = refl
      go false false r = refl

  pub map-all : (l xs : List A) → map f (supersede_all key l xs) ≡ supersede_all key' (map f l) (map f xs)
  unfolding supersede_all
  map-all l [] = refl
  map-all l (x ∷ xs) = map-all (supersede key x l) xs ∙ ap (λ (m : List B). supersede_all key' m (map f xs)) (map-supersede x l)

  pub map-has : (k : List ℕ) (l : List A) → has key k l ≡ has key' k (map f l)
  unfolding has
  map-has k [] = refl
  map-has k (y ∷ ys) = rw (keeps y, map-has k ys)

  pub map-without : (other l : List A) → map f (without key other l) ≡ without key' (map f other) (map f l)
  unfolding without pick
  map-without other [] = refl
  map-without other (x ∷ xs) = rw (keeps x, ← map-has (key x) other) (go (has key (key x) other) (map-without other xs))
    where
      go : (t : Bool) → map f (without key other xs) ≡ without key' (map f other) (map f xs)
          → map f (pick t (without key other xs) (x ∷ without key other xs)) ≡ pick t (without key' (map f other) (map f xs)) (f x ∷ without key' (map f other) (map f xs))
      go true r = r
      go false r = ap (λ (l : List B). f x ∷ l) r
