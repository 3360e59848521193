-- Laws of the order of texts: it is strict, and of two texts one comes first or they are the same.
use Rattle.std.specs.Prelude.{◌≡◌, refl, Bool, true, false, List, [], ◌∷◌, ℕ, ltb, eqb}
use Rattle.std.proofs.Common.{sym, ap₂, ◌∙◌, arith, lt-ltb, le-ltb, eq-eqb, ne_eqb, ltb-true, ltb-false}
use Rattle.std.proofs.lemmas.Cmp.{same_from_slice_cmp, same_from_slice_cmp_tested}
use Rattle.std.specs.Cmp.Lexicographic.{slice_cmp, slice_partial_cmp}
use Rattle.std.specs.Ordering.{nat_cmp, is_lt, is_gt, is_some_and}
use Rattle.std.specs.declared.cmp.Ordering.{Ordering}
use Rattle.std.proofs.lemmas.Bool.Decides.{nat_tests}
use Rattle.std.specs.Prelude.{Some}
use Rattle.errors.specs.Choice.{pick, same}
use Rattle.presence_list.specs.Order.{before}

-- how two numbers compare
pub data Numbers (x y : ℕ) : Type 0 where
  less : eqb x y ≡ false → eqb y x ≡ false → ltb x y ≡ true → ltb y x ≡ false → Numbers x y
  even : x ≡ y → Numbers x y
  more : eqb x y ≡ false → eqb y x ≡ false → ltb x y ≡ false → ltb y x ≡ true → Numbers x y

pub numbers : (x y : ℕ) → Numbers x y
numbers x y = go (ltb x y) (ltb y x) refl refl
  where
    go : (s t : Bool) → ltb x y ≡ s → ltb y x ≡ t → Numbers x y
    go true t p q =
        let l = ltb-true x y p in
        less (ne_eqb x y (λ e. omega arith)) (ne_eqb y x (λ e. omega arith)) p (le-ltb y x (omega arith))
    go false true p q =
        let l = ltb-true y x q in
        more (ne_eqb x y (λ e. omega arith)) (ne_eqb y x (λ e. omega arith)) p q
    go false false p q =
        let l = ltb-false x y p in
        let m = ltb-false y x q in
        even (omega arith)

pub before_self : (a : List ℕ) → before a a ≡ false
unfolding before pick
before_self [] = refl
before_self (x ∷ xs) = rw (eq-eqb x x refl) (before_self xs)

pub before_trans : (a b c : List ℕ) → before a b ≡ true → before b c ≡ true → before a c ≡ true
unfolding before pick
before_trans [] [] c p q = cc
before_trans [] (y ∷ ys) [] p q = cc
before_trans [] (y ∷ ys) (z ∷ zs) p q = refl
before_trans (x ∷ xs) [] c p q = cc
before_trans (x ∷ xs) (y ∷ ys) [] p q = cc
before_trans (x ∷ xs) (y ∷ ys) (z ∷ zs) p q = go (numbers x y) (numbers y z) p q (before_trans xs ys zs)
  where
    go : Numbers x y → Numbers y z → pick (eqb x y) (before xs ys) (ltb x y) ≡ true → pick (eqb y z) (before ys zs) (ltb y z) ≡ true
        → (before xs ys ≡ true → before ys zs ≡ true → before xs zs ≡ true) → pick (eqb x z) (before xs zs) (ltb x z) ≡ true
    go (more a b l m) n p q f = let bad : ◌≡◌ {A = Bool} false true = sym l ∙ (rw a at p) in cc
    go (less a b l m) (more d e u v) p q f = let bad : ◌≡◌ {A = Bool} false true = sym u ∙ (rw d at q) in cc
    go (even e) (more d e' u v) p q f = let bad : ◌≡◌ {A = Bool} false true = sym u ∙ (rw d at q) in cc
    go (less a b l m) (less d e u v) p q f =
        let i = ltb-true x y l in
        let j = ltb-true y z u in
        rw (ne_eqb x z (λ w. omega arith)) (lt-ltb x z (omega arith))
    go (less a b l m) (even e) p q f = rw (sym e, a) l
    go (even e) (less a b l m) p q f = rw (e, a) l
    go (even e) (even d) p q f = rw (eq-eqb x z (e ∙ d)) (f (rw (eq-eqb x y e) at p) (rw (eq-eqb y z d) at q))

-- how two texts compare
pub data Compared (k j : List ℕ) : Type 0 where
  behind : before j k ≡ true → before k j ≡ false → same k j ≡ false → Compared k j
  equal : k ≡ j → before j k ≡ false → before k j ≡ false → same k j ≡ true → Compared k j
  ahead : before j k ≡ false → before k j ≡ true → same k j ≡ false → Compared k j

pub compared : (k j : List ℕ) → Compared k j
unfolding before same pick
compared [] [] = equal refl refl refl refl
compared [] (y ∷ ys) = ahead refl refl refl
compared (x ∷ xs) [] = behind refl refl refl
compared (x ∷ xs) (y ∷ ys) = go (numbers x y) (compared xs ys)
  where
    go : Numbers x y → Compared xs ys → Compared (x ∷ xs) (y ∷ ys)
    go (less a b l m) c = ahead (rw b m) (rw a l) (rw a)
    go (more a b l m) c = behind (rw b m) (rw a l) (rw a)
    go (even e) (behind p q s) = behind (rw (eq-eqb y x (sym e)) p) (rw (eq-eqb x y e) q) (rw (eq-eqb x y e) s)
    go (even e) (equal f p q s) = equal (ap₂ (λ i l. i ∷ l) e f) (rw (eq-eqb y x (sym e)) p) (rw (eq-eqb x y e) q) (rw (eq-eqb x y e) s)
    go (even e) (ahead p q s) = ahead (rw (eq-eqb y x (sym e)) p) (rw (eq-eqb x y e) q) (rw (eq-eqb x y e) s)

-- what comes first does not come behind, nor is it the same
pub first_not : (k j : List ℕ) → before k j ≡ true → (before j k ≡ false) × (same k j ≡ false)
first_not k j h = go (compared k j)
  where
    go : Compared k j → (before j k ≡ false) × (same k j ≡ false)
    go (behind p q s) = (cc, cc)
    go (equal e p q s) = (cc, cc)
    go (ahead p q s) = (p, s)

-- the library's order is the same
pub is_before : (a b : List ℕ) (r : Bool) → r ≡ is_some_and is_lt (slice_partial_cmp (λ x y. Some (nat_cmp x y)) a b) → r ≡ before a b
unfolding before pick
is_before = same_from_slice_cmp_tested nat_cmp is_lt before refl (λ _ _. refl) (λ _ _. refl) (λ x y xs ys o h. grind (arith, nat_tests))

pub lt_before : (a b : List ℕ) (r : Ordering) → r ≡ slice_cmp nat_cmp a b → is_lt r ≡ before a b
unfolding before pick
lt_before = same_from_slice_cmp nat_cmp is_lt before refl (λ _ _. refl) (λ _ _. refl) (λ x y xs ys o h. grind (arith, nat_tests))

pub gt_before : (a b : List ℕ) (r : Ordering) → r ≡ slice_cmp nat_cmp a b → is_gt r ≡ before b a
unfolding before pick
gt_before = same_from_slice_cmp nat_cmp is_gt (λ a b. before b a) refl (λ _ _. refl) (λ _ _. refl) (λ x y xs ys o h. grind (arith, nat_tests))
