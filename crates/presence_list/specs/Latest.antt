-- What the definition's list is: each card once, in order, and of each card its latest record.
use Rattle.std.specs.Prelude.{◌≡◌, refl, Bool, true, false, List, [], ◌∷◌, ℕ}
use Rattle.std.proofs.Common.{sym, ap, ◌∙◌}
use Rattle.errors.specs.Choice.{pick, same, same_self, same_is}
use Rattle.presence_list.specs.OrderLaws.{Compared, behind, equal, ahead, compared, first_not}
use Rattle.presence_list.specs.Keyed.{supersede, supersede_all, Below, Sorted, only}
use Rattle.presence_list.specs.KeyedLaws.{below_trans, supersede_sorted, all_sorted}
use Rattle.presence_list.specs.Presence.{Found, card, listed}

-- a record of this card
abbrev pub of_card : List ℕ → Found → Bool
of_card k f = same k (card f)

-- the last of some records alone, or what there was where they are none
unfoldable pub last_or : List Found → List Found → List Found
last_or l [] = l
last_or l (x ∷ xs) = last_or (x ∷ []) xs

none_below : (k : List ℕ) (l : List Found) → Below card k l → only (of_card k) l ≡ []
unfolding only pick
none_below k [] b = refl
none_below k (y ∷ ys) b = rw (first_not k (card y) b.0).1 (none_below k ys b.1)

of_own : (x : Found) (l : List Found) → Sorted card l → only (of_card (card x)) (supersede card x l) ≡ x ∷ []
unfolding supersede only pick
of_own x [] o = rw (same_self (card x))
of_own x (y ∷ ys) o = go (compared (card x) (card y)) (of_own x ys o.1)
  where
    go : Compared (card x) (card y) → only (of_card (card x)) (supersede card x ys) ≡ x ∷ [] → only (of_card (card x)) (supersede card x (y ∷ ys)) ≡ x ∷ []
    go (behind p q s) r = rw (p, s) r
    go (equal e p q s) r = rw (p, s, same_self (card x)) (ap (λ (l : List Found). x ∷ l) (none_below (card x) ys (rw e o.0)))
    go (ahead p q s) r =
        rw (p, s, same_self (card x)) (ap (λ (l : List Found). x ∷ l) (none_below (card x) (y ∷ ys) (q, below_trans card (card x) (card y) ys q o.0)))

-- another card's records stay as they are
of_other : (k : List ℕ) (x : Found) (l : List Found) → same k (card x) ≡ false → only (of_card k) (supersede card x l) ≡ only (of_card k) l
unfolding supersede only pick
of_other k x [] n = rw n
of_other k x (y ∷ ys) n = go (compared (card x) (card y)) (of_other k x ys n)
  where
    go : Compared (card x) (card y) → only (of_card k) (supersede card x ys) ≡ only (of_card k) ys → only (of_card k) (supersede card x (y ∷ ys)) ≡ only (of_card k) (y ∷ ys)
    go (behind p q s) r = rw p (ap (λ (l : List Found). pick (same k (card y)) (y ∷ l) l) r)
    go (equal e p q s) r = rw (p, s, n) (sym (ap (λ (t : Bool). pick t (y ∷ only (of_card k) ys) (only (of_card k) ys)) (ap (same k) (sym e) ∙ n)))
    go (ahead p q s) r = rw (p, s, n)

of_all : (k : List ℕ) (l xs : List Found) → Sorted card l → only (of_card k) (supersede_all card l xs) ≡ last_or (only (of_card k) l) (only (of_card k) xs)
unfolding supersede_all last_or only pick
of_all k l [] o = refl
of_all k l (x ∷ xs) o = of_all k (supersede card x l) xs (supersede_sorted card x l o) ∙ go (same k (card x)) refl
  where
    go : (t : Bool) → same k (card x) ≡ t
        → last_or (only (of_card k) (supersede card x l)) (only (of_card k) xs) ≡ last_or (only (of_card k) l) (pick (same k (card x)) (x ∷ only (of_card k) xs) (only (of_card k) xs))
    go true e =
        rw e
        (ap (λ (m : List Found). last_or m (only (of_card k) xs))
        (ap (λ (c : List ℕ). only (of_card c) (supersede card x l)) (same_is k (card x) e) ∙ of_own x l o))
    go false e = rw e (ap (λ (m : List Found). last_or m (only (of_card k) xs)) (of_other k x l e))

-- in order, and so no card twice
pub in_order : (found : List Found) → Sorted card (listed found)
unfolding listed
in_order found = all_sorted card [] found tt

-- of each card its latest record, and none of a card that was not found
pub latest_counts : (k : List ℕ) (found : List Found) → only (of_card k) (listed found) ≡ last_or [] (only (of_card k) found)
unfolding listed only
latest_counts k found = of_all k [] found tt
