-- Laws of `starts`, byte by byte and as a whole, and of `same`.
use Rattle.std.specs.Prelude.{◌≡◌, ℕ, zero, suc, ◌<◌, Bool, true, false, List, [], ◌∷◌, ◌++◌, length, take, drop, ◌==◌, ◌≢◌, slice_index, refl}
use Rattle.std.proofs.Math.Path.{sym}
use Rattle.std.proofs.Common.{ap, ap₂, ◌∙◌, append-nil, arith, not-suc-le-zero, le_of_suc-le-suc, eq-eqb, eqb-true}
use Rattle.std.proofs.lemmas.Bool.{false≢true}
use Rattle.std.proofs.Math.ListN.{drop_of_length-le}
use Rattle.std.proofs.Math.Seq.{drop-cons}
use Rattle.errors.specs.Choice.{same, same_self, same_not}
use Rattle.framing.specs.Lists.{starts, both, both_assoc, both_false_r}

pub starts-append : (f g p : List ℕ) → starts (f ++ g) p ≡ both (starts f p) (starts g (drop (length f) p))
unfolding starts
starts-append [] g p = refl
starts-append (x ∷ f) g [] = refl
starts-append (x ∷ f) g (y ∷ p) = ap (λ t. both (x == y) t) (starts-append f g p) ∙ sym (both_assoc (x == y) (starts f p) (starts g (drop (length f) p)))

pub starts_cons : (x : ℕ) (f p : List ℕ) (k : ℕ) → k < length p → starts (x ∷ f) (drop k p) ≡ both (x == slice_index p k) (starts f (drop (suc k) p))
unfolding starts
starts_cons x f p k h = rw (drop-cons p k 0)

pub starts-take : (n : ℕ) (p : List ℕ) → starts (take n p) p ≡ true
unfolding starts
starts-take zero p = refl
starts-take (suc n) [] = refl
starts-take (suc n) (x ∷ p) = rw (eq-eqb x x refl) (starts-take n p)

-- a list starts with none that is longer
pub starts_long : (f p : List ℕ) → length p < length f → starts f p ≡ false
unfolding starts
starts_long [] p h = absurd (not-suc-le-zero h)
starts_long (x ∷ f) [] h = refl
starts_long (x ∷ f) (y ∷ p) h = both_false_r (x == y) (starts f p) (starts_long f p (le_of_suc-le-suc h))

pub starts_whole : (f r : List ℕ) → starts f (f ++ r) ≡ true
unfolding starts
starts_whole [] r = refl
starts_whole (x ∷ f) r = rw (eq-eqb x x refl) (starts_whole f r)

pub starts_self : (f : List ℕ) → starts f f ≡ true
starts_self f = ap (starts f) (sym (append-nil f)) ∙ starts_whole f []

-- a packet that starts with f is f and the rest
pub starts_split : (f p : List ℕ) → starts f p ≡ true → p ≡ f ++ drop (length f) p
unfolding starts
starts_split [] p h = refl
starts_split (x ∷ f) [] h = absurd (false≢true h)
starts_split (x ∷ f) (y ∷ p) h = go (x == y) refl h (starts_split f p)
  where
    go : (t : Bool) → (x == y) ≡ t → both t (starts f p) ≡ true → (starts f p ≡ true → p ≡ f ++ drop (length f) p) → y ∷ p ≡ x ∷ (f ++ drop (length f) p)
    go true e k again = ap₂ (λ a l. a ∷ l) (sym (eqb-true x y e)) (again k)
    go false e k again = absurd (false≢true k)

-- two lists are the same where their lengths are and one starts with the other
pub same_length : (f p : List ℕ) → (length p ≢ length f) → false ≡ same f p
same_length f p n = sym (same_not f p (λ e. n (ap length (sym e))))

pub same-starts : (f p : List ℕ) (r : Bool) → length p ≡ length f → r ≡ starts f p → r ≡ same f p
same-starts f p r n h = h ∙ go (starts f p) refl
  where
    go : (t : Bool) → starts f p ≡ t → t ≡ same f p
    go true e = let q : p ≡ f = starts_split f p e ∙ ap (λ l. f ++ l) (drop_of_length-le p {i = length f} (omega arith)) ∙ append-nil f in rw q (sym (same_self f))
    go false e = sym (same_not f p (λ q. false≢true (sym e ∙ ap (λ l. starts f l) (sym q) ∙ starts_self f)))
