-- A table as a text: its fields, each of which ends with `|` (124).
use Rattle.std.specs.Prelude.{◌≡◌, refl, Bool, true, false, List, [], ◌∷◌, ℕ, zero, suc, ◌+◌, ◌-◌, ◌≤◌, ◌<◌, eqb, ltb, length, take, drop}
use Rattle.std.proofs.Math.Path.{sym, ap}
use Rattle.std.proofs.Common.{◌∙◌, arith, ltb-true, ltb-false, drop_of_length-le, length-drop, drop-drop}
use Rattle.std.proofs.Math.ListN.{get_or}
use Rattle.std.proofs.Math.Seq.{take-length}
use Rattle.octets.specs.Bytes.{index_of, index_after, slice}
use Rattle.errors.specs.Choice.{pick}
use Rattle.bench.specs.Words.{ahead}

unfoldable pub fields_of : List ℕ → List (List ℕ)
fields_of [] = []
fields_of (b ∷ l) = pick (eqb b 124) ([] ∷ fields_of l) (ahead b (fields_of l))

-- ---- laws

first-ahead : (b : ℕ) (ws : List (List ℕ)) → get_or (ahead b ws) 0 [] ≡ b ∷ get_or ws 0 []
unfolding ahead
first-ahead b [] = refl
first-ahead b (w ∷ ws) = refl

later-ahead : (b k : ℕ) (ws : List (List ℕ)) → get_or (ahead b ws) (suc k) [] ≡ get_or ws (suc k) []
unfolding ahead
later-ahead b k [] = refl
later-ahead b k (w ∷ ws) = refl

-- the first field ends at the first `|`
first_field : (l : List ℕ) → index_of 124 l < length l → fields_of l ≡ take (index_of 124 l) l ∷ fields_of (drop (index_of 124 l + 1) l)
unfolding fields_of pick ahead index_of index_after
first_field [] h = absurd (omega arith)
first_field (b ∷ l) h = go (eqb b 124) h (first_field l)
  where
    go : (t : Bool) → index_after t (index_of 124 l) < suc (length l) → (index_of 124 l < length l → fields_of l ≡ take (index_of 124 l) l ∷ fields_of (drop (index_of 124 l + 1) l))
        → pick t ([] ∷ fields_of l) (ahead b (fields_of l)) ≡ take (index_after t (index_of 124 l)) (b ∷ l) ∷ fields_of (drop (index_after t (index_of 124 l) + 1) (b ∷ l))
    go true i again = refl
    go false i again = let z : suc (index_of 124 l) + 1 ≡ suc (index_of 124 l + 1) = omega arith in rw z (ap (ahead b) (again (omega arith)))

-- without a `|` all is one field
abbrev OneField : List ℕ → Type 0
OneField l = (get_or (fields_of l) 0 [] ≡ l) × ((k : ℕ) → get_or (fields_of l) (suc k) [] ≡ [])

one_field : (l : List ℕ) → index_of 124 l ≡ length l → OneField l
unfolding fields_of pick index_of index_after
one_field [] h = (refl, λ k. refl)
one_field (b ∷ l) h = go (eqb b 124) h (one_field l)
  where
    go : (t : Bool) → index_after t (index_of 124 l) ≡ suc (length l) → (index_of 124 l ≡ length l → OneField l)
        → (get_or (pick t ([] ∷ fields_of l) (ahead b (fields_of l))) 0 [] ≡ b ∷ l) × ((k : ℕ) → get_or (pick t ([] ∷ fields_of l) (ahead b (fields_of l))) (suc k) [] ≡ [])
    go true i again = absurd (omega arith)
    go false i again =
        let f = again (omega arith) in
        (first-ahead b (fields_of l) ∙ ap (λ x. b ∷ x) f.0, λ k. later-ahead b k (fields_of l) ∙ f.1 k)

-- nothing has no fields
no_fields : (n : ℕ) → get_or (fields_of []) n [] ≡ []
unfolding fields_of
no_fields zero = refl
no_fields (suc n) = refl

-- the field that starts at a place ends at the next `|`, or at the table's end
module _ (l : List ℕ) (at end : ℕ) (within : at ≤ length l) (found : end ≡ at + index_of 124 (slice at (length l) l)) where
  distance : end ≡ at + index_of 124 (drop at l)
  unfolding slice
  distance = found ∙ ap (λ x. at + index_of 124 (drop at x)) (take-length l)

  next_field : end < length l → fields_of (drop at l) ≡ take (end - at) (drop at l) ∷ fields_of (drop (end + 1) l)
  next_field h =
      let n : ℕ = index_of 124 (drop at l) in
      let d : end ≡ at + n = distance in
      let size : end - at ≡ n = omega arith in
      let k : n < length (drop at l) = rw (length-drop at l) (omega arith) in
      let z : at + (n + 1) ≡ end + 1 = omega arith in
      first_field (drop at l) k ∙ rw (size, drop-drop (n + 1) at l, z)

  last-field : end ≡ length l → OneField (drop at l)
  last-field h = let d : end ≡ at + index_of 124 (drop at l) = distance in one_field (drop at l) (rw (length-drop at l) (omega arith))

  pub field_there : end ≤ length l → take (end - at) (drop at l) ≡ get_or (fields_of (drop at l)) 0 []
  field_there h = go (ltb end (length l)) refl
    where
      go : (t : Bool) → ltb end (length l) ≡ t → take (end - at) (drop at l) ≡ get_or (fields_of (drop at l)) 0 []
      go true e = sym (ap (λ x. get_or x 0 []) (next_field (ltb-true end (length l) e)))
      go false e =
          let m : end ≡ length l = omega (arith, ltb-false end (length l) e) in
          let size : end - at ≡ length (drop at l) = rw (length-drop at l) (omega arith) in
          ap (λ k. take k (drop at l)) size ∙ take-length (drop at l) ∙ sym (last-field m).0

  -- `left` fields more are to be passed to come to the field w
  module _ (left : ℕ) (w : List ℕ) (is_field : get_or (fields_of (drop at l)) left [] ≡ w) (more : 0 < left) where
    one_less : (k : ℕ) → 0 < k → suc (k - 1) ≡ k
    one_less k h = omega arith

    pub field_passed : (m : ℕ) → (end ≡ length l → ⊥) → end ≤ length l → m ≡ left - 1 → get_or (fields_of (drop (end + 1) l)) m [] ≡ w
    field_passed m n u e = let h : end < length l = omega arith in rw e (ap (λ x. get_or x (suc (left - 1)) []) (sym (next_field h)) ∙ ap (λ k. get_or (fields_of (drop at l)) k []) (one_less left more) ∙ is_field)

    pub no_field : end ≡ length l → get_or (fields_of (drop end l)) 0 [] ≡ w
    unfolding fields_of
    no_field h =
        ap (λ x. get_or (fields_of x) 0 []) (drop_of_length-le l {i = end} (omega arith)) ∙ sym ((last-field h).1 (left - 1)) ∙ ap (λ k. get_or (fields_of (drop at l)) k []) (one_less left more) ∙ is_field

    -- nor is there any behind it
    pub none_behind : end ≡ length l → (j : ℕ) → get_or (fields_of (drop end l)) j [] ≡ w
    none_behind h j = all_empty j ∙ sym (all_empty 0) ∙ no_field h
      where
        all_empty : (n : ℕ) → get_or (fields_of (drop end l)) n [] ≡ []
        all_empty n = ap (λ x. get_or (fields_of x) n []) (drop_of_length-le l {i = end} (omega arith)) ∙ no_fields n

pub field_here : (l : List ℕ) (at left : ℕ) (w : List ℕ) → get_or (fields_of (drop at l)) left [] ≡ w → left ≤ 0 → get_or (fields_of (drop at l)) 0 [] ≡ w
field_here l at left w e h = let z : left ≡ 0 = omega arith in ap (λ k. get_or (fields_of (drop at l)) k []) (sym z) ∙ e
