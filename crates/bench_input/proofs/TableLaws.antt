-- Laws of the row that is found for a line.
use mathlib.Core.Path.{◌≡◌, refl, sym, ◌∙◌}
use mathlib.Core.Bool.{Bool, true, false}
use mathlib.Core.List.{List, [], ◌∷◌, map}
use mathlib.Core.Option.{none, some}
use Prim.Native.Nat.{ℕ, ◌+◌, ◌≤◌, ◌<◌}
use native.Mathlib.Numerals.{add-one}
use native.Mathlib.Omega.{arith}
use borrow.Author.Tests.{eq-eqb, ne_eqb, eqb-true}
use lib.ListN.{length, get_or, drop, drop_of_length-le}
use lib.Seq.{drop-cons}
use Rattle.errors.specs.Choice.{pick, same}
use Rattle.framing.specs.Lists.{both_false_r}
use Rattle.bench_input.specs.Table.{LineRow, is_for_of, row_for}
use Rattle.bench_input.specs.Readings.{row_in}
use Rattle.bench_input.specs.Lines.{both_parts}
use Rattle.bench_input.specs.declared.table.Row.{Row}

-- the row i is looked at, and none before it was the row
module _ (rows : List Row) (name : List ℕ) (n i : ℕ) (before : row_for (map row_in rows) name n ≡ row_for (map row_in (drop i rows)) name n) where
  module _ (d : Row) (inside : i < length rows) where
    here : row_for (map row_in rows) name n
        ≡ pick (is_for_of (row_in (get_or rows i d)) name n) (some (row_in (get_or rows i d))) (row_for (map row_in (drop (i + 1) rows)) name n)
    unfolding row_for
    here = before ∙ rw (drop-cons rows i d inside, add-one)

    pub row_found : true ≡ same (get_or rows i d).0.now name → length (get_or rows i d).1.now + 1 ≡ n → some (row_in (get_or rows i d)) ≡ row_for (map row_in rows) name n
    unfolding is_for_of pick
    row_found t h = sym (here ∙ rw (sym t, eq-eqb (length (get_or rows i d).1.now + 1) n h))

    pub another_name : false ≡ same (get_or rows i d).0.now name → row_for (map row_in rows) name n ≡ row_for (map row_in (drop (i + 1) rows)) name n
    unfolding is_for_of pick
    another_name t = here ∙ rw (sym t)

    pub another_count : (length (get_or rows i d).1.now + 1 ≡ n → ⊥) → row_for (map row_in rows) name n ≡ row_for (map row_in (drop (i + 1) rows)) name n
    unfolding is_for_of pick
    another_count h =
        here ∙ rw (both_false_r (same (get_or rows i d).0.now name) _ (ne_eqb (length (get_or rows i d).1.now + 1) n h))

  pub no_row_found : length rows ≤ i → none ≡ row_for (map row_in rows) name n
  unfolding row_for
  no_row_found h = sym (before ∙ rw (drop_of_length-le rows {i = i} h))

-- a row that is found has as many words
pub row_length : (rows : List LineRow) (name : List ℕ) (n : ℕ) (r : LineRow) → some r ≡ row_for rows name n → length r.letters + 1 ≡ n
unfolding row_for is_for_of pick
row_length [] name n r e = absurd (let z : ◌≡◌ {A = ℕ} 0 1 = cc in omega arith)
row_length (x ∷ rows) name n r e = go (row_length rows name n r) (is_for_of x name n) refl e
  where
    go : (some r ≡ row_for rows name n → length r.letters + 1 ≡ n) → (t : Bool) → is_for_of x name n ≡ t → some r ≡ pick t (some x) (row_for rows name n) → length r.letters + 1 ≡ n
    go f true h g = let q : x ≡ r = cc in rw (← q) (eqb-true (length x.letters + 1) n (both_parts (same x.name name) _ h).1)
    go f false h g = f g
