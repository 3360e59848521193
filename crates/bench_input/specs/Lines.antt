-- The theorem over the table. A line that is the name of a row and, joined to it by single spaces, a word for each of the row's
-- letters, is read by that row: it says the row's number with the arguments that the letters read of the words (`row_read`). No two
-- rows have the same name and the same number of words (`distinct`). A line whose name and number of words no row has cannot be read
-- (`no_row_lem`), and neither can one over the limit (`too_long`).
use Rattle.std.specs.Prelude.{◌≡◌, refl, Bool, true, false, not, List, [], ◌∷◌, ◌++◌, ℕ, zero, suc, ◌+◌, ◌≤◌, ◌<◌, eqb, ltb, get_or}
use Rattle.std.proofs.Common.{ap, ◌∙◌, eq-eqb, eqb-true, lt-ltb, le-ltb}
use Rattle.std.proofs.Math.Option.{none, some}
use native.Mathlib.Omega.{arith}
use Rattle.std.proofs.Math.ListN.{length}
use Rattle.errors.specs.Choice.{pick, same, same_self, same_is}
use Rattle.framing.specs.Lists.{both}
use Rattle.bench.specs.Words.{ahead, words_of_lem}
use Rattle.bench_input.specs.Arguments.{Arguments, line_limit, word_at}
use Rattle.bench_input.specs.Letters.{arguments_of, no_arguments}
use Rattle.bench_input.specs.Table.{LineRow, table, no_row, row_at, is_for_of, row_for, unreadable, said, said_of, input_of}

-- words joined by single spaces (32)
unfoldable pub joined_words : List (List ℕ) → List ℕ
joined_words [] = []
joined_words (w ∷ []) = w
joined_words (w ∷ v ∷ ws) = w ++ (32 ∷ joined_words (v ∷ ws))

-- words that have no space in them
unfoldable pub spaceless : List ℕ → Bool
spaceless [] = true
spaceless (b ∷ w) = both (not (eqb b 32)) (spaceless w)

unfoldable pub all_spaceless : List (List ℕ) → Bool
all_spaceless [] = true
all_spaceless (w ∷ ws) = both (spaceless w) (all_spaceless ws)

-- no other row has the name and the number of words of a row
unfoldable pub is_alone : LineRow → List LineRow → Bool
is_alone r [] = true
is_alone r (x ∷ rows) = both (not (is_for_of r x.name (length x.letters + 1))) (is_alone r rows)

unfoldable pub are_distinct : List LineRow → Bool
are_distinct [] = true
are_distinct (r ∷ rows) = both (is_alone r rows) (are_distinct rows)

pub distinct : are_distinct table ≡ true
unfolding are_distinct is_alone is_for_of same table
distinct = refl

-- ---- laws

pub both_parts : (a b : Bool) → both a b ≡ true → (a ≡ true) × (b ≡ true)
both_parts true b h = (refl, h)
both_parts false b h = absurd (let z : ◌≡◌ {A = ℕ} 0 1 = cc in omega arith)

not-true : (t : Bool) → not t ≡ true → t ≡ false
not-true true h = absurd (let z : ◌≡◌ {A = ℕ} 0 1 = cc in omega arith)
not-true false h = refl

-- the words of joined words
one_word : (w : List ℕ) → spaceless w ≡ true → words_of_lem w ≡ w ∷ []
unfolding spaceless words_of_lem ahead pick
one_word [] h = refl
one_word (b ∷ w) h =
    let p = both_parts (not (eqb b 32)) (spaceless w) h in
    rw (not-true (eqb b 32) p.0, one_word w p.1)

first_word : (w l : List ℕ) → spaceless w ≡ true → words_of_lem (w ++ (32 ∷ l)) ≡ w ∷ words_of_lem l
unfolding spaceless words_of_lem ahead pick
first_word [] l h = refl
first_word (b ∷ w) l h =
    let p = both_parts (not (eqb b 32)) (spaceless w) h in
    rw (not-true (eqb b 32) p.0, first_word w l p.1)

pub words_joined : (w : List ℕ) (ws : List (List ℕ)) → spaceless w ≡ true → all_spaceless ws ≡ true → words_of_lem (joined_words (w ∷ ws)) ≡ w ∷ ws
unfolding joined_words all_spaceless
words_joined w [] h k = one_word w h
words_joined w (v ∷ ws) h k =
    let p = both_parts (spaceless v) (all_spaceless ws) k in
    first_word w (joined_words (v ∷ ws)) h ∙ ap (λ z. w ∷ z) (words_joined v ws p.0 p.1)

own_row : (r : LineRow) → is_for_of r r.name (length r.letters + 1) ≡ true
unfolding is_for_of
own_row r = rw (same_self r.name, eq-eqb (length r.letters + 1) (length r.letters + 1) refl)

row_has : (r : LineRow) (name : List ℕ) (n : ℕ) → is_for_of r name n ≡ true → (r.name ≡ name) × (length r.letters + 1 ≡ n)
unfolding is_for_of
row_has r name n h =
    let p = both_parts (same r.name name) (eqb (length r.letters + 1) n) h in
    (same_is r.name name p.0, eqb-true (length r.letters + 1) n p.1)

-- each row is found by its own name and number of words
alone_at : (r : LineRow) (rows : List LineRow) → is_alone r rows ≡ true → (k : ℕ) → k < length rows
    → is_for_of r (get_or rows k no_row).name (length (get_or rows k no_row).letters + 1) ≡ false
unfolding is_alone
alone_at r [] h k i = absurd (omega arith)
alone_at r (x ∷ rows) h zero i = not-true _ (both_parts _ (is_alone r rows) h).0
alone_at r (x ∷ rows) h (suc k) i = alone_at r rows (both_parts (not (is_for_of r x.name (length x.letters + 1))) _ h).1 k (omega arith)

found_at : (rows : List LineRow) → are_distinct rows ≡ true → (k : ℕ) → k < length rows
    → row_for rows (get_or rows k no_row).name (length (get_or rows k no_row).letters + 1) ≡ some (get_or rows k no_row)
unfolding are_distinct row_for pick
found_at [] h k i = absurd (omega arith)
found_at (r ∷ rows) h zero i = rw (own_row r)
found_at (r ∷ rows) h (suc k) i =
    let p = both_parts (is_alone r rows) (are_distinct rows) h in
    rw (alone_at r rows p.0 k (omega arith)) (found_at rows p.1 k (omega arith))

-- the names have no space
unfoldable plain : List LineRow → Bool
plain [] = true
plain (r ∷ rows) = both (spaceless r.name) (plain rows)

plain_at : (rows : List LineRow) → plain rows ≡ true → (k : ℕ) → k < length rows → spaceless (get_or rows k no_row).name ≡ true
unfolding plain
plain_at [] h k i = absurd (omega arith)
plain_at (r ∷ rows) h zero i = (both_parts (spaceless r.name) _ h).0
plain_at (r ∷ rows) h (suc k) i = plain_at rows (both_parts (spaceless r.name) _ h).1 k (omega arith)

plain-name : (k : ℕ) → k < length table → spaceless (row_at k).name ≡ true
unfolding plain spaceless table
plain-name k h = plain_at table refl k h

-- ---- the theorem

module _ (k : ℕ) (row : k < length table) (ws : List (List ℕ)) (single : all_spaceless ws ≡ true) (all : length ws ≡ length (row_at k).letters)
    (short : length (joined_words ((row_at k).name ∷ ws)) ≤ line_limit) where
  pub row_line : input_of (joined_words ((row_at k).name ∷ ws)) ≡ said_of (row_at k).number (arguments_of (row_at k).letters ws no_arguments)
  unfolding input_of pick
  row_line =
      let count : length ((row_at k).name ∷ ws) ≡ length (row_at k).letters + 1 = omega arith in
      rw (le-ltb line_limit (length (joined_words ((row_at k).name ∷ ws))) short, words_joined (row_at k).name ws (plain-name k row) single, count, found_at table distinct k row)

  pub row_read : (a : Arguments) → arguments_of (row_at k).letters ws no_arguments ≡ some a → input_of (joined_words ((row_at k).name ∷ ws)) ≡ said (row_at k).number a
  row_read a e = row_line ∙ ap (said_of (row_at k).number) e

none_for : (rows : List LineRow) (name : List ℕ) (n : ℕ)
    → ((k : ℕ) → k < length rows → (get_or rows k no_row).name ≡ name → length (get_or rows k no_row).letters + 1 ≡ n → ⊥) → row_for rows name n ≡ none
unfolding row_for pick
none_for [] name n h = refl
none_for (r ∷ rows) name n h = go (is_for_of r name n) refl (none_for rows name n (λ k i. h (suc k) (omega arith)))
  where
    go : (t : Bool) → is_for_of r name n ≡ t → row_for rows name n ≡ none → pick t (some r) (row_for rows name n) ≡ none
    go true e f = let p = row_has r name n e in absurd (h 0 (omega arith) p.0 p.1)
    go false e f = f

pub too_long : (l : List ℕ) → line_limit < length l → input_of l ≡ unreadable
unfolding input_of pick
too_long l h = rw (lt-ltb line_limit (length l) h)

pub no_row_lem : (l : List ℕ) → ((k : ℕ) → k < length table → (row_at k).name ≡ word_at l 0 → length (row_at k).letters + 1 ≡ length (words_of_lem l) → ⊥)
    → input_of l ≡ unreadable
unfolding input_of pick
no_row_lem l h = rw (none_for table (word_at l 0) (length (words_of_lem l)) h) (go (ltb line_limit (length l)))
  where
    go : (t : Bool) → pick t unreadable unreadable ≡ unreadable
    go true = refl
    go false = refl
