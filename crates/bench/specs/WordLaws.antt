-- Laws of the words of a line: what the scans of `words` find, place by place.
use Rattle.std.specs.Prelude.{◌≡◌, refl, Bool, true, false, cond, Option, Some, None, unwrap_or, option_map, slice_get, ◌==◌, List, [], ◌∷◌, ◌++◌, ℕ, zero, suc, ◌+◌, ◌-◌, ◌≤◌, ◌<◌, eqb, length, get_or, take, drop}
use Rattle.std.proofs.Common.{sym, ap, ◌∙◌, add-one, arith, drop_of_length-le, drop-cons, drop-drop}
use borrow.Author.Tests.{eq-eqb, ne_eqb}
use denote.Ref.{Bor}
use Rattle.std.specs.List.{slice_split, onto_first}
use Rattle.std.proofs.Math.Seq.{take-length}
use Rattle.octets.specs.Bytes.{index_of, index_after, slice}
use Rattle.errors.specs.Choice.{pick}
use Rattle.bench.specs.Words.{ahead, words_of_lem}

length-ahead : (b : ℕ) (ws : List (List ℕ)) → 0 < length ws → length (ahead b ws) ≡ length ws
unfolding ahead
length-ahead b [] h = absurd (omega arith)
length-ahead b (w ∷ ws) h = refl

first-ahead : (b : ℕ) (ws : List (List ℕ)) → get_or (ahead b ws) 0 [] ≡ b ∷ get_or ws 0 []
unfolding ahead
first-ahead b [] = refl
first-ahead b (w ∷ ws) = refl

later-ahead : (b k : ℕ) (ws : List (List ℕ)) → get_or (ahead b ws) (suc k) [] ≡ get_or ws (suc k) []
unfolding ahead
later-ahead b k [] = refl
later-ahead b k (w ∷ ws) = refl

-- a line has a first word
some_word : (l : List ℕ) → 0 < length (words_of_lem l)
unfolding words_of_lem pick
some_word [] = omega arith
some_word (b ∷ l) = go (some_word l) (eqb b 32)
  where
    go : 0 < length (words_of_lem l) → (t : Bool) → 0 < length (pick t ([] ∷ words_of_lem l) (ahead b (words_of_lem l)))
    go h true = omega arith
    go h false = omega (arith, length-ahead b (words_of_lem l) h)

module _ (l : List ℕ) (i : ℕ) where
  at-space : i < length l → get_or l i 0 ≡ 32 → words_of_lem (drop i l) ≡ [] ∷ words_of_lem (drop (i + 1) l)
  unfolding words_of_lem pick
  at-space h e = rw (drop-cons l i 0 h, eq-eqb (get_or l i 0) 32 e, add-one)

  at_other : i < length l → (get_or l i 0 ≡ 32 → ⊥) → words_of_lem (drop i l) ≡ ahead (get_or l i 0) (words_of_lem (drop (i + 1) l))
  unfolding words_of_lem pick
  at_other h e = rw (drop-cons l i 0 h, ne_eqb (get_or l i 0) 32 e, add-one)

  at-end : length l ≤ i → words_of_lem (drop i l) ≡ [] ∷ []
  unfolding words_of_lem
  at-end h = rw (drop_of_length-le l {i = i} h)

  -- n words were passed before place i
  module _ (n : ℕ) (passed : n + length (words_of_lem (drop i l)) ≡ length (words_of_lem l) + 1) where
    pub count_space : (m : ℕ) → i < length l → get_or l i 0 ≡ 32 → m ≡ n + 1 → m + length (words_of_lem (drop (i + 1) l)) ≡ length (words_of_lem l) + 1
    count_space m h e g = let f = ap length (at-space h e) in omega arith

    pub count-other : (m : ℕ) → i < length l → (get_or l i 0 ≡ 32 → ⊥) → m ≡ n → m + length (words_of_lem (drop (i + 1) l)) ≡ length (words_of_lem l) + 1
    count-other m h e g =
        let f = ap length (at_other h e) ∙ length-ahead (get_or l i 0) (words_of_lem (drop (i + 1) l)) (some_word (drop (i + 1) l)) in
        omega arith

    pub count-end : length l ≤ i → n ≡ length (words_of_lem l)
    count-end h = let f = ap length (at-end h) in omega arith

ahead-onto : (b : ℕ) (ws : List (List ℕ)) → ahead b ws ≡ onto_first b ws
unfolding ahead
ahead-onto b [] = refl
ahead-onto b (w ∷ ws) = refl

-- the words are the parts that `split` gives at the spaces
pub words_split : (l : List ℕ) → words_of_lem l ≡ slice_split (λ b. b == 32) l
unfolding words_of_lem pick
words_split [] = refl
words_split (b ∷ l) = go (b == 32) (words_split l)
  where
    go : (t : Bool) → words_of_lem l ≡ slice_split (λ x. x == 32) l
        → pick t ([] ∷ words_of_lem l) (ahead b (words_of_lem l)) ≡ cond t ([] ∷ slice_split (λ x. x == 32) l) (onto_first b (slice_split (λ x. x == 32) l))
    go true h = ap (λ ws. [] ∷ ws) h
    go false h = ahead-onto b (words_of_lem l) ∙ ap (onto_first b) h

pub counted : (l : List ℕ) → length (words_of_lem l) ≡ length (slice_split (λ b. b == 32) l)
counted l = ap length (words_split l)

got_or : (ws : List (List ℕ)) (k : ℕ) → unwrap_or (slice_get ws k) [] ≡ get_or ws k []
got_or [] zero = refl
got_or [] (suc k) = refl
got_or (w ∷ ws) zero = refl
got_or (w ∷ ws) (suc k) = got_or ws k

now_or : (r : Option (Bor (List ℕ))) (none : Bor (List ℕ)) → none.now ≡ [] → (unwrap_or r none).now ≡ unwrap_or (option_map (λ w. w.now) r) []
now_or None none e = e
now_or (Some w) none e = refl

-- the k-th part, lent; none where there are fewer
pub word_got : (l : List ℕ) (k : ℕ) (r : Option (Bor (List ℕ))) (none : Bor (List ℕ)) → none.now ≡ [] → option_map (λ w. w.now) r ≡ slice_get (slice_split (λ b. b == 32) l) k
    → (unwrap_or r none).now ≡ get_or (words_of_lem l) k []
word_got l k r none e f =
    now_or r none e ∙ ap (λ w. unwrap_or w []) f ∙ got_or (slice_split (λ b. b == 32) l) k ∙ ap (λ ws. get_or ws k []) (sym (words_split l))

-- a word is no longer than its line
pub word_short : (l : List ℕ) (k : ℕ) → length (get_or (words_of_lem l) k []) ≤ length l
unfolding words_of_lem pick
word_short [] zero = omega arith
word_short [] (suc k) = omega arith
word_short (b ∷ l) k = go (word_short l) (eqb b 32) k
  where
    go : ((n : ℕ) → length (get_or (words_of_lem l) n []) ≤ length l) → (t : Bool) (j : ℕ) → length (get_or (pick t ([] ∷ words_of_lem l) (ahead b (words_of_lem l))) j []) ≤ suc (length l)
    go h true zero = omega arith
    go h true (suc j) = omega (arith, h j)
    go h false zero = omega (arith, h 0, ap length (first-ahead b (words_of_lem l)))
    go h false (suc j) = omega (arith, h (suc j), ap length (later-ahead b j (words_of_lem l)))

-- a word that begins at a place, of which nothing is taken yet
pub end-begin : (l : List ℕ) (s : ℕ) → take (s - s) (drop s l) ++ get_or (words_of_lem (drop s l)) 0 [] ≡ get_or (words_of_lem (drop s l)) 0 []
end-begin l s = let z : s - s ≡ 0 = omega arith in rw z

-- the words behind the first, where a space and they are left
unfoldable pub words_behind : List ℕ → List (List ℕ)
words_behind [] = []
words_behind (b ∷ l) = words_of_lem l

pub words_behind_lem : (l : List ℕ) → words_of_lem l ≡ take (index_of 32 l) l ∷ words_behind (drop (index_of 32 l) l)
unfolding words_of_lem pick words_behind index_of index_after ahead
words_behind_lem [] = refl
words_behind_lem (b ∷ l) = go (words_behind_lem l) (eqb b 32)
  where
    go : words_of_lem l ≡ take (index_of 32 l) l ∷ words_behind (drop (index_of 32 l) l) → (t : Bool)
        → pick t ([] ∷ words_of_lem l) (ahead b (words_of_lem l)) ≡ take (index_after t (index_of 32 l)) (b ∷ l) ∷ words_behind (drop (index_after t (index_of 32 l)) (b ∷ l))
    go h true = refl
    go h false = ap (ahead b) h

-- the word from a place to the next space, and the words behind it
pub next_word : (l : List ℕ) (from end : ℕ) → from ≤ length l → end ≡ from + index_of 32 (slice from (length l) l)
    → words_of_lem (drop from l) ≡ take (end - from) (drop from l) ∷ words_behind (drop end l)
unfolding slice
next_word l from end h e =
    let all : take (length l) l ≡ l = take-length l in
    let k : ℕ = index_of 32 (drop from l) in
    let is : end ≡ from + k = e ∙ ap (λ x. from + index_of 32 (drop from x)) all in
    let size : end - from ≡ k = omega arith in
    words_behind_lem (drop from l) ∙ rw (size, is, drop-drop k from l)

-- ---- the words of a line, by their number

-- n words from the i-th on
unfoldable pub words_from : ℕ → ℕ → List (List ℕ) → List (List ℕ)
words_from i zero ws = []
words_from i (suc n) ws = get_or ws i [] ∷ words_from (suc i) n ws

words_from_lem : (n i : ℕ) (ws : List (List ℕ)) → length ws ≡ i + n → drop i ws ≡ words_from i n ws
unfolding words_from
words_from_lem zero i ws h = drop_of_length-le ws {i = i} (omega arith)
words_from_lem (suc n) i ws h = drop-cons ws i [] (omega arith) ∙ ap (λ l. get_or ws i [] ∷ l) (words_from_lem n (suc i) ws (omega arith))

pub words_are : (ws : List (List ℕ)) (n : ℕ) → n ≡ length ws → (k : ℕ) → n ≡ k → ws ≡ words_from 0 k ws
words_are ws n counted k h = words_from_lem k 0 ws (omega arith)

pub word_fits : (limit : ℕ) (l w : List ℕ) (k : ℕ) → w ≡ get_or (words_of_lem l) k [] → length l ≤ limit → length w ≤ limit
word_fits limit l w k e h = omega (arith, ap length e, word_short l k)
