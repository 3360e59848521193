-- Lists of things that each have a key, a text of bytes.
use Rattle.std.specs.Prelude.{◌≡◌, Bool, true, false, List, [], ◌∷◌, ℕ, suc}
use Rattle.errors.specs.Choice.{pick, same}
use Rattle.presence_list.specs.Order.{before}

-- all of a list
abbrev pub All : {A : Type 0} → (A → Type 0) → List A → Type 0
All p [] = Unit
All p (x ∷ xs) = p x × All p xs

module _ {A : Type 0} (key : A → List ℕ) where
  -- a list in order with one thing more: in its place, and instead of the one with the same key
  unfoldable pub supersede : A → List A → List A
  supersede x [] = x ∷ []
  supersede x (y ∷ ys) = pick (before (key y) (key x)) (y ∷ supersede x ys) (x ∷ pick (same (key x) (key y)) ys (y ∷ ys))

  -- one after the other
  unfoldable pub supersede_all : List A → List A → List A
  supersede_all l [] = l
  supersede_all l (x ∷ xs) = supersede_all (supersede x l) xs

  -- whether a list has a key
  unfoldable pub has : List ℕ → List A → Bool
  has k [] = false
  has k (y ∷ ys) = pick (same k (key y)) true (has k ys)

  -- the things of a list whose keys the other list has not
  unfoldable pub without : List A → List A → List A
  without other [] = []
  without other (x ∷ xs) = pick (has (key x) other) (without other xs) (x ∷ without other xs)

  -- where a key's place is: behind all that come before it
  unfoldable pub place : List ℕ → List A → ℕ
  place k [] = 0
  place k (y ∷ ys) = pick (before (key y) k) (suc (place k ys)) 0

  -- a key comes before all of a list
  abbrev pub Below : List ℕ → List A → Type 0
  Below k [] = Unit
  Below k (y ∷ ys) = (before k (key y) ≡ true) × Below k ys

  -- each key comes before all behind it
  abbrev pub Sorted : List A → Type 0
  Sorted [] = Unit
  Sorted (x ∷ xs) = Below (key x) xs × Sorted xs

-- the things that pass a test
unfoldable pub only : {A : Type 0} → (A → Bool) → List A → List A
only q [] = []
only q (x ∷ xs) = pick (q x) (x ∷ only q xs) (only q xs)
