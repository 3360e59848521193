-- A script as bytes: its lines with their line feeds, and the stretch of the lines from i on, byte for byte as it came.
use Rattle.std.specs.Prelude.{◌≡◌, refl, Bool, cond, List, [], ◌∷◌, ◌++◌, ℕ, zero, suc, length, drop, take}
use Rattle.std.proofs.Common.{sym, ap, ◌∙◌, append_assoc, take-append-drop, drop_at}
use Rattle.std.proofs.Math.Seq.{drop-nil}
use Rattle.cut_script.specs.First.{decide}

module _ {A : Type 0} where
  abbrev pub joined : List (List A) → List A
  joined [] = []
  joined (l ∷ ls) = l ++ joined ls

  abbrev pub glue : A → List (List A) → List (List A)
  glue b [] = (b ∷ []) ∷ []
  glue b (l ∷ ls) = (b ∷ l) ∷ ls

module _ {A : Type 0} (is_feed : A → Bool) where
  -- each ends with a line feed; the last one may lack it, and is not empty
  abbrev pub lines_of : List A → List (List A)
  lines_of [] = []
  lines_of (b ∷ bs) = cond (is_feed b) ((b ∷ []) ∷ lines_of bs) (glue b (lines_of bs))

  -- where line i begins
  abbrev pub place : List A → ℕ → ℕ
  place s i = length (joined (take i (lines_of s)))

  joined-glue : (b : A) (ls : List (List A)) → joined (glue b ls) ≡ b ∷ joined ls
  joined-glue b [] = refl
  joined-glue b (l ∷ ls) = refl

  pub joined_lines : (s : List A) → joined (lines_of s) ≡ s
  joined_lines [] = refl
  joined_lines (b ∷ bs) =
      let r = joined_lines bs in
      decide (is_feed b) (λ e. rw (e, r)) (λ e. rw (e, joined-glue b (lines_of bs), r))

  joined-append : (a b : List (List A)) → joined (a ++ b) ≡ joined a ++ joined b
  joined-append [] b = refl
  joined-append (l ∷ a) b = rw (joined-append a b) (sym (append_assoc l (joined a) (joined b)))

  -- the stretch from line i on is the script's end from a place on
  pub stretch_bytes : (s : List A) (i : ℕ) → drop (place s i) s ≡ joined (drop i (lines_of s))
  stretch_bytes s i =
      let ls = lines_of s in
      let q : joined (take i ls) ++ joined (drop i ls) ≡ s = sym (joined-append (take i ls) (drop i ls)) ∙ ap joined (take-append-drop i ls) ∙ joined_lines s in
      ap (drop (place s i)) (sym q) ∙ drop_at (joined (take i ls)) (joined (drop i ls)) (place s i) refl

  drop-glue : (b : A) (i : ℕ) (ls : List (List A)) → drop (suc i) (glue b ls) ≡ drop (suc i) ls
  drop-glue b i [] = drop-nil i
  drop-glue b i (l ∷ ls) = refl

  read_again : (s : List A) (i : ℕ) → lines_of (joined (drop i (lines_of s))) ≡ drop i (lines_of s)
  read_again [] zero = refl
  read_again [] (suc i) = refl
  read_again (b ∷ bs) zero = ap lines_of (joined_lines (b ∷ bs))
  read_again (b ∷ bs) (suc i) =
      let r = read_again bs i in
      let t = read_again bs (suc i) in
      decide (is_feed b) (λ e. rw e r) (λ e. rw (e, drop-glue b i (lines_of bs)) t)

  -- and read as a script of its own it has just those lines
  pub stretch_lines : (s : List A) (i : ℕ) → lines_of (drop (place s i) s) ≡ drop i (lines_of s)
  stretch_lines s i = ap lines_of (stretch_bytes s i) ∙ read_again s i
