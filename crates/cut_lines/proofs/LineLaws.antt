-- Laws of a script's next line: where it ends, what it says, and where the line behind it begins.
use Rattle.std.specs.Prelude.{◌≡◌, ℕ, zero, suc, ◌+◌, ◌<◌, ◌≤◌, Bool, true, false, cond, eqb, ltb, List, [], ◌∷◌, length, get_or, take, drop}
use mathlib.Core.Path.{refl, sym, ap, ap₂, ◌∙◌}
use mathlib.Core.List.{append-nil}
use native.Mathlib.Omega.{arith}
use borrow.Author.Tests.{lt-ltb, le-ltb, ltb-true, ltb-false}
use lib.ListN.{length-append}
use lib.Seq.{take-take}
use Rattle.errors.specs.Choice.{pick}
use Rattle.octets.specs.Bytes.{index_of, index_after}
use Rattle.bench.specs.Lines.{feed, before_feed}
use Rattle.bench_input.specs.Table.{input_of}
use Rattle.cut_script.specs.ScriptLines.{joined, glue}
use Rattle.cut_script.specs.Bench.{script_lines, line_says}
use Rattle.cut_lines.specs.Readings.{behind_feed}

pub behind-add : (at a b : ℕ) → behind_feed (at + a) (at + b) ≡ at + behind_feed a b
unfolding behind_feed pick
behind-add at a b = go (ltb a b) refl
  where
    go : (t : Bool) → ltb a b ≡ t → pick (ltb (at + a) (at + b)) (at + a + 1) (at + b) ≡ at + pick t (a + 1) b
    go true e = let h = ltb-true a b e in rw (lt-ltb (at + a) (at + b) (omega arith)) (omega arith)
    go false e = let h = ltb-false a b e in rw (le-ltb (at + a) (at + b) (omega arith))

-- how many bytes the first line has, its line feed counted
abbrev pub line_size : List ℕ → ℕ
line_size l = behind_feed (before_feed l) (length l)

behind_suc : (a b : ℕ) → behind_feed (suc a) (suc b) ≡ suc (behind_feed a b)
behind_suc a b =
    let p : suc a ≡ 1 + a = omega arith in
    let q : suc b ≡ 1 + b = omega arith in
    let r : 1 + behind_feed a b ≡ suc (behind_feed a b) = omega arith in
    ap₂ behind_feed p q ∙ behind-add 1 a b ∙ r

before-feed : (b : ℕ) (bs : List ℕ) → eqb b feed ≡ true → before_feed (b ∷ bs) ≡ 0
unfolding index_of index_after
before-feed b bs e = rw e

before-other : (b : ℕ) (bs : List ℕ) → eqb b feed ≡ false → before_feed (b ∷ bs) ≡ suc (before_feed bs)
unfolding index_of index_after
before-other b bs e = rw e

size-feed : (b : ℕ) (bs : List ℕ) → eqb b feed ≡ true → line_size (b ∷ bs) ≡ 1
unfolding behind_feed pick
size-feed b bs e = rw (before-feed b bs e, lt-ltb 0 (suc (length bs)) (omega arith))

size-other : (b : ℕ) (bs : List ℕ) → eqb b feed ≡ false → line_size (b ∷ bs) ≡ suc (line_size bs)
size-other b bs e = ap (λ n. behind_feed n (suc (length bs))) (before-other b bs e) ∙ behind_suc (before_feed bs) (length bs)

size_none : line_size [] ≡ 0
unfolding behind_feed pick index_of
size_none = refl

fed : (b : ℕ) (bs : List ℕ) → eqb b feed ≡ true → script_lines (b ∷ bs) ≡ take (line_size (b ∷ bs)) (b ∷ bs) ∷ script_lines (drop (line_size (b ∷ bs)) (b ∷ bs))
fed b bs e =
    ap (λ t. cond t ((b ∷ []) ∷ script_lines bs) (glue b (script_lines bs))) e ∙ ap (λ n. take n (b ∷ bs) ∷ script_lines (drop n (b ∷ bs))) (sym (size-feed b bs e))

-- the first line of bytes, and the lines behind it
pub first-line : (b : ℕ) (bs : List ℕ) → script_lines (b ∷ bs) ≡ take (line_size (b ∷ bs)) (b ∷ bs) ∷ script_lines (drop (line_size (b ∷ bs)) (b ∷ bs))
first-line b [] = go (eqb b feed) refl
  where
    go : (t : Bool) → eqb b feed ≡ t → script_lines (b ∷ []) ≡ take (line_size (b ∷ [])) (b ∷ []) ∷ script_lines (drop (line_size (b ∷ [])) (b ∷ []))
    go true e = fed b [] e
    go false e = ap (λ t. cond t ((b ∷ []) ∷ []) (glue b [])) e ∙ ap (λ n. take n (b ∷ []) ∷ script_lines (drop n (b ∷ []))) (sym (size-other b [] e ∙ ap suc size_none))
first-line b (c ∷ cs) = go (eqb b feed) refl (first-line c cs)
  where
    go : (t : Bool) → eqb b feed ≡ t → script_lines (c ∷ cs) ≡ take (line_size (c ∷ cs)) (c ∷ cs) ∷ script_lines (drop (line_size (c ∷ cs)) (c ∷ cs))
        → script_lines (b ∷ c ∷ cs) ≡ take (line_size (b ∷ c ∷ cs)) (b ∷ c ∷ cs) ∷ script_lines (drop (line_size (b ∷ c ∷ cs)) (b ∷ c ∷ cs))
    go true e r = fed b (c ∷ cs) e
    go false e r =
        let left : script_lines (b ∷ c ∷ cs) ≡ glue b (script_lines (c ∷ cs)) = ap (λ t. cond t ((b ∷ []) ∷ script_lines (c ∷ cs)) (glue b (script_lines (c ∷ cs)))) e in
        left ∙ ap (glue b) r ∙ ap (λ n. take n (b ∷ c ∷ cs) ∷ script_lines (drop n (b ∷ c ∷ cs))) (sym (size-other b (c ∷ cs) e))

-- its text is what stands before its line feed
text_within : (l : List ℕ) → before_feed (take (line_size l) l) ≡ before_feed l
unfolding index_of
text_within [] = rw size_none
text_within (b ∷ bs) = go (eqb b feed) refl (text_within bs)
  where
    go : (t : Bool) → eqb b feed ≡ t → before_feed (take (line_size bs) bs) ≡ before_feed bs → before_feed (take (line_size (b ∷ bs)) (b ∷ bs)) ≡ before_feed (b ∷ bs)
    go true e r = ap (λ n. before_feed (take n (b ∷ bs))) (size-feed b bs e) ∙ before-feed b [] e ∙ sym (before-feed b bs e)
    go false e r = ap (λ n. before_feed (take n (b ∷ bs))) (size-other b bs e) ∙ before-other b (take (line_size bs) bs) e ∙ ap suc r ∙ sym (before-other b bs e)

before_none : before_feed [] ≡ 0
unfolding index_of
before_none = refl

pub text_short : (l : List ℕ) → before_feed l ≤ line_size l
text_short [] = omega (arith, before_none)
text_short (b ∷ bs) = go (eqb b feed) refl (text_short bs)
  where
    go : (t : Bool) → eqb b feed ≡ t → before_feed bs ≤ line_size bs → before_feed (b ∷ bs) ≤ line_size (b ∷ bs)
    go true e r = omega (arith, before-feed b bs e)
    go false e r = omega (arith, before-other b bs e, size-other b bs e)

pub line-says : (l : List ℕ) → line_says (take (line_size l) l) ≡ input_of (take (before_feed l) l)
line-says l = ap input_of (ap (λ n. take n (take (line_size l) l)) (text_within l) ∙ take-take (before_feed l) (line_size l) l (text_short l))

-- the size of a line, and where the next one begins
pub size_bounds : (l : List ℕ) → 0 < length l → (1 ≤ line_size l) × (line_size l ≤ length l)
unfolding behind_feed pick
size_bounds l h = go (ltb (before_feed l) (length l)) refl
  where
    go : (t : Bool) → ltb (before_feed l) (length l) ≡ t → (1 ≤ pick t (before_feed l + 1) (length l)) × (pick t (before_feed l + 1) (length l) ≤ length l)
    go true e = let k = ltb-true (before_feed l) (length l) e in (omega arith, omega arith)
    go false e = (omega arith, omega arith)

pub joined-next : (n : ℕ) (ls : List (List ℕ)) (l : List ℕ) (rest : List (List ℕ)) → drop n ls ≡ l ∷ rest → length (joined (take (suc n) ls)) ≡ length (joined (take n ls)) + length l
joined-next zero [] l rest e = absurd (omega (arith, ap length e))
joined-next zero (x ∷ xs) l rest e = rw (append-nil x) (ap (λ (z : List (List ℕ)). length (get_or z 0 [])) e ∙ omega arith)
joined-next (suc n) [] l rest e = absurd (omega (arith, ap length e))
joined-next (suc n) (x ∷ xs) l rest e =
    rw (length-append x (joined (take (suc n) xs)), length-append x (joined (take n xs))) (let r = joined-next n xs l rest e in omega arith)
