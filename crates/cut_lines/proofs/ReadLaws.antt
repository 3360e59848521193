-- Laws of reading a script: a line's byte strings in the array, and the lines read so far.
use Rattle.std.specs.Prelude.{◌≡◌, ℕ, zero, suc, ◌+◌, ◌-◌, ◌<◌, ◌≤◌, Bool, true, false, eqb, ltb, List, [], ◌∷◌, ◌++◌, length, get_or, take, drop, set, Option as Found, Some, None}
use mathlib.Core.Path.{refl, sym, ap, ap₂, ◌∙◌, subst}
use native.Mathlib.Numerals.{add-one}
use native.Mathlib.Omega.{arith}
use borrow.Author.Tests.{le-ltb}
use lib.ListN.{length-take, length-drop, drop_of_length-le}
use lib.Seq.{slice, take-length, take-take, take-add, take_at, drop_at, drop-drop, length-take-le, get_or-drop}
use Rattle.errors.specs.Choice.{pick}
use Rattle.octets.specs.Bytes.{index_of}
use Rattle.octets.specs.Bytes as bytes
use Rattle.bench.specs.Lines.{feed, before_feed}
use Rattle.bench.specs.Texts.{over, placed, put_at, Placed}
use Rattle.bench.specs.TextLaws.{length_over}
use Rattle.bench_input.specs.Arguments.{bytes_room}
use Rattle.bench_input.specs.Readings.{end_at, input_in, EndsInOrder, Reads}
use Rattle.bench_input.specs.Table.{input_of}
use Rattle.bench_input.specs.declared.Input.{Input}
use Rattle.bench_input.specs.declared.Input.TheVariants.{Call, Event}
use Rattle.cut_script.specs.Answer.{line_count_limit}
use Rattle.cut_script.specs.First.{decide, equal, apart}
use Rattle.cut_script.specs.ScriptLines.{place}
use Rattle.cut_script.specs.Bench.{is_feed, script_lines, line_says}
use Rattle.cut_lines.specs.Readings.{used_by, behind_feed, entry_at, LinesRead, AllRead}
use Rattle.cut_lines.specs.declared.entries.Entry.{Entry}
use Rattle.cut_lines.proofs.LineLaws.{line_size, first-line, line-says, text_short, size_bounds, joined-next, behind-add}

-- ---- a line's byte strings

take_less : (i j : ℕ) (x y : List ℕ) → i ≤ j → take j x ≡ take j y → take i x ≡ take i y
take_less i j x y h e = sym (take-take i j x h) ∙ ap (take i) e ∙ take-take i j y h

slice_same : (f i j : ℕ) (x y : List ℕ) → i ≤ j → take j x ≡ take j y → slice f i x ≡ slice f i y
slice_same f i j x y h e = ap (drop f) (take_less i j x y h e)

used_short : (k : ℕ) (i : Found Input) (b o : List ℕ) → EndsInOrder k i b o → (used_by i ≤ k) × (used_by i ≤ bytes_room)
used_short k (Some (Call number n e)) b o h = (h.1.1.1.1.0, h.1.1.1.1.1)
used_short k (Some (Event number n)) b o h = (h.1.0, h.1.1)
used_short k None b o h = (omega arith, omega arith)

-- what a line says depends on those bytes alone
same_input : (k : ℕ) (i : Found Input) (b o x : List ℕ) → EndsInOrder k i b o → take (used_by i) x ≡ take (used_by i) o → input_in x i ≡ input_in o i
same_input k (Some (Call number n e)) b o x h s =
    let second = h.1.0 in
    let third = h.1.1.0 in
    let fourth = h.1.1.1.0 in
    rw (slice_same 0 (end_at e 0) (end_at e 3) x o (omega arith) s, slice_same (end_at e 0) (end_at e 1) (end_at e 3) x o (omega arith) s, slice_same (end_at e 1) (end_at e 2) (end_at e 3) x o (omega arith) s, slice_same (end_at e 2) (end_at e 3) (end_at e 3) x o (omega arith) s)
same_input k (Some (Event number n)) b o x h s = rw (slice_same 0 n n x o (omega arith) s)
same_input k None b o x h s = refl

module _ (line b b' o₀ o : List ℕ) (at n r : ℕ) (i : Found Input) (fits : at + length line ≤ length b) (read : Reads (length line) o₀ o i (input_of line)) (used : n ≡ used_by i) (size : length o ≡ bytes_room)
    (put : placed r b' ≡ put_at at (take n o) b) where
  short : (used_by i ≤ length line) × (used_by i ≤ bytes_room)
  short = used_short (length line) i o₀ o read.in_order_of

  count : length (take n o) ≡ n
  count = length-take-le n o (let s = short in omega arith)

  is-over : b' ≡ over at (take n o) b
  unfolding put_at pick
  is-over =
      let s = short in
      let c = count in
      ap (λ (p : Placed). p.buffer) put ∙ rw (le-ltb (length b) (at + length (take n o)) (omega arith))

  before-size : length (take at b) ≡ at
  before-size = length-take-le at b (omega arith)

  pub read_before : take at b' ≡ take at b
  unfolding over
  read_before = ap (take at) is-over ∙ take_at (take at b) _ at before-size

  pub read_size : length b' ≡ length b
  read_size = let s = short in let c = count in ap length is-over ∙ length_over b (take n o) at (omega arith)

  behind : drop at b' ≡ take n o ++ drop (at + length (take n o)) b
  unfolding over
  behind = ap (drop at) is-over ∙ drop_at (take at b) _ at before-size

  part_same : (to : ℕ) → at + length line ≤ to → take (used_by i) (slice at to b') ≡ take (used_by i) o
  part_same to h =
      let s = short in
      let k : ℕ = to - at in
      let q : to ≡ at + k = omega arith in
      let z : length (take at b') ≡ at = ap length read_before ∙ before-size in
      let p : slice at to b' ≡ take k (drop at b') = ap (λ t. drop at (take t b')) q ∙ ap (drop at) (take-add at k b') ∙ drop_at (take at b') (take k (drop at b')) at z in
      ap (take (used_by i)) p
      ∙ take-take (used_by i) k (drop at b') (omega arith)
      ∙ ap (take (used_by i)) behind
      ∙ rw (← used) (take_at (take n o) (drop (at + length (take n o)) b) n count)

  pub read_says : (to : ℕ) → at + length line ≤ to → input_in (slice at to b') i ≡ input_of line
  read_says to h = same_input (length line) i o₀ o (slice at to b') read.in_order_of (part_same to h) ∙ read.says

-- ---- the lines read so far

pub record ReadSoFar (s : List ℕ) (room : ℕ) (b : List ℕ) (es : List Entry) (n at : ℕ) : Type 0 where
  pub few : n ≤ line_count_limit
  pub size : length es ≡ line_count_limit
  pub inside : at ≤ length s
  pub left : drop n (script_lines s) ≡ script_lines (drop at s)
  pub within : n ≤ length (script_lines s)
  pub here : place is_feed s n ≡ at
  pub lines : LinesRead s b es n at
  pub fits : length b ≡ room

pub read_begins : (s b : List ℕ) (es : List Entry) → length es ≡ line_count_limit → ReadSoFar s (length b) b es 0 0
read_begins s b es h = record {
  few = omega arith;
  size = h;
  inside = omega arith;
  left = refl;
  within = omega arith;
  here = refl;
  lines = record { says = λ k l. absurd (omega arith); begins = λ k l. absurd (omega arith); within = λ k l. absurd (omega arith) };
  fits = refl;
}

-- a line more
line_there : (l : List ℕ) → 0 < length l → script_lines l ≡ take (line_size l) l ∷ script_lines (drop (line_size l) l)
line_there [] h = absurd (omega arith)
line_there (b ∷ bs) h = first-line b bs

more_lines : (n : ℕ) (ls : List (List ℕ)) (l : List ℕ) (rest : List (List ℕ)) → drop n ls ≡ l ∷ rest → n < length ls
more_lines n ls l rest e = let q = ap length e in let r = length-drop n ls in omega arith

get_set : (es : List Entry) (n : ℕ) (e : Entry) → n < length es → entry_at (set es n e) n ≡ e
get_set [] n e h = absurd (omega arith)
get_set (x ∷ es) zero e h = refl
get_set (x ∷ es) (suc n) e h = get_set es n e (omega arith)

get_kept : (es : List Entry) (n k : ℕ) (e : Entry) → k < n → entry_at (set es n e) k ≡ entry_at es k
get_kept [] zero k e h = absurd (omega arith)
get_kept [] (suc n) k e h = refl
get_kept (x ∷ es) zero k e h = absurd (omega arith)
get_kept (x ∷ es) (suc n) zero e h = refl
get_kept (x ∷ es) (suc n) (suc k) e h = get_kept es n k e (omega arith)

set-size : (es : List Entry) (n : ℕ) (e : Entry) → length (set es n e) ≡ length es
set-size [] zero e = refl
set-size [] (suc n) e = refl
set-size (x ∷ es) zero e = refl
set-size (x ∷ es) (suc n) e = ap suc (set-size es n e)

-- the line from the place `at` on, up to the line feed that was found
pub found-line : (s : List ℕ) (at stop : ℕ) → stop ≡ at + index_of feed (bytes.slice at (length s) s) → stop ≡ at + before_feed (drop at s)
unfolding bytes.slice
found-line s at stop e = e ∙ rw (take-length s)

pub line-part : (s : List ℕ) (at stop : ℕ) → stop ≡ at + before_feed (drop at s) → take (stop - at) (drop at s) ≡ take (before_feed (drop at s)) (drop at s)
line-part s at stop e = let q : stop - at ≡ before_feed (drop at s) = omega arith in ap (λ k. take k (drop at s)) q

pub line-inside : (s : List ℕ) (at stop : ℕ) → stop ≡ at + before_feed (drop at s) → at < length s → stop ≤ length s
line-inside s at stop e h =
    let l = length-drop at s in
    let b = size_bounds (drop at s) (omega arith) in
    omega (arith, text_short (drop at s))

pub line-fits : (s : List ℕ) (at k n m : ℕ) → length s ≤ n → m ≡ n → at < length s → at + length (take k (drop at s)) ≤ m
line-fits s at k n m h e l = let p = length-take k (drop at s) in let q = length-drop at s in omega arith

pub read_further : (s : List ℕ) (at stop to : ℕ) → at < length s → stop ≡ at + before_feed (drop at s) → to ≡ behind_feed stop (length s) → length s - to < length s - at
unfolding behind_feed pick
read_further s at stop to h e f = go (ltb stop (length s)) f
  where
    go : (t : Bool) → to ≡ pick t (stop + 1) (length s) → length s - to < length s - at
    go true g = omega arith
    go false g = omega arith

module _ (s : List ℕ) (room : ℕ) (b b' : List ℕ) (es : List Entry) (n at to stop : ℕ) (i : Found Input) (line : List ℕ) (h : ReadSoFar s room b es n at) (more : at < length s) (few : n < line_count_limit)
    (found : stop ≡ at + before_feed (drop at s)) (behind : to ≡ behind_feed stop (length s)) (is : line ≡ take (before_feed (drop at s)) (drop at s))
    (before : take at b' ≡ take at b) (same_size : length b' ≡ length b) (read : (t : ℕ) → at + length line ≤ t → input_in (slice at t b') i ≡ input_of line) where
  l-length : length (drop at s) ≡ length s - at
  l-length = length-drop at s

  size_of : (1 ≤ line_size (drop at s)) × (line_size (drop at s) ≤ length (drop at s))
  size_of = size_bounds (drop at s) (let e = l-length in omega arith)

  to_is : to ≡ at + line_size (drop at s)
  to_is =
      let e = l-length in
      let q : length s ≡ at + length (drop at s) = omega arith in
      behind ∙ ap₂ behind_feed found q ∙ behind-add at (before_feed (drop at s)) (length (drop at s))

  line_at : drop n (script_lines s) ≡ take (line_size (drop at s)) (drop at s) ∷ script_lines (drop (line_size (drop at s)) (drop at s))
  line_at = h.left ∙ line_there (drop at s) (let e = l-length in omega arith)

  this-line : get_or (script_lines s) n [] ≡ take (line_size (drop at s)) (drop at s)
  this-line =
      let q : n + 0 ≡ n = omega arith in
      ap (λ k. get_or (script_lines s) k []) (sym q) ∙ sym (get_or-drop n (script_lines s) 0 []) ∙ ap (λ (z : List (List ℕ)). get_or z 0 []) line_at

  line-says-it : input_in (slice at to b') i ≡ line_says (get_or (script_lines s) n [])
  line-says-it =
      let e = l-length in
      let z = size_of in
      let t = to_is in
      let w : at + length line ≤ to = rw is (let k = length-take (before_feed (drop at s)) (drop at s) in let u = text_short (drop at s) in omega arith) in
      read to w ∙ ap input_of is ∙ sym (line-says (drop at s)) ∙ ap line_says (sym this-line)

  old : (k : ℕ) → k < n → entry_at (set es n (record { input = i; from = at; to = to })) k ≡ entry_at es k
  old k u = get_kept es n k _ u

  new : entry_at (set es n (record { input = i; from = at; to = to })) n ≡ record { input = i; from = at; to = to }
  new = get_set es n _ (let z = h.size in omega arith)

  lines-read : LinesRead s b' (set es n (record { input = i; from = at; to = to })) (n + 1) to
  lines-read = record {
    says = λ k u.
        decide (eqb k n)
        (λ q. rw (equal k n q, new) line-says-it)
        (λ q.
        let d = apart k n q in
        let v : k < n = omega arith in
        ap (λ (x : Entry). input_in (slice x.from x.to b') x.input) (old k v)
        ∙ ap (λ p. input_in p (entry_at es k).input) (slice_same (entry_at es k).from (entry_at es k).to at b' b (h.lines.within k v) before)
        ∙ h.lines.says k v);
    begins = λ k u.
        decide (eqb k n)
        (λ q. rw (equal k n q, new) (sym h.here))
        (λ q. let d = apart k n q in let v : k < n = omega arith in ap (λ (x : Entry). x.from) (old k v) ∙ h.lines.begins k v);
    within = λ k u.
        decide (eqb k n)
        (λ q. rw (equal k n q, new) (omega arith))
        (λ q. let d = apart k n q in let v : k < n = omega arith in let t = to_is in rw (old k v) (let w = h.lines.within k v in omega arith));
  }

  pub read_next : ReadSoFar s room b' (set es n (record { input = i; from = at; to = to })) (n + 1) to
  read_next =
      let t = to_is in
      let z = size_of in
      let e = l-length in
      record {
        few = omega arith;
        size = set-size es n _ ∙ h.size;
        inside = omega arith;
        left =
            sym (drop-drop 1 n (script_lines s)) ∙ ap (drop 1) line_at ∙ ap script_lines (drop-drop (line_size (drop at s)) at s) ∙ ap (λ k. script_lines (drop k s)) (sym t);
        within = let m = more_lines n (script_lines s) _ _ line_at in omega arith;
        here =
            let g = length-take-le (line_size (drop at s)) (drop at s) z.1 in
            let j = joined-next n (script_lines s) _ _ line_at in
            let w = h.here in
            ap (place is_feed s) (add-one n) ∙ j ∙ ap₂ ◌+◌ w g ∙ sym t;
        lines = lines-read;
        fits = same_size ∙ h.fits;
      }

  -- there is a line more than n
  pub read_more : n < length (script_lines s)
  read_more = more_lines n (script_lines s) _ _ line_at

module _ (s : List ℕ) (room : ℕ) (b : List ℕ) (es : List Entry) (n at : ℕ) (h : ReadSoFar s room b es n at) where
  pub read_ends : length s ≤ at → AllRead s b es n
  read_ends e =
      let w : length (drop n (script_lines s)) ≡ 0 = ap length (h.left ∙ ap script_lines (drop_of_length-le s {i = at} e)) in
      let c : n ≡ length (script_lines s) = let q = length-drop n (script_lines s) in let u = h.within in omega arith in
      let i : at ≡ length s = let v = h.inside in omega arith in
      record { size = h.size; few = h.few; count = c; lines = subst (LinesRead s b es n) i h.lines }

  pub read_too_many : at < length s → n ≡ line_count_limit → line_count_limit < length (script_lines s)
  read_too_many more e =
      let q = h.left ∙ line_there (drop at s) (let k = length-drop at s in omega arith) in
      let m = more_lines n (script_lines s) _ _ q in
      omega arith
