-- Laws of a line that is put together from parts: its first line feed, its buffer, the line that is given and what is unread.
use Rattle.std.specs.Prelude.{◌≡◌, Option, Some, None, Bool, ℕ, zero, suc, ◌+◌, ◌-◌, ◌≤◌, ◌<◌, eqb, take, drop}
use Rattle.std.proofs.Math.Path.{refl, subst}
use Rattle.std.proofs.Common.{sym, ap, ap₂, ◌∙◌, zero-add, length-append, length-take, length-drop, take_all, length-take-le, drop-drop}
use Rattle.std.proofs.Math.Bool.{true, false}
use mathlib.Core.List.{List, [], ◌∷◌, ◌++◌, append_assoc, append-nil}
use native.Mathlib.Omega.{arith}
use borrow.Author.Tests.{lt-ltb, le-ltb, ltb-false, ne_eqb, eqb-true}
use Rattle.std.proofs.Math.Dec.{ltb}
use Rattle.std.proofs.Math.ListN.{length, drop_of_length-le}
use Rattle.std.proofs.Math.Seq.{slice, take-nil, take-length, take-append-add}
use Rattle.std.proofs.lemmas.List.{take-append-le}
use Rattle.errors.specs.Choice.{pick}
use Rattle.octets.specs.Bytes.{index_of, index_after}
use Rattle.octets.specs.Bytes as bytes
use Rattle.bench.specs.Lines.{feed, before_feed, NoFeed, with_text, Counted, Begun, line_of, end_of, counted_line, last_line, unread_of, unread_in, nothing, NextLine}
use Rattle.bench.specs.declared.lines.Unread.{Unread}
use Rattle.bench.specs.declared.lines.Line.{Line}
use Rattle.bench.specs.Texts.{over, placed, placed_at, put_at}
use Rattle.bench.specs.TextLaws.{over-over, put_there}

-- the first line feed of a list
whole_slice : (b : List ℕ) → bytes.slice 0 (length b) b ≡ b
unfolding bytes.slice
whole_slice b = take-length b

pub found-feed : (b : List ℕ) (r : ℕ) → r ≡ 0 + index_of feed (bytes.slice 0 (length b) b) → r ≡ before_feed b
found-feed b r e = e ∙ rw (zero-add, whole_slice b)

pub feed_within : (b : List ℕ) → before_feed b ≤ length b
unfolding index_of index_after
feed_within [] = omega arith
feed_within (x ∷ b) = go (eqb x feed) (feed_within b)
  where
    go : (t : Bool) → before_feed b ≤ length b → index_after t (before_feed b) ≤ suc (length b)
    go true h = omega arith
    go false h = omega arith

pub none_before : (b : List ℕ) → NoFeed (take (before_feed b) b)
unfolding index_of index_after
none_before [] = refl
none_before (x ∷ b) = go (eqb x feed) refl (none_before b)
  where
    go : (t : Bool) → eqb x feed ≡ t → NoFeed (take (before_feed b) b) → NoFeed (take (index_after t (before_feed b)) (x ∷ b))
    go true h r = refl
    go false h r = rw h (ap suc r)

pub none_both : (a b : List ℕ) → NoFeed a → NoFeed b → NoFeed (a ++ b)
unfolding index_of index_after
none_both [] b p q = q
none_both (x ∷ a) b p q = go (eqb x feed) (λ r. none_both a b r q) p
  where
    go : (t : Bool) → (NoFeed a → NoFeed (a ++ b)) → index_after t (before_feed a) ≡ suc (length a) → index_after t (before_feed (a ++ b)) ≡ suc (length (a ++ b))
    go true r e = absurd (omega arith)
    go false r e = ap suc (r (omega arith))

pub split_feed : (b : List ℕ) → before_feed b < length b → b ≡ take (before_feed b) b ++ (feed ∷ drop (suc (before_feed b)) b)
unfolding index_of index_after
split_feed [] h = absurd (omega arith)
split_feed (x ∷ b) h = go (eqb x feed) refl (split_feed b) h
  where
    go : (t : Bool) → eqb x feed ≡ t → (before_feed b < length b → b ≡ take (before_feed b) b ++ (feed ∷ drop (suc (before_feed b)) b))
        → index_after t (before_feed b) < suc (length b)
        → x ∷ b ≡ take (index_after t (before_feed b)) (x ∷ b) ++ (feed ∷ drop (suc (index_after t (before_feed b))) (x ∷ b))
    go true e r k = ap (λ y. y ∷ b) (eqb-true x feed e)
    go false e r k = ap (λ y. x ∷ y) (r (omega arith))

-- a line's buffer
pub length-begin : (t l : List ℕ) → length (with_text t l) ≡ length l
unfolding with_text
length-begin t l = simp (length-append, length-take, length-drop) (omega arith)

begin-fits : (t l : List ℕ) → length t ≤ length l → with_text t l ≡ over 0 t l
unfolding with_text over
begin-fits t l h = rw (take_all (length l) t h, zero-add (length t))

begin_cut : (t p l : List ℕ) → length t ≤ length l → length l - length t ≤ length p → with_text (t ++ take (length l - length t) p) l ≡ with_text (t ++ p) l
unfolding with_text
begin_cut t p l h k =
    let n : ℕ = length l - length t in
    let same : length l ≡ length t + n = omega arith in
    let e : length (t ++ take n p) ≡ length l = length-append t (take n p) ∙ rw (length-take-le n p k) (omega arith) in
    let f : length l ≤ length (t ++ p) = rw (length-append t p) (omega arith) in
    let i : length l ≤ length (t ++ take n p) = omega arith in
    let j : length (t ++ take n p) ≤ length l = omega arith in
    ap₂ (λ x y. x ++ y) (take_all (length l) (t ++ take n p) j ∙ sym (take-append-add t p n) ∙ ap (λ k. take k (t ++ p)) (sym same))
    (drop_of_length-le l i ∙ sym (drop_of_length-le l f))

pub begun_none : (l : List ℕ) → Begun [] l (Some 0) l
unfolding with_text
begun_none l = record { count = (refl, omega arith); put = rw (take-nil {A = ℕ} (length l)) }

pub room_counts : (p : List ℕ) (k : ℕ) → k ≤ length p → k ≡ length (take k p)
room_counts p k h = sym (length-take-le k p h)

same-room : (t l m : List ℕ) (n : Option ℕ) → Begun t l n m → length m ≡ length l
same-room t l m n b = ap length b.put ∙ length-begin t l

-- a part behind a text that the buffer does not take
pub add_none : (t l p m : List ℕ) (n r : Option ℕ) → n ≡ None → r ≡ None → Begun t l n m → Begun (t ++ p) l r m
unfolding with_text
add_none t l p m n r e f b =
    let over : length l < length t = subst (λ (x : Option ℕ). Counted x (length t) (length l)) e b.count in
    let k : length l < length (t ++ p) = rw (length-append t p) (omega arith) in
    let i : length l ≤ length t = omega arith in
    let j : length l ≤ length (t ++ p) = omega arith in
    record { count = rw f k; put = b.put ∙ rw (take-append-le (length l) t p, drop_of_length-le l i, drop_of_length-le l j) }

-- a part behind a text of n bytes
module _ (t l p m : List ℕ) (n : ℕ) (b : Begun t l (Some n) m) where
  fitting : (n ≡ length t) × (length t ≤ length l)
  fitting = b.count

  pub no_more : length m < n → ⊥
  no_more h = omega (arith, fitting, same-room t l m (Some n) b)

  put-part : (q : List ℕ) → n + length q ≤ length m → over n q m ≡ with_text (t ++ q) l
  put-part q k =
      let e : (n ≡ length t) × (length t ≤ length l) = fitting in
      let room : 0 + length t + length q ≤ length l = omega (arith, same-room t l m (Some n) b) in
      let all : length (t ++ q) ≤ length l = rw (length-append t q) (omega arith) in
      ap₂ (λ i x. over i q x) (e.0 ∙ sym (zero-add (length t))) (b.put ∙ begin-fits t l e.1) ∙ over-over l t q 0 room ∙ sym (begin-fits (t ++ q) l all)

  -- in the room that is left
  module _ (left : ℕ) (is : left + n ≡ length m) where
    pub add_cut : (r : ℕ) (o : List ℕ) → left < length p → placed r o ≡ put_at n (take left p) m → Begun (t ++ p) l None o
    add_cut r o k e =
        let f : (n ≡ length t) × (length t ≤ length l) = fitting in
        let room : left ≡ length l - length t = omega (arith, same-room t l m (Some n) b) in
        let q : List ℕ = take left p in
        let all : length q ≡ left = length-take-le left p (omega arith) in
        let cut : with_text (t ++ q) l ≡ with_text (t ++ p) l = ap (λ k. with_text (t ++ take k p) l) room ∙ begin_cut t p l f.1 (omega arith) in
        let there : placed r o ≡ placed_at n q m = e ∙ sym (put_there q m n (omega arith)) in
        record { count = rw (length-append t p) (omega (arith, same-room t l m (Some n) b)); put = ap (λ x. x.buffer) there ∙ put-part q (omega arith) ∙ cut }

    pub add_whole : (r : ℕ) (o : List ℕ) → length p ≤ left → placed r o ≡ put_at n p m → Begun (t ++ p) l (Some r) o
    add_whole r o k e =
        let f : (n ≡ length t) × (length t ≤ length l) = fitting in
        let there : placed r o ≡ placed_at n p m = e ∙ sym (put_there p m n (omega arith)) in
        record {
          count = (ap (λ x. x.next) there ∙ rw (length-append t p) (omega arith), rw (length-append t p) (omega (arith, same-room t l m (Some n) b)));
          put = ap (λ x. x.buffer) there ∙ put-part p (omega arith);
        }

-- the line that is given
pub line_begun : (t l m : List ℕ) (n : Option ℕ) → Begun t l n m → counted_line n ≡ line_of (length t) l
unfolding line_of pick
line_begun t l m (Some n) b = rw (le-ltb (length l) (length t) b.count.1, b.count.0)
line_begun t l m None b = rw (lt-ltb (length l) (length t) b.count)

pub end_begun : (t l m : List ℕ) (n : Option ℕ) → Begun t l n m → last_line n ≡ end_of (length t) l
unfolding last_line end_of line_of pick
end_begun t l m (Some n) b = rw (le-ltb (length l) (length t) b.count.1, b.count.0)
end_begun t l m None b = rw (lt-ltb (length l) (length t) b.count, ne_eqb (length t) 0 (λ z. omega (arith, b.count)))

-- a line feed ended the line: the bytes were those of x, which has none, and of the part
pub ended : (h came x part l m after : List ℕ) (k : ℕ) (n : Option ℕ) (t : Line) → h ++ came ≡ x ++ part → NoFeed x → k ≡ before_feed part → k < length part
    → Begun (x ++ take k part) l n m → t ≡ counted_line n → after ≡ drop (suc k) part → NextLine h l t m after
unfolding pick
ended h came x part l m after k n t e none is less b known rest =
    let f : part ≡ take k part ++ (feed ∷ after) = rw (rest, is) (split_feed part (omega arith)) in
    record {
      came = came;
      text = x ++ take k part;
      fed = true;
      all = e ∙ ap (λ y. x ++ y) f ∙ sym (append_assoc x (take k part) (feed ∷ after));
      first = none_both x (take k part) none (rw is (none_before part));
      last = λ z. absurd (let y : ◌≡◌ {A = ℕ} 0 1 = cc in omega arith);
      line = known ∙ line_begun (x ++ take k part) l m n b;
      put = b.put;
    }

-- the input ended
pub input_ended : (h came l m after : List ℕ) (n : Option ℕ) (t : Line) → NoFeed (h ++ came) → Begun (h ++ came) l n m → t ≡ last_line n → after ≡ [] → NextLine h l t m after
unfolding pick
input_ended h came l m after n t none b known rest =
    record {
      came = came;
      text = h ++ came;
      fed = false;
      all = rw rest (sym (append-nil (h ++ came)));
      first = none;
      last = λ z. rest;
      line = known ∙ end_begun (h ++ came) l m n b;
      put = b.put;
    }

-- the unread bytes lie in the buffer
module _ (h r : Unread) (n : ℕ) (known : r ≡ unread_of h n) where
  unread-by : (x y : Bool) → ltb n h.to ≡ x → ltb h.to h.from ≡ y → r ≡ pick x nothing (pick y nothing h)
  unfolding unread_of
  unread-by x y p q = known ∙ rw (p, q)

  pub unread_order : r.from ≤ r.to
  unfolding pick
  unread_order = go (ltb n h.to) (ltb h.to h.from) refl refl
    where
      go : (x y : Bool) → ltb n h.to ≡ x → ltb h.to h.from ≡ y → r.from ≤ r.to
      go true y p q = rw (unread-by true y p q) (omega arith)
      go false true p q = rw (unread-by false true p q) (omega arith)
      go false false p q = rw (unread-by false false p q) (ltb-false h.to h.from q)

  pub unread_inside : r.to ≤ n
  unfolding pick
  unread_inside = go (ltb n h.to) (ltb h.to h.from) refl refl
    where
      go : (x y : Bool) → ltb n h.to ≡ x → ltb h.to h.from ≡ y → r.to ≤ n
      go true y p q = rw (unread-by true y p q) (omega arith)
      go false true p q = rw (unread-by false true p q) (omega arith)
      go false false p q = rw (unread-by false false p q) (ltb-false n h.to p)

pub unread_nothing : (b : List ℕ) → unread_in nothing b ≡ []
unfolding unread_in unread_of pick
unread_nothing b = rw (le-ltb (length b) 0 (omega arith))

-- the bytes behind k of those from one place to another, and the byte behind them
pub unread_behind : (b : List ℕ) (f from to k : ℕ) → f ≡ from + suc k → f ≤ to → to ≤ length b → unread_in (record { from = f; to = to }) b ≡ drop (suc k) (slice from to b)
unfolding unread_in unread_of pick
unread_behind b f from to k e h i = rw (le-ltb (length b) to i, le-ltb to f h, drop-drop (suc k) from (take to b), e)

-- a part of a slice
pub part_slice : (b : List ℕ) (from to : ℕ) → take (to - from) (drop from b) ≡ slice from to b
part_slice b zero to = let e : to - 0 ≡ to = omega arith in rw e
part_slice b (suc f) zero = let e : 0 - suc f ≡ 0 = omega arith in rw e
part_slice [] (suc f) (suc t) = take-nil (suc t - suc f)
part_slice (x ∷ b) (suc f) (suc t) = let e : suc t - suc f ≡ t - f = omega arith in rw e (part_slice b f t)
