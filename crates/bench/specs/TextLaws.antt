-- Laws of a text in a buffer: put there byte by byte, or as a copy, and one text behind another.
use Rattle.std.specs.Prelude.{◌≡◌, refl, Bool, true, false, List, [], ◌∷◌, ◌++◌, ℕ, ◌+◌, ◌-◌, ◌≤◌, ◌<◌, take, drop, get_or, set}
use Rattle.std.proofs.Common.{sym, ap₂, ◌∙◌, append_assoc, append-nil, add_assoc, add-one, arith, length-append, length-take, length-drop, length-take-le, take_at, drop-drop, lt-ltb, le-ltb}
use Rattle.std.proofs.Math.Path.{ap}
use Rattle.std.proofs.Math.Nat.{zero-add}
use Rattle.std.proofs.Math.ListN.{length}
use Rattle.std.proofs.Math.Seq.{take-length, paste, paste-zero, paste-suc, drop-append-add}
use borrow.Rule.Slice.PartMut.{put_mid}
use Rattle.std.proofs.lemmas.List.{set_split}
use Rattle.errors.specs.Refusals.{answered, refused, plain}
use Rattle.errors.specs.Choice.{pick}
use Rattle.framing.specs.Copied.{copied}
use Rattle.bench.specs.Texts.{over, put_of, Placed, placed, placed_at, put_at, Appends}
use Rattle.framing.specs.Build.{left}

-- a turn of a loop that puts the bytes of s one by one
pub paste_step : (d s : List ℕ) (at j k v : ℕ) (o : List ℕ) → o ≡ paste d at s j → k ≡ at + j → v ≡ get_or s j 0 → k < length d → j < length s
    → set o k v ≡ paste d at s (j + 1)
paste_step d s at j k v o e f g h m =
    let n : at + j < length d = omega arith in
    rw (e, f, g, add-one) (paste-suc d at s j 0 n m)

pub paste_all : (d s : List ℕ) (at n : ℕ) → n ≡ length s → paste d at s n ≡ over at s d
unfolding over
paste_all d s at n e = rw (e, take-length s, append_assoc)

pub paste_none : (d s : List ℕ) (at n : ℕ) → n ≡ 0 → d ≡ paste d at s n
paste_none d s at n e = rw e (paste-zero d at s)

-- a text that was copied through the part of the buffer from its place on
pub over_copied : (b t part : List ℕ) (at : ℕ) → at + length t ≤ length b
    → part ≡ take (length t) t ++ drop (length t) (take (length b - at) (drop at b)) → put_mid at (length b - at) b part ≡ over at t b
unfolding over
over_copied b t part at room e = copied b t at room part e

pub length_over : (b t : List ℕ) (at : ℕ) → at + length t ≤ length b → length (over at t b) ≡ length b
unfolding over
length_over b t at h = simp (length-append, length-take, length-drop) (omega arith)

-- one text behind another
pub over-over : (b t u : List ℕ) (at : ℕ) → at + length t + length u ≤ length b → over (at + length t) u (over at t b) ≡ over at (t ++ u) b
unfolding over
over-over b t u at h =
    let l : length (take at b) ≡ at = length-take-le at b (omega arith) in
    let m : length (take at b ++ t) ≡ at + length t = length-append (take at b) t ∙ ap (λ k. k + length t) l in
    let r : List ℕ = drop (at + length t) b in
    rw (← append_assoc (take at b) t r, take_at (take at b ++ t) r (at + length t) m)
    (ap (λ x. take at b ++ t ++ (u ++ x)) (ap (λ k. drop (k + length u) (take at b ++ t ++ r)) (sym m) ∙ drop-append-add (take at b ++ t) r (length u) ∙ drop-drop (length u) (at + length t) b)
    ∙ append_assoc (take at b) t (u ++ drop (at + length t + length u) b)
    ∙ ap (λ x. take at b ++ x) (sym (append_assoc t u (drop (at + length t + length u) b)) ∙ ap (λ k. t ++ u ++ drop k b) (add_assoc at (length t) (length u) ∙ ap (λ k. at + k) (sym (length-append t u)))))

-- the answers of a function that puts a text of n bytes at the buffer's start
module _ (t b : List ℕ) (n : ℕ) (known : n ≡ length t) where
  pub put_short : length b < n → left (refused (plain 2)) b ≡ put_of t b
  unfolding put_of pick
  put_short h = rw (lt-ltb (length b) (length t) (omega arith))

  pub put-done : (r : ℕ) (o : List ℕ) → n ≤ length b → placed r o ≡ placed_at 0 t b → left (answered r) o ≡ put_of t b
  unfolding put_of pick
  put-done r o h e =
      let m : r ≡ length t = ap (λ p. p.next) e ∙ zero-add (length t) in
      let f : o ≡ over 0 t b = ap (λ p. p.buffer) e in
      rw (le-ltb (length b) (length t) (omega arith), m, f)

-- what `put_at` says of the two cases
module _ (t b : List ℕ) (at : ℕ) where
  pub put_none : length b < at + length t → placed at b ≡ put_at at t b
  unfolding put_at pick
  put_none h = rw (lt-ltb (length b) (at + length t) h)

  pub put_there : at + length t ≤ length b → placed_at at t b ≡ put_at at t b
  unfolding put_at pick
  put_there h = rw (le-ltb (length b) (at + length t) h)

pub put_copied : (b t part : List ℕ) (at : ℕ) → at ≤ length b → length t ≤ length b - at
    → part ≡ take (length t) t ++ drop (length t) (take (length b - at) (drop at b))
    → placed (at + length t) (put_mid at (length b - at) b part) ≡ put_at at t b
put_copied b t part at h k e = ap (placed (at + length t)) (over_copied b t part at (omega arith) e) ∙ put_there t b at (omega arith)

-- one byte put
pub byte_put : (x : ℕ) (o o' : List ℕ) (at r : ℕ) → placed r o' ≡ put_at at (x ∷ []) o → at < length o → (r ≡ at + 1) × (o' ≡ set o at x)
unfolding over
byte_put x o o' at r e h =
    let f : placed r o' ≡ placed_at at (x ∷ []) o = e ∙ sym (put_there (x ∷ []) o at (omega arith)) in
    (ap (λ p. p.next) f, ap (λ p. p.buffer) f ∙ rw (add-one at) (sym (set_split o at x h)))

-- the same text
pub put_same : (t u b : List ℕ) (at : ℕ) (x : Placed) → x ≡ put_at at t b → t ≡ u → x ≡ put_at at u b
put_same t u b at x e f = rw f at e

-- the place behind a text
module _ (t b o : List ℕ) (at r : ℕ) (known : placed r o ≡ put_at at t b) (room : at + length t ≤ length b) where
  pub place-behind : r ≡ at + length t
  place-behind = ap (λ p. p.next) (known ∙ sym (put_there t b at room))

-- a text that was put, behind any other
pub appended : (t o o' : List ℕ) (at r : ℕ) → placed r o' ≡ put_at at t o → Appends at t o r o'
appended t o o' at r e = record {
  behind = λ s b before h.
      let f : o ≡ over 0 s b = ap (λ p. p.buffer) before in
      let g : at ≡ 0 + length s = ap (λ p. p.next) before in
      let k : 0 + length s + length t ≤ length b = omega arith in
      let m : length o ≡ length b = ap length f ∙ length_over b s 0 (omega arith) in
      let n : 0 + length s + length t ≡ 0 + length (s ++ t) = rw (length-append s t) (omega arith) in
      e ∙ sym (put_there t o at (omega arith)) ∙ ap₂ (λ i z. placed (i + length t) (over i t z)) g f ∙ ap₂ placed n (over-over b s t 0 k);
}

-- no text
pub none_put : (o : List ℕ) (at : ℕ) → Appends at [] o at o
none_put o at = record { behind = λ s b before h. before ∙ ap (λ x. placed_at 0 x b) (sym (append-nil s)) }

-- two texts, one behind the other
pub both_appended : (t u o o' o'' : List ℕ) (at r r' : ℕ) → Appends at t o r o' → Appends r u o' r' o'' → Appends at (t ++ u) o r' o''
both_appended t u o o' o'' at r r' p q = record {
  behind = λ s b before h.
      let n : length (t ++ u) ≡ length t + length u = length-append t u in
      let k : length (s ++ t) + length u ≤ length b = rw (length-append s t) (omega arith) in
      q.behind (s ++ t) b (p.behind s b before (omega arith)) k ∙ ap (λ x. placed_at 0 x b) (append_assoc s t u);
}

pub then_put : (t u o o' o'' : List ℕ) (at r r' : ℕ) → Appends at t o r o' → placed r' o'' ≡ put_at r u o' → Appends at (t ++ u) o r' o''
then_put t u o o' o'' at r r' p e = both_appended t u o o' o'' at r r' p (appended u o' o'' r r' e)

-- a name and what it names, behind a text
pub then_both : (t u v o o' o'' : List ℕ) (at r r' : ℕ) → Appends at t o r o' → Appends r (u ++ v) o' r' o'' → Appends at (t ++ u ++ v) o r' o''
then_both t u v o o' o'' at r r' p q = rw (append_assoc t u v) (both_appended t (u ++ v) o o' o'' at r r' p q)

pub both-put : (t u o o' o'' : List ℕ) (at r r' : ℕ) → placed r o' ≡ put_at at t o → placed r' o'' ≡ put_at r u o' → Appends at (t ++ u) o r' o''
both-put t u o o' o'' at r r' e f = then_put t u o o' o'' at r r' (appended t o o' at r e) f

-- a test that decides the text
module _ (t : Bool) (a c o o' : List ℕ) (at r : ℕ) where
  pub when_true : t ≡ true → Appends at a o r o' → Appends at (pick t a c) o r o'
  unfolding pick
  when_true h e = rw h e

  pub when_false : t ≡ false → Appends at c o r o' → Appends at (pick t a c) o r o'
  unfolding pick
  when_false h e = rw h e

-- a text at the buffer's start
pub at-start : (t b o : List ℕ) (r : ℕ) → Appends 0 t b r o → length t ≤ length b → placed r o ≡ placed_at 0 t b
unfolding over
at-start t b o r p h = p.behind [] b refl (omega arith)
