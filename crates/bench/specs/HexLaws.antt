-- Laws of HEX: the pairs of a word and the digits of bytes, place by place.
use Rattle.std.proofs.Math.Path.{◌≡◌, refl, ap}
use Rattle.std.proofs.Common.{sym, ap₂, ◌∙◌, add_assoc}
use Rattle.std.specs.Prelude.{◌&&◌, nat_lt, Result, Ok, Err, Bool, List, [], ◌∷◌, ℕ, zero, suc, ◌+◌, ◌-◌, ◌*◌, ◌/◌, ◌%◌, ◌≤◌, ◌<◌, ltb, eqb, get_or, set}
use Rattle.std.proofs.Math.Bool.{true, false}
use Rattle.std.proofs.lemmas.Bool.{false≢true}
use native.Mathlib.Omega.{arith}
use borrow.Author.Tests.{le-ltb, ltb-true, le-leb, lt-leb}
use Rattle.std.proofs.Math.ListN.{length}
use Rattle.std.proofs.Math.Seq.{paste}
use Rattle.std.specs.List.{list_all}
use Rattle.errors.specs.Refusals.{returned, answered, refused, plain}
use Rattle.errors.specs.Choice.{pick, same_not, in_range}
use Rattle.errors.specs.declared.Refusal.{Refusal}
use Rattle.framing.specs.Lists.{both}
use Rattle.bench.specs.Texts.{over, put_of, Placed, placed, put_at}
use Rattle.bench.specs.TextLaws.{paste_step, paste_all, put_short, put-done, put_none, put_there}
use Rattle.bench.specs.Hex.{value_of, dash, all_hex_digits, is_hex_of, pairs_of, read_of, digit_of, digits_of_lem, hex_of}
use Rattle.framing.specs.Build.{left}

both_left : (a b : Bool) → both a b ≡ true → a ≡ true
both_left true b h = refl
both_left false b h = absurd (false≢true h)

both_right : (a b : Bool) → both a b ≡ true → b ≡ true
both_right true b h = h
both_right false b h = absurd (false≢true h)

-- below the digits, and between the digits and the capitals
pub value_below : (d : ℕ) → d < 48 → 16 ≡ value_of d
unfolding value_of in_range pick
value_below d h = rw (lt-leb 48 d h, lt-leb 65 d (omega arith), lt-leb 97 d (omega arith))

pub value-between : (d : ℕ) → 57 < d → d < 65 → 16 ≡ value_of d
unfolding value_of in_range pick
value-between d h k = rw (le-leb 48 d (omega arith), lt-leb d 57 h, lt-leb 65 d k, lt-leb 97 d (omega arith))

pub length_pairs : (w : List ℕ) → length (pairs_of w) ≡ length w / 2
unfolding pairs_of
length_pairs [] = refl
length_pairs (h ∷ []) = refl
length_pairs (h ∷ l ∷ w) = ap suc (length_pairs w) ∙ omega arith

pub pair_at : (w : List ℕ) (i : ℕ) → i < length w / 2 → value_of (get_or w (2 * i) 0) * 16 + value_of (get_or w (2 * i + 1) 0) ≡ get_or (pairs_of w) i 0
unfolding pairs_of
pair_at [] i h = absurd (omega arith)
pair_at (d ∷ []) i h = absurd (omega arith)
pair_at (d ∷ e ∷ w) zero h = refl
pair_at (d ∷ e ∷ w) (suc i) h =
    let k : i < length w / 2 = omega arith in
    let f : 2 * suc i ≡ suc (suc (2 * i)) = omega arith in
    let g : 2 * suc i + 1 ≡ suc (suc (2 * i + 1)) = omega arith in
    rw (g, f) (pair_at w i k)

pub length_digits : (b : List ℕ) → length (digits_of_lem b) ≡ 2 * length b
unfolding digits_of_lem
length_digits [] = refl
length_digits (x ∷ b) = ap (λ k. suc (suc k)) (length_digits b) ∙ omega arith

pub high_at : (b : List ℕ) (i : ℕ) → i < length b → digit_of (get_or b i 0 / 16) ≡ get_or (digits_of_lem b) (2 * i) 0
unfolding digits_of_lem
high_at [] i h = absurd (omega arith)
high_at (x ∷ b) zero h = refl
high_at (x ∷ b) (suc i) h =
    let k : i < length b = omega arith in
    let f : 2 * suc i ≡ suc (suc (2 * i)) = omega arith in
    rw f (high_at b i k)

pub low_at : (b : List ℕ) (i : ℕ) → i < length b → digit_of (get_or b i 0 % 16) ≡ get_or (digits_of_lem b) (2 * i + 1) 0
unfolding digits_of_lem
low_at [] i h = absurd (omega arith)
low_at (x ∷ b) zero h = refl
low_at (x ∷ b) (suc i) h =
    let k : i < length b = omega arith in
    let f : 2 * suc i + 1 ≡ suc (suc (2 * i + 1)) = omega arith in
    rw f (low_at b i k)

pub hex_none : (b : List ℕ) → length b ≡ 0 → hex_of b ≡ 45 ∷ []
unfolding hex_of
hex_none [] e = refl
hex_none (x ∷ b) e = absurd (omega arith)

pub hex_some : (b : List ℕ) → (length b ≡ 0 → ⊥) → hex_of b ≡ digits_of_lem b
unfolding hex_of
hex_some [] e = absurd (e refl)
hex_some (x ∷ b) e = refl

-- the test of every digit, in the library's words
pub digits_all : (w : List ℕ) → all_hex_digits w ≡ list_all (λ d. nat_lt (value_of d) 16) w
unfolding all_hex_digits
digits_all [] = refl
digits_all (d ∷ w) = go (nat_lt (value_of d) 16) (digits_all w)
  where
    go : (t : Bool) → all_hex_digits w ≡ list_all (λ x. nat_lt (value_of x) 16) w → both t (all_hex_digits w) ≡ (t && list_all (λ x. nat_lt (value_of x) 16) w)
    go true h = h
    go false h = refl

-- two turns' worth of digits: the i-th byte's
pub digits_turn : (d b o : List ℕ) (at i x y : ℕ) → o ≡ paste d at (digits_of_lem b) (2 * i) → i < length b → at + 2 * length b ≤ length d
    → x ≡ digit_of (get_or b i 0 / 16) → y ≡ digit_of (get_or b i 0 % 16)
    → set (set o (at + 2 * i) x) (at + 2 * i + 1) y ≡ paste d at (digits_of_lem b) (2 * (i + 1))
digits_turn d b o at i x y e h room p q =
    let n : length (digits_of_lem b) ≡ 2 * length b = length_digits b in
    let f = paste_step d (digits_of_lem b) at (2 * i) (at + 2 * i) x o e refl (p ∙ high_at b i h) (omega arith) (omega arith) in
    let m : 2 * i + 1 + 1 ≡ 2 * (i + 1) = omega arith in
    paste_step d (digits_of_lem b) at (2 * i + 1) (at + 2 * i + 1) y _ f (add_assoc at (2 * i) 1) (q ∙ low_at b i h) (omega arith) (omega arith)
    ∙ ap (paste d at (digits_of_lem b)) m

pub digits_done : (d b o : List ℕ) (at i : ℕ) → o ≡ paste d at (digits_of_lem b) (2 * i) → i ≤ length b → length b ≤ i → o ≡ over at (digits_of_lem b) d
digits_done d b o at i e h k = let n = length_digits b in e ∙ paste_all d (digits_of_lem b) at (2 * i) (omega arith)

pub pairs_turn : (d w o : List ℕ) (i x y : ℕ) → o ≡ paste d 0 (pairs_of w) i → i < length w / 2 → length w / 2 ≤ length d
    → x ≡ value_of (get_or w (2 * i) 0) → y ≡ value_of (get_or w (2 * i + 1) 0) → set o i (x * 16 + y) ≡ paste d 0 (pairs_of w) (i + 1)
pairs_turn d w o i x y e h room p q =
    let n = length_pairs w in
    paste_step d (pairs_of w) 0 i i (x * 16 + y) o e (omega arith) (ap₂ (λ a b. a * 16 + b) p q ∙ pair_at w i h) (omega arith) (omega arith)

pub pairs_done : (d w o : List ℕ) (i : ℕ) → o ≡ paste d 0 (pairs_of w) i → i ≤ length w / 2 → length w / 2 ≤ i → o ≡ over 0 (pairs_of w) d
pairs_done d w o i e h k = let n = length_pairs w in e ∙ paste_all d (pairs_of w) 0 i (omega arith)

-- a digit's value is below 16
digit_value : (w : List ℕ) (i : ℕ) → all_hex_digits w ≡ true → i < length w → value_of (get_or w i 0) < 16
unfolding all_hex_digits
digit_value [] i t h = absurd (omega arith)
digit_value (x ∷ w) zero t h = ltb-true (value_of x) 16 (both_left (ltb (value_of x) 16) (all_hex_digits w) t)
digit_value (x ∷ w) (suc i) t h = digit_value w i (both_right (ltb (value_of x) 16) (all_hex_digits w) t) (omega arith)

-- a word that can be read and has a pair is all digits
hex_digits : (w : List ℕ) → is_hex_of w ≡ true → 2 ≤ length w → all_hex_digits w ≡ true
unfolding is_hex_of pick
hex_digits w t h =
    let n : dash ≡ w → ⊥ = λ e. omega (arith, ap length e) in
    both_right (eqb (length w % 2) 0) (all_hex_digits w) (both_right (ltb 0 (length w)) (both (eqb (length w % 2) 0) (all_hex_digits w)) (rw (same_not dash w n) at t))

pub high_value : (w : List ℕ) (i : ℕ) → is_hex_of w ≡ true → i < length w / 2 → value_of (get_or w (2 * i) 0) < 16
high_value w i t h = digit_value w (2 * i) (hex_digits w t (omega arith)) (omega arith)

pub low_value : (w : List ℕ) (i : ℕ) → is_hex_of w ≡ true → i < length w / 2 → value_of (get_or w (2 * i + 1) 0) < 16
low_value w i t h = digit_value w (2 * i + 1) (hex_digits w t (omega arith)) (omega arith)

-- `put` by the two cases of its bytes
pub put-dash : (b out : List ℕ) (at : ℕ) (x : Placed) → length b ≡ 0 → x ≡ put_at at dash out → x ≡ put_at at (hex_of b) out
put-dash b out at x none e = rw (hex_none b none) e

module _ (b out : List ℕ) (at : ℕ) (some : length b ≡ 0 → ⊥) where
  length_some : length (hex_of b) ≡ 2 * length b
  length_some = ap length (hex_some b some) ∙ length_digits b

  pub no_place : length out < at → placed at out ≡ put_at at (hex_of b) out
  no_place h = put_none (hex_of b) out at (omega (arith, length_some))

  pub no_room : (length out - at) / 2 < length b → at ≤ length out → placed at out ≡ put_at at (hex_of b) out
  no_room h k = put_none (hex_of b) out at (omega (arith, length_some))

  pub put_some : (o : List ℕ) → length b ≤ (length out - at) / 2 → at ≤ length out → o ≡ over at (digits_of_lem b) out → placed (at + 2 * length b) o ≡ put_at at (hex_of b) out
  put_some o h k e =
      ap₂ placed (ap (λ k. at + k) (sym length_some)) (e ∙ ap (λ t. over at t out) (sym (hex_some b some))) ∙ put_there (hex_of b) out at (omega (arith, length_some))

-- the answers of `read`, by what it tested
module _ (w b : List ℕ) (r : Bool) (known : r ≡ is_hex_of w) where
  pub read_bad : r ≡ false → left (refused (plain 4)) b ≡ read_of w b
  unfolding read_of pick
  read_bad t = rw (sym known ∙ t)

  pub read_short : r ≡ true → length b < length w / 2 → left (refused (plain 2)) b ≡ read_of w b
  unfolding read_of pick
  read_short t h = rw (sym known ∙ t) (put_short (pairs_of w) b (length w / 2) (sym (length_pairs w)) h)

  pub read_done : (o : List ℕ) → r ≡ true → length w / 2 ≤ length b → o ≡ over 0 (pairs_of w) b → left (answered (length w / 2)) o ≡ read_of w b
  unfolding read_of pick
  read_done o t h e =
      let n = length_pairs w in
      let f : length w / 2 ≡ 0 + length (pairs_of w) = omega arith in
      rw (sym known ∙ t) (put-done (pairs_of w) b (length w / 2) (sym n) (length w / 2) o h (ap₂ placed f e))

  pub may_read : r ≡ true → is_hex_of w ≡ true
  may_read t = sym known ∙ t

pub hex_short : (b : List ℕ) → length (hex_of b) ≤ 2 * length b + 1
unfolding hex_of
hex_short [] = omega arith
hex_short (x ∷ b) = omega (arith, length_digits (x ∷ b))

-- a word that was read into a buffer with room for its bytes
module _ (w b o : List ℕ) (r : Result ℕ Refusal) (room : length w / 2 ≤ length b) (known : left (returned r) o ≡ read_of w b) where
  read_by : (t : Bool) → is_hex_of w ≡ t → left (returned r) o ≡ pick t (left (answered (length (pairs_of w))) (over 0 (pairs_of w) b)) (left (refused (plain 4)) b)
  unfolding read_of put_of pick
  read_by true h = known ∙ rw (h, le-ltb (length b) (length (pairs_of w)) (omega (arith, length_pairs w)))
  read_by false h = known ∙ rw h

  module _ (n : ℕ) (q : r ≡ Ok n) where
    pub was_read : is_hex_of w ≡ true
    unfolding returned pick
    was_read = go (is_hex_of w) refl
      where
        go : (t : Bool) → is_hex_of w ≡ t → t ≡ true
        go true h = refl
        go false h =
            let z : ◌≡◌ {A = ℕ} 0 1 = cc (ap (λ l. l.result) (read_by false h), ap returned q) in
            absurd (omega arith)

    pub read_count : n ≡ length (pairs_of w)
    unfolding returned pick
    read_count = cc (ap (λ l. l.result) (read_by true was_read), ap returned q)

    pub read_into : o ≡ over 0 (pairs_of w) b
    unfolding pick
    read_into = ap (λ l. l.buffer) (read_by true was_read)

  pub not_read : (e : Refusal) → r ≡ Err e → is_hex_of w ≡ false
  unfolding returned pick
  not_read e q = go (is_hex_of w) refl
    where
      go : (t : Bool) → is_hex_of w ≡ t → t ≡ false
      go false h = refl
      go true h =
          let z : ◌≡◌ {A = ℕ} 0 1 = cc (ap (λ l. l.result) (read_by true h), ap returned q) in
          absurd (omega arith)
