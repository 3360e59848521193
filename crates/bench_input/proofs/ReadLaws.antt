-- Laws of reading a word: as HEX or BITRATE into a buffer, as a number of pairs, and as MS.
use mathlib.Core.Path.{◌≡◌, refl, sym, ap, ◌∙◌}
use mathlib.Core.Bool.{Bool, true, false, true≢false}
use mathlib.Core.List.{List, [], ◌∷◌, ◌++◌, append_assoc, append-nil}
use mathlib.Core.Option.{none}
use Rattle.std.specs.Prelude.{Option, Some, None, Result, Ok, Err}
use Prim.Native.Nat.{ℕ, ◌+◌, ◌-◌, ◌*◌, ◌/◌, ◌%◌, ◌≤◌}
use native.Mathlib.Nat.{zero-add}
use native.Mathlib.Omega.{arith}
use borrow.Author.Tests.{eq-eqb, ne_eqb, eqb-true}
use lib.Dec.{eqb}
use borrow.Rule.Slice.PartMut.{put_mid, post_of, take_put}
use lib.ListN.{length, take, drop, length-append, length-take, length-drop, drop_of_length-le}
use lib.Seq.{slice, take_at, drop_at, take-append-add, length-take-le, take-length, length-slice}
use Rattle.errors.specs.Choice.{pick, same}
use Rattle.errors.specs.declared.Refusal.{Refusal}
use Rattle.framing.specs.Copied.{copied}
use Rattle.bench.specs.Hex.{dash, pairs_of, read_of}
use Rattle.bench.specs.Numbers.{number_from, is_number, number_of}
use Rattle.bench.specs.HexLaws.{length_pairs, was_read, read_count, read_into, not_read}
use Rattle.errors.specs.Refusals.{returned}
use Rattle.bench.specs.Texts.{over}
use Rattle.bench_input.specs.Arguments.{Read, hex_arg, pairs_arg, text_arg, ms_arg}
use Rattle.bench_input.specs.Readings.{given, PutBetween}
use Rattle.framing.specs.Build.{left}

-- a word of another length than m pairs
pub pairs_other : (w : List ℕ) (m : ℕ) → (length w ≡ 2 * m → ⊥) → (f : List ℕ → Read) → none ≡ pairs_arg m w f
unfolding pairs_arg pick
pairs_other w m other f = rw (ne_eqb (length w) (2 * m) other)

-- a buffer that the word's m bytes fill
module _ (u p part : List ℕ) (q : Result ℕ Refusal) (m : ℕ) (size : length u ≡ 2 * m) (filled : length p ≡ m) (known : left (returned q) part ≡ read_of u p) where
  pairs-room : length u / 2 ≤ length p
  pairs-room = omega arith

  pairs-size : eqb (length u) (2 * m) ≡ true
  pairs-size = eq-eqb (length u) (2 * m) size

  pub pairs_read : (n : ℕ) → q ≡ Ok n → (f : List ℕ → Read) → f part ≡ pairs_arg m u f
  unfolding pairs_arg hex_arg pick over
  pairs_read n given f =
      let k : length p ≤ 0 + length (pairs_of u) = omega (arith, length_pairs u) in
      let e : part ≡ pairs_of u = read_into u p part q pairs-room known n given ∙ rw (drop_of_length-le p {i = 0 + length (pairs_of u)} k, append-nil) in
      rw (pairs-size, was_read u p part q pairs-room known n given) (ap f e)

  pub pairs_unread : (e : Refusal) → q ≡ Err e → (f : List ℕ → Read) → none ≡ pairs_arg m u f
  unfolding pairs_arg hex_arg pick
  pairs_unread e given f = rw (pairs-size, not_read u p part q pairs-room known e given)

-- a list behind another
placed_here : (a p x : List ℕ) (i n : ℕ) → length a ≡ i → n ≡ length p → slice i (i + n) (a ++ (p ++ x)) ≡ p
placed_here a p x i n h k =
    ap (λ j. drop i (take (j + n) (a ++ (p ++ x)))) (sym h)
    ∙ ap (drop i) (take-append-add a (p ++ x) n)
    ∙ drop_at a (take n (p ++ x)) i h
    ∙ take_at p x n (sym k)

-- behind a text that was copied to a place the buffer is as it was
copied_kept : (b t : List ℕ) (at : ℕ) → at + length t ≤ length b → (part : List ℕ) → part ≡ take (length t) t ++ drop (length t) (take (length b - at) (drop at b))
    → drop (at + length t) (put_mid at (length b - at) b part) ≡ drop (at + length t) b
copied_kept b t at room part e =
    let z : List ℕ = drop (at + length t) b in
    let l : length (take at b ++ t) ≡ at + length t = length-append (take at b) t ∙ rw (length-take-le at b (omega arith)) in
    rw (copied b t at room part e, ← append_assoc (take at b) t z) (drop_at (take at b ++ t) z (at + length t) l)

-- a word that was read from place `at` on, through the part of the buffer b from there
module _ (u b part : List ℕ) (at : ℕ) (q : Result ℕ Refusal) (room : at + length u ≤ length b) (known : left (returned q) part ≡ read_of u (take (length b - at) (drop at b))) where
  behind-room : length u / 2 ≤ length (take (length b - at) (drop at b))
  behind-room = simp (length-take, length-drop) (omega arith)

  before-kept : take at (put_mid at (length b - at) b part) ≡ take at b
  before-kept = take_put at (length b - at) b part (omega arith)

  module _ (n : ℕ) (given : q ≡ Ok n) where
    count-is : n ≡ length u / 2
    count-is = read_count u (take (length b - at) (drop at b)) part q behind-room known n given ∙ length_pairs u

    pub hex_read : (f : List ℕ → Read) → f (slice at (at + n) (put_mid at (length b - at) b part)) ≡ hex_arg u f
    unfolding hex_arg pick over
    hex_read f =
        let p : List ℕ = take (length b - at) (drop at b) in
        let d : List ℕ = drop (0 + length (pairs_of u)) p in
        let z : List ℕ = post_of at (length b - at) b in
        let e : part ++ z ≡ pairs_of u ++ (d ++ z) = ap (λ y. y ++ z) (read_into u p part q behind-room known n given) ∙ append_assoc (pairs_of u) d z in
        let l : length (take at b) ≡ at = length-take-le at b (omega arith) in
        rw (was_read u p part q behind-room known n given)
        (ap f (ap (λ y. slice at (at + n) (take at b ++ y)) e ∙ placed_here (take at b) (pairs_of u) (d ++ z) at n l (count-is ∙ sym (length_pairs u))))

    behind-kept : drop (at + n) (put_mid at (length b - at) b part) ≡ drop (at + n) b
    unfolding over
    behind-kept =
        let t : List ℕ = pairs_of u in
        let p : List ℕ = take (length b - at) (drop at b) in
        let e : part ≡ take (length t) t ++ drop (length t) p = read_into u p part q behind-room known n given ∙ rw (take-length t, zero-add (length t)) in
        let size : n ≡ length t = count-is ∙ sym (length_pairs u) in
        rw size (copied_kept b t at (omega (arith, length_pairs u)) part e)

    pub hex-behind : PutBetween at (at + n) (length u) b (put_mid at (length b - at) b part)
    hex-behind = record { from = omega arith; short = omega (arith, count-is); kept = before-kept; behind = behind-kept }

    pub hex_within : at + n ≤ length b
    hex_within = omega (arith, count-is)

  module _ (e : Refusal) (given : q ≡ Err e) where
    pub hex_unread : (f : List ℕ → Read) → none ≡ hex_arg u f
    unfolding hex_arg pick
    hex_unread f = rw (not_read u (take (length b - at) (drop at b)) part q behind-room known e given)

-- MS, by the number that was read of the word
pub ms_read : (w : List ℕ) (r : Option ℕ) → r ≡ number_of w → (f : ℕ → Read) → given r f ≡ ms_arg w f
unfolding number_of ms_arg pick
ms_read w r known f = ap (λ q. given q f) known ∙ go (is_number w)
  where
    go : (t : Bool) → given (pick t (Some (number_from 0 w)) None) f ≡ pick t (f (number_from 0 w)) none
    go true = refl
    go false = refl

-- whether a word is empty
pub empty_word : (w : List ℕ) → true ≡ eqb (length w) 0 → length w ≡ 0
empty_word w e = eqb-true (length w) 0 (sym e)

pub some_word : (w : List ℕ) → false ≡ eqb (length w) 0 → length w ≡ 0 → ⊥
some_word [] e h = true≢false (sym e)
some_word (x ∷ w) e h = omega arith

-- a BITRATE that was copied into the buffer b, or was not
module _ (w : List ℕ) where
  pub text_empty : (f : List ℕ → Read) → length w ≡ 0 → none ≡ text_arg w f
  unfolding text_arg pick
  text_empty f h = rw (eq-eqb (length w) 0 h)

  pub text_dash : (f : List ℕ → Read) → (length w ≡ 0 → ⊥) → same dash w ≡ true → f [] ≡ text_arg w f
  unfolding text_arg pick
  text_dash f more h = rw (ne_eqb (length w) 0 more, h)

  pub text_room : (b : List ℕ) (at : ℕ) → at + length w ≤ length b → length w ≤ length (take (length b - at) (drop at b))
  text_room b at room = simp (length-take, length-drop) (omega arith)

  module _ (b part : List ℕ) (at : ℕ) (room : at + length w ≤ length b) (e : part ≡ take (length w) w ++ drop (length w) (take (length b - at) (drop at b))) where
    text-inside : at + length w ≤ length b
    text-inside = omega arith

    pub text_read : (f : List ℕ → Read) → (length w ≡ 0 → ⊥) → same dash w ≡ false → f (slice at (at + length w) (put_mid at (length b - at) b part)) ≡ text_arg w f
    unfolding text_arg pick
    text_read f more h =
        let l : length (take at b) ≡ at = length-take-le at b (omega arith) in
        let here : slice at (at + length w) (put_mid at (length b - at) b part) ≡ w
        = ap (slice at (at + length w)) (copied b w at text-inside part e) ∙ placed_here (take at b) w (drop (at + length w) b) at (length w) l refl in
        rw (ne_eqb (length w) 0 more, h) (ap f here)

    pub text_between : PutBetween at (at + length w) (length w) b (put_mid at (length b - at) b part)
    text_between = record { from = omega arith; short = omega arith; kept = take_put at (length b - at) b part (omega arith); behind = copied_kept b w at text-inside part e }

-- an absent argument has no bytes
pub slice_none : (i j : ℕ) (b : List ℕ) → j ≤ i → slice i j b ≡ []
slice_none i j b h =
    let short : length (take j b) ≤ i = simp (length-take) (omega arith) in
    drop_of_length-le (take j b) {i = i} short

pub none_stays : (at size : ℕ) (b : List ℕ) → PutBetween at at size b b
none_stays at size b = record { from = omega arith; short = omega arith; kept = refl; behind = refl }

-- bytes that are no whole groups
pub not_whole : (at end size : ℕ) (o : List ℕ) → end ≤ length o → ((end - at) % size ≡ 0 → ⊥) → length (slice at end o) % size ≡ 0 → ⊥
not_whole at end size o inside h e = h (ap (λ n. n % size) (sym (length-slice at end o inside)) ∙ e)
