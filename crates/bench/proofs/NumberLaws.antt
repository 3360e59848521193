-- Laws of decimal digits, place by place.
use mathlib.Core.Path.{◌≡◌, sym, ap, ◌∙◌}
use mathlib.Core.Bool.{false}
use mathlib.Core.List.{List, [], ◌∷◌}
use Rattle.std.specs.Prelude.{Some, None}
use Prim.Native.Nat.{ℕ, ◌+◌, ◌*◌, ◌≤◌, ◌<◌}
use native.Mathlib.Numerals.{add-one}
use native.Mathlib.Omega.{arith}
use borrow.Author.Tests.{lt-ltb, le-ltb, le-leb, lt-leb}
use lib.Dec.{ltb, eqb}
use lib.ListN.{length, get_or, drop, drop_of_length-le}
use lib.Seq.{drop-cons}
use Rattle.errors.specs.Choice.{pick}
use Rattle.framing.specs.Lists.{both, both_false_r}
use Rattle.bench.specs.Numbers.{digit_value_of, all_decimal, number_from, number_limit, is_number, number_of}

grows : (n : ℕ) (w : List ℕ) → n ≤ number_from n w
unfolding number_from
grows n [] = omega arith
grows n (d ∷ w) = omega (arith, grows (n * 10 + digit_value_of d) w)

unread : (w : List ℕ) → is_number w ≡ false → None ≡ number_of w
unfolding number_of pick
unread w h = rw h

pub number_empty : (w : List ℕ) → length w ≡ 0 → None ≡ number_of w
unfolding is_number
number_empty w h = unread w (rw (le-ltb 0 (length w) (omega arith)))

module _ (w : List ℕ) (i : ℕ) (inside : i < length w) where
  digits_step : all_decimal (drop i w) ≡ both (ltb (digit_value_of (get_or w i 0)) 10) (all_decimal (drop (i + 1) w))
  unfolding all_decimal
  digits_step = rw (drop-cons w i 0 inside, add-one)

  pub next_digits : all_decimal w ≡ all_decimal (drop i w) → digit_value_of (get_or w i 0) < 10 → all_decimal w ≡ all_decimal (drop (i + 1) w)
  next_digits e h = e ∙ digits_step ∙ rw (lt-ltb (digit_value_of (get_or w i 0)) 10 h)

  pub no_digit : all_decimal w ≡ all_decimal (drop i w) → digit_value_of (get_or w i 0) ≡ 10 → None ≡ number_of w
  unfolding is_number
  no_digit e h =
      let none_here : all_decimal w ≡ false = e ∙ digits_step ∙ rw (le-ltb (digit_value_of (get_or w i 0)) 10 (omega (arith, h))) in
      unread w (both_false_r (ltb 0 (length w)) _ (rw none_here))

  -- behind the number n
  module _ (n : ℕ) (e : number_from 0 w ≡ number_from n (drop i w)) where
    number_step : number_from 0 w ≡ number_from (n * 10 + digit_value_of (get_or w i 0)) (drop (i + 1) w)
    unfolding number_from
    number_step = e ∙ rw (drop-cons w i 0 inside, add-one)

    pub next-number : (m : ℕ) → m ≡ n * 10 + digit_value_of (get_or w i 0) → number_from 0 w ≡ number_from m (drop (i + 1) w)
    next-number m f = number_step ∙ ap (λ k. number_from k (drop (i + 1) w)) (sym f)

    pub over-limit : number_limit < n * 10 + digit_value_of (get_or w i 0) → None ≡ number_of w
    unfolding is_number
    over-limit h =
        let m : ℕ = n * 10 + digit_value_of (get_or w i 0) in
        unread w (both_false_r (ltb 0 (length w)) _ (both_false_r (all_decimal w) _ (lt-leb (number_from 0 w) number_limit (omega (arith, number_step, grows m (drop (i + 1) w))))))

pub number_some : (w : List ℕ) → false ≡ eqb (length w) 0 → 0 < length w
number_some [] e = cc
number_some (d ∷ w) e = omega arith

pub number_read : (w : List ℕ) (n i : ℕ) → 0 < length w → length w ≤ i → number_from 0 w ≡ number_from n (drop i w) → all_decimal w ≡ all_decimal (drop i w) → n ≤ number_limit
    → Some n ≡ number_of w
unfolding number_of is_number number_from all_decimal pick
number_read w n i more done e d h =
    let z : drop i w ≡ [] = drop_of_length-le w {i = i} done in
    let number : number_from 0 w ≡ n = e ∙ ap (number_from n) z in
    rw (lt-ltb 0 (length w) more, d ∙ ap all_decimal z, number, le-leb n number_limit h)
