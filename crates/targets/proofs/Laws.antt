-- The laws that the proofs of `bitrate_code` and `code` cite; those of the other functions are in RateLaws.
use Rattle.std.specs.Prelude.{Result, Ok, Err}
use Rattle.std.specs.Result.{IsErrAnd}
use Rattle.std.specs.Char.{is_ascii_digit}
use Rattle.std.proofs.lemmas.Result.{err_from_is_err_and}
use mathlib.Core.Bool.{Bool, true, false, cond, ◌&&◌, true≢false}
use mathlib.Core.List.{List, [], ◌∷◌}
use mathlib.Core.Path.{◌≡◌, refl, sym, ◌∙◌, ap}
use Prim.Native.Nat.{ℕ, suc, ◌+◌, ◌-◌, ◌*◌, ◌/◌, ◌%◌, ◌<◌, ◌≤◌}
use native.Mathlib.Omega.{arith}
use borrow.Author.Tests.{leb-true}
use lib.Dec.{eqb, leb}
use lib.ListN.{length, take, get_or}
use lib.Seq.{take_all}
use Rattle.errors.specs.Refusals.{answered, numbered, plain, refused, returned}
use Rattle.errors.specs.declared.Refusal.{Refusal}
use Rattle.targets.specs.declared.Bitrate.{Bitrate}
use Rattle.targets.specs.declared.Bitrate.TheVariants.{B106A, B212F, B424F, B106B, B212B, B424B, B848B, Other}
use Rattle.errors.specs.Choice.{same, same_is, same_not, in_range}
use Rattle.targets.specs.Form.{all_digits, is_digit, IsDigit}
use Rattle.targets.specs.Bitrates.{send_length, is_rate, is_bitrate, send_part_of, code_of, rate_number, ascii, choice_of, choice_on, coded, chosen, no_code_of}

pub and_l : (a b : Bool) → (a && b) ≡ true → a ≡ true
and_l true b e = refl
and_l false b e = e

pub and_r : (a b : Bool) → (a && b) ≡ true → b ≡ true
and_r true b e = e
and_r false b e = absurd (true≢false (sym e))

-- ---- three digits

digit_least : (b : ℕ) → is_digit b ≡ true → 48 ≤ b
unfolding in_range
digit_least b h = leb-true 48 b (and_l (leb 48 b) (leb b 57) h)

digit_most : (b : ℕ) → is_digit b ≡ true → b ≤ 57
unfolding in_range
digit_most b h = leb-true b 57 (and_r (leb 48 b) (leb b 57) h)

pub no_digit : (b : ℕ) (r : Bool) → r ≡ is_ascii_digit b → r ≡ false → is_digit b ≡ false
unfolding in_range
no_digit b r e h = sym e ∙ h

pub a_digit : (b : ℕ) (r : Bool) → r ≡ is_ascii_digit b → r ≡ true → IsDigit b (b - 48)
unfolding in_range
a_digit b r e h =
    let d : is_digit b ≡ true = sym e ∙ h in
    record { is = d; at = omega (arith, digit_least b d); small = omega (arith, digit_most b d) }

module _ (a b c : ℕ) where
  no_number : (p q r : Bool) → is_digit a ≡ p → is_digit b ≡ q → is_digit c ≡ r → (p && (q && r)) ≡ false → rate_number a b c ≡ 0
  unfolding rate_number
  no_number p q r e f g h = rw (e, f, g, h)

  pub first_none : is_digit a ≡ false → rate_number a b c ≡ 0
  first_none h = no_number false _ _ h refl refl refl

  pub second_none : is_digit b ≡ false → rate_number a b c ≡ 0
  second_none h = go (is_digit a) refl
    where
      go : (p : Bool) → is_digit a ≡ p → rate_number a b c ≡ 0
      go true e = no_number true false _ e h refl refl
      go false e = first_none e

  pub third_none : is_digit c ≡ false → rate_number a b c ≡ 0
  third_none h = go (is_digit a) (is_digit b) refl refl
    where
      go : (p q : Bool) → is_digit a ≡ p → is_digit b ≡ q → rate_number a b c ≡ 0
      go true true e f = no_number true true false e f h refl
      go true false e f = second_none f
      go false q e f = first_none e

  pub three_digits : (x y z : ℕ) → IsDigit a x → IsDigit b y → IsDigit c z → 100 * x + 10 * y + z ≡ rate_number a b c
  unfolding rate_number
  three_digits x y z d e f = rw (d.is, e.is, f.is) (omega (arith, d.at, e.at, f.at))

-- the digits that write a number
digits_of : (a b c k : ℕ) → rate_number a b c ≡ k → 1 ≤ k → (a ≡ 48 + k / 100) × (b ≡ 48 + k / 10 % 10) × (c ≡ 48 + k % 10)
unfolding rate_number
digits_of a b c k h some = go (is_digit a) (is_digit b) (is_digit c) refl refl refl h
  where
    go : (p q r : Bool) → is_digit a ≡ p → is_digit b ≡ q → is_digit c ≡ r → cond (p && (q && r)) (100 * (a - 48) + 10 * (b - 48) + (c - 48)) 0 ≡ k
        → (a ≡ 48 + k / 100) × (b ≡ 48 + k / 10 % 10) × (c ≡ 48 + k % 10)
    go true true true e f g n =
        let la = digit_least a e in
        let lb = digit_least b f in
        let lc = digit_least c g in
        let ma = digit_most a e in
        let mb = digit_most b f in
        let mc = digit_most c g in
        (omega arith, omega arith, omega arith)
    go true true false e f g n = absurd (omega arith)
    go true false r e f g n = absurd (omega arith)
    go false q r e f g n = absurd (omega arith)

-- A number and a suffix of one of the seven texts.
pub rate_code : (a b c d n : ℕ) → n ≡ rate_number a b c → (k e : ℕ) → n ≡ k → d ≡ e → 1 ≤ k
    → (x : Bitrate) → x ≡ code_of ((48 + k / 100) ∷ (48 + k / 10 % 10) ∷ (48 + k % 10) ∷ e ∷ []) → x ≡ code_of (a ∷ b ∷ c ∷ d ∷ [])
rate_code a b c d n known k e is suffix some x h =
    let w = digits_of a b c k (sym known ∙ is) some in
    rw (w.0, w.1, w.2, suffix) h

-- two texts that a measure f gives apart
differ : (f : List ℕ → ℕ) (s u : List ℕ) → (f s ≡ f u → ⊥) → same s u ≡ false
differ f s u n = same_not s u (λ e. n (ap f e))

pub other : (f : List ℕ → ℕ) (s : List ℕ) → (f s ≡ f (ascii "106A") → ⊥) → (f s ≡ f (ascii "212F") → ⊥) → (f s ≡ f (ascii "424F") → ⊥)
    → (f s ≡ f (ascii "106B") → ⊥) → (f s ≡ f (ascii "212B") → ⊥) → (f s ≡ f (ascii "424B") → ⊥) → (f s ≡ f (ascii "848B") → ⊥)
    → Other ≡ code_of s
unfolding code_of
other f s h₁ h₂ h₃ h₄ h₅ h₆ h₇ = rw (
  differ f s (ascii "106A") h₁,
  differ f s (ascii "212F") h₂,
  differ f s (ascii "424F") h₃,
  differ f s (ascii "106B") h₄,
  differ f s (ascii "212B") h₅,
  differ f s (ascii "424B") h₆,
  differ f s (ascii "848B") h₇,
)

-- the number and the suffix of a text as one number
rate_of : List ℕ → ℕ
rate_of s = 256 * rate_number (get_or s 0 0) (get_or s 1 0) (get_or s 2 0) + get_or s 3 0

-- A number and a suffix of none of them.
pub no_code : (a b c d n : ℕ) → n ≡ rate_number a b c → d < 256
    → (n ≡ 106 → (d ≡ 65 → ⊥) × (d ≡ 66 → ⊥)) → (n ≡ 212 → (d ≡ 66 → ⊥) × (d ≡ 70 → ⊥)) → (n ≡ 424 → (d ≡ 66 → ⊥) × (d ≡ 70 → ⊥)) → (n ≡ 848 → d ≡ 66 → ⊥)
    → Other ≡ code_of (a ∷ b ∷ c ∷ d ∷ [])
unfolding rate_of rate_number in_range
no_code a b c d n known byte on-106 on-212 on-424 on-848 =
    other rate_of (a ∷ b ∷ c ∷ d ∷ [])
    (λ e. (on-106 (number 106 65 (omega arith) e)).0 (suffix 106 65 (omega arith) e))
    (λ e. (on-212 (number 212 70 (omega arith) e)).1 (suffix 212 70 (omega arith) e))
    (λ e. (on-424 (number 424 70 (omega arith) e)).1 (suffix 424 70 (omega arith) e))
    (λ e. (on-106 (number 106 66 (omega arith) e)).1 (suffix 106 66 (omega arith) e))
    (λ e. (on-212 (number 212 66 (omega arith) e)).0 (suffix 212 66 (omega arith) e))
    (λ e. (on-424 (number 424 66 (omega arith) e)).0 (suffix 424 66 (omega arith) e))
    (λ e. on-848 (number 848 66 (omega arith) e) (suffix 848 66 (omega arith) e))
  where
    number : (k u : ℕ) → u < 256 → 256 * rate_number a b c + d ≡ 256 * k + u → n ≡ k
    number k u h e = omega arith

    suffix : (k u : ℕ) → u < 256 → 256 * rate_number a b c + d ≡ 256 * k + u → d ≡ u
    suffix k u h e = omega arith

-- One of the seven texts is a well-formed bitrate, whose send part it is.
module _ (t : List ℕ) where
  by-text : (b : Bool) (u : List ℕ) (x y : Bitrate) → (b ≡ true → t ≡ u) → chosen x ≡ choice_of u → ((y ≡ Other → ⊥) → chosen y ≡ choice_of t)
      → (cond b x y ≡ Other → ⊥) → chosen (cond b x y) ≡ choice_of t
  by-text true u x y is e f n = e ∙ ap choice_of (sym (is refl))
  by-text false u x y is e f n = f n

  pub known_choice : (code_of t ≡ Other → ⊥) → chosen (code_of t) ≡ choice_of t
  unfolding code_of choice_of send_part_of is_bitrate is_rate send_length all_digits in_range same
  known_choice =
      by-text (same t (ascii "106A")) (ascii "106A") B106A _ (same_is t (ascii "106A")) refl
      (by-text (same t (ascii "212F")) (ascii "212F") B212F _ (same_is t (ascii "212F")) refl
      (by-text (same t (ascii "424F")) (ascii "424F") B424F _ (same_is t (ascii "424F")) refl
      (by-text (same t (ascii "106B")) (ascii "106B") B106B _ (same_is t (ascii "106B")) refl
      (by-text (same t (ascii "212B")) (ascii "212B") B212B _ (same_is t (ascii "212B")) refl
      (by-text (same t (ascii "424B")) (ascii "424B") B424B _ (same_is t (ascii "424B")) refl
      (by-text (same t (ascii "848B")) (ascii "848B") B848B Other (same_is t (ascii "848B")) refl (λ n. absurd (n refl))))))))

pub send_le : (t : List ℕ) → send_length t ≤ length t
unfolding send_length
send_le [] = omega arith
send_le (b ∷ bs) = here (eqb b 47) (send_le bs)
  where
    here : (e : Bool) → send_length bs ≤ length bs → cond e 0 (send_length bs + 1) ≤ suc (length bs)
    here true h = omega arith
    here false h = omega arith

front_four : (t : List ℕ) → 4 ≤ length t → take 4 t ≡ get_or t 0 0 ∷ get_or t 1 0 ∷ get_or t 2 0 ∷ get_or t 3 0 ∷ []
front_four [] h = absurd (omega arith)
front_four (a ∷ []) h = absurd (omega arith)
front_four (a ∷ b ∷ []) h = absurd (omega arith)
front_four (a ∷ b ∷ c ∷ []) h = absurd (omega arith)
front_four (a ∷ b ∷ c ∷ d ∷ t) h = refl

pub refused_too : (t : List ℕ) (r : Result ℕ Refusal) (e : Refusal) → r ≡ Err e → returned r ≡ send_part_of t → no_code_of (numbered e) ≡ choice_of t
unfolding send_part_of choice_of returned
refused_too t r e is known = go (is_bitrate t) (ap returned (sym is) ∙ known)
  where
    go : (b : Bool) → refused (numbered e) ≡ cond b (answered (send_length t)) (refused (plain 5))
        → no_code_of (numbered e) ≡ choice_on t (cond b (answered (send_length t)) (refused (plain 5)))
    go true h = cc
    go false h = cc

-- what an answer of the send part's length says
pub sent : (t : List ℕ) (n : ℕ) → answered n ≡ send_part_of t → (is_bitrate t ≡ true) × (n ≡ send_length t)
unfolding send_part_of
sent t n e = go (is_bitrate t) e
  where
    go : (b : Bool) → answered n ≡ cond b (answered (send_length t)) (refused (plain 5)) → (b ≡ true) × (n ≡ send_length t)
    go true h = (refl, cc)
    go false h = (cc, cc)

-- A text that is parsed, with a send part of n bytes.
module _ (t : List ℕ) (r : Result ℕ Refusal) (n : ℕ) (is : r ≡ Ok n) (known : returned r ≡ send_part_of t) where
  same_known : answered n ≡ send_part_of t
  unfolding returned
  same_known = ap returned (sym is) ∙ known

  pub sent_le : n ≤ length t
  sent_le = omega (arith, (sent t n same_known).1, send_le t)

  pub part_code : (x : Bitrate) → x ≡ code_of (take n t) → chosen x ≡ choice_of t
  unfolding choice_of
  part_code x e = rw (e, ← same_known)

-- A refusal of the parse is the answer.
pub refused_on : (t : List ℕ) (r : Result ℕ Refusal) (e : Refusal) (x : Result Bitrate Refusal) → r ≡ Err e → returned r ≡ send_part_of t → IsErrAnd x (λ y. y ≡ e) → coded x ≡ choice_of t
refused_on t r e x is known h = let w = err_from_is_err_and x h in rw (w.1, w.2) (refused_too t r e is known)

-- One of the seven texts.
pub whole_code : (t : List ℕ) (x : Bitrate) → x ≡ code_of t → (x ≡ Other → ⊥) → chosen x ≡ choice_of t
whole_code t x e n = rw e (known_choice t (λ h. n (e ∙ h)))

-- A text of four bytes, and of another length.
pub four_text : (t : List ℕ) (x : Bitrate) → length t ≡ 4 → x ≡ code_of (get_or t 0 0 ∷ get_or t 1 0 ∷ get_or t 2 0 ∷ get_or t 3 0 ∷ []) → x ≡ code_of t
four_text t x h e = e ∙ ap code_of (sym (front_four t (omega (arith, h))) ∙ take_all 4 t (omega (arith, h)))

pub other_text : (t : List ℕ) → (length t ≡ 4 → ⊥) → Other ≡ code_of t
other_text t h = other length t h h h h h h h
