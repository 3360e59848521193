-- The laws that the proofs of `rate_length`, `is_valid_bitrate` and `parse` cite.
use mathlib.Core.Bool.{Bool, true, false, true≢false}
use mathlib.Core.List.{List, [], ◌∷◌, ◌++◌, append_assoc, append-nil}
use mathlib.Core.Logic.{◌⊎◌, inl, inr}
use mathlib.Core.Path.{◌≡◌, refl, sym, ◌∙◌, ap}
use Prim.Native.Nat.{ℕ, zero, suc, ◌+◌, ◌-◌, ◌<◌, ◌≤◌}
use native.Mathlib.Nat.{le_refl}
use native.Mathlib.Numerals.{add-one}
use native.Mathlib.Omega.{arith}
use borrow.Author.Tests.{eqb-true, eqb-false, leb-true, le-leb, lt-leb}
use lib.Dec.{leb, eqb}
use lib.ListN.{length, take, drop, get_or, length-append, length-drop}
use lib.Seq.{drop-append-add, get_or_at, length-take-le, take_all, take-length, take-suc}
use Rattle.errors.specs.Refusals.{answered, plain, refused}
use Rattle.targets.specs.Bitrates.{NoRate, StartsWithRate, is_rate, send_part_of}
use Rattle.targets.specs.Form.{Rate, SendPart, all_digits, is_capital, is_digit, one, rate, two}
use Rattle.targets.proofs.Laws.{and_l, and_r}
use Rattle.targets.proofs.Exact.{alone, both, parse_exact, rate-only, rate_yes, refused_exact}
use Rattle.errors.specs.Choice.{in_range}

-- ---- digits

no_digit : (b : ℕ) → is_capital b ≡ true → is_digit b ≡ false
unfolding in_range
no_digit b e =
    let h : 65 ≤ b = leb-true 65 b (and_l (leb 65 b) (leb b 90) e) in
    rw (le-leb 48 b (omega arith), lt-leb b 57 (omega arith))

-- i digits, and no digit behind them
record Digits (t : List ℕ) (i : ℕ) : Type 0 where
  within : i ≤ length t
  all : all_digits (take i t) ≡ true
  end : i < length t → is_digit (get_or t i 0) ≡ false

counted : (ds u : List ℕ) (l i : ℕ) → all_digits ds ≡ true → is_digit l ≡ false → Digits (ds ++ l ∷ u) i → i ≡ length ds
unfolding all_digits
counted [] u l zero e n d = refl
counted [] u l (suc i) e n d = absurd (true≢false (sym (and_l (is_digit l) _ d.all) ∙ n))
counted (x ∷ ds) u l zero e n d = absurd (true≢false (sym (and_l (is_digit x) _ e) ∙ d.end (omega arith)))
counted (x ∷ ds) u l (suc i) e n d =
    ap suc (counted ds u l i (and_r (is_digit x) _ e) n
    record { within = omega (arith, d.within); all = and_r (is_digit x) _ d.all; end = λ h. d.end (omega arith) })

-- the rate that such a text starts with
found : (t s u : List ℕ) (i : ℕ) → Digits t i → Rate s → t ≡ s ++ u → (length s ≡ i + 1) × (1 ≤ i) × (is_capital (get_or t i 0) ≡ true)
found t s u i d (rate ds l some all c) e =
    let w : t ≡ ds ++ l ∷ u = e ∙ append_assoc ds (l ∷ []) u in
    let n : i ≡ length ds = counted ds u l i all (no_digit l c) (rw w at d) in
    (omega (arith, n, length-append ds (l ∷ [])), omega (arith, n), rw (w, n, get_or_at ds l u 0 (length ds) refl) c)

-- digits up to a place, by places
digits_to : (t : List ℕ) (i : ℕ) → i ≤ length t → ((k : ℕ) → k < i → is_digit (get_or t k 0) ≡ true) → all_digits (take i t) ≡ true
unfolding all_digits
digits_to t zero h e = refl
digits_to [] (suc i) h e = absurd (omega arith)
digits_to (x ∷ t) (suc i) h e = rw (e 0 (omega arith)) (digits_to t i (omega arith) (λ k l. e (suc k) (omega arith)))

-- the place of the first byte that is no digit
module _ (t : List ℕ) (i : ℕ) (within : i < length t) (before : (k : ℕ) → k < i → is_digit (get_or t k 0) ≡ true) (here : is_digit (get_or t i 0) ≡ false) where
  digits : Digits t i
  digits = record { within = omega arith; all = digits_to t i (omega arith) before; end = λ _. here }

  pub letter_next : 1 ≤ i → is_capital (get_or t i 0) ≡ true → StartsWithRate t (i + 1)
  letter_next some e =
      record {
        within = omega arith;
        rated = rw (add-one i, take-suc t i 0 within) (rate (take i t) (get_or t i 0) (rw (length-take-le i t (omega arith)) some) (digits_to t i (omega arith) before) e);
        only = λ s u q w. (found t s u i digits q w).0;
      }

  pub no_letter : (is_capital (get_or t i 0) ≡ false) → NoRate t
  no_letter e s u q w = true≢false (sym (found t s u i digits q w).2 ∙ e)

  pub no_digits : i ≡ 0 → NoRate t
  no_digits e s u q w = let n = (found t s u i digits q w).1 in omega arith

pub no_more : (t : List ℕ) → ((k : ℕ) → k < length t → is_digit (get_or t k 0) ≡ true) → NoRate t
no_more t h s u q w =
    let d : Digits t (length t) = record { within = le_refl _; all = digits_to t (length t) (le_refl _) h; end = λ k. absurd (omega arith) } in
    let n : length s ≡ length t + 1 = (found t s u (length t) d q w).0 in
    omega (arith, n, ap length w, length-append s u)

-- ---- a text by the rate that it starts with

not_rate : (t : List ℕ) → (Rate t → ⊥) → false ≡ is_rate t
not_rate t h = go (is_rate t) (rate-only t)
  where
    go : (b : Bool) → (b ≡ true → Rate t) → false ≡ b
    go true f = absurd (h (f refl))
    go false f = refl

-- how a bitrate goes on behind its first rate
send-part : {t : List ℕ} {m : ℕ} → SendPart t m → (s : List ℕ) × Rate s × ((t ≡ s) ⊎ ((r : List ℕ) × Rate r × (t ≡ s ++ 47 ∷ r)))
send-part (one {s} q) = (s, q, inl refl)
send-part (two {s} {r} a b) = (s, a, inr (r, b, refl))

-- a text that starts with no rate
module _ (t : List ℕ) (none : NoRate t) where
  pub no_rate : false ≡ is_rate t
  no_rate = not_rate t (λ q. none t [] q (sym (append-nil t)))

  pub no_send : refused (plain 5) ≡ send_part_of t
  no_send = sym (refused_exact t (λ m s. go (send-part s)))
    where
      go : ((s : List ℕ) × Rate s × ((t ≡ s) ⊎ ((r : List ℕ) × Rate r × (t ≡ s ++ 47 ∷ r)))) → ⊥
      go (s, q, inl e) = none s [] q (e ∙ sym (append-nil s))
      go (s, q, inr (r, b, e)) = none s (47 ∷ r) q e

module _ (t : List ℕ) (n : ℕ) (starts : StartsWithRate t n) where
  pub is_rate_lem : eqb n (length t) ≡ is_rate t
  is_rate_lem = go (eqb n (length t)) refl
    where
      go : (b : Bool) → eqb n (length t) ≡ b → b ≡ is_rate t
      go true e = sym (rate_yes (rw (eqb-true n (length t) e, take-length) at starts.rated))
      go false e = not_rate t (λ q. eqb-false n (length t) e (sym (starts.only t [] q (sym (append-nil t)))))

  pub send_alone : n ≡ length t → answered n ≡ send_part_of t
  send_alone e = sym ((parse_exact t n).1 (alone t n starts.rated e))

  module _ (ne : n ≡ length t → ⊥) where
    -- what stands behind the rate of a bitrate
    second : {m : ℕ} → SendPart t m → (get_or t n 0 ≡ 47) × Rate (drop (n + 1) t)
    second s = go (send-part s)
      where
        go : ((s : List ℕ) × Rate s × ((t ≡ s) ⊎ ((r : List ℕ) × Rate r × (t ≡ s ++ 47 ∷ r)))) → (get_or t n 0 ≡ 47) × Rate (drop (n + 1) t)
        go (s, q, inl e) = absurd (ne (sym (starts.only s [] q (e ∙ sym (append-nil s))) ∙ ap length (sym e)))
        go (s, q, inr (r, b, w)) =
            let e : length s ≡ n = starts.only s (47 ∷ r) q w in
            (rw (w, ← e) (get_or_at s 47 r 0 (length s) refl), rw (w, ← e, drop-append-add s (47 ∷ r) 1) b)

    pub no_slash : (get_or t n 0 ≡ 47 → ⊥) → refused (plain 5) ≡ send_part_of t
    no_slash f = sym (refused_exact t (λ m s. f (second s).0))

    -- `r` is what the test of the receive part says
    module _ (r : Bool) (known : r ≡ is_rate (take (length t - (n + 1)) (drop (n + 1) t))) where
      receive : r ≡ is_rate (drop (n + 1) t)
      receive = known ∙ ap is_rate (take_all (length t - (n + 1)) (drop (n + 1) t) (simp length-drop (le_refl _)))

      pub send_both : get_or t n 0 ≡ 47 → r ≡ true → answered n ≡ send_part_of t
      send_both e f = sym ((parse_exact t n).1 (both t n starts.rated (omega (arith, starts.within, ne)) e (rate-only (drop (n + 1) t) (sym receive ∙ f))))

      pub receive_bad : r ≡ false → refused (plain 5) ≡ send_part_of t
      receive_bad f = sym (refused_exact t (λ m s. true≢false (sym (rate_yes (second s).1) ∙ sym receive ∙ f)))
