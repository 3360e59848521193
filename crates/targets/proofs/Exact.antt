-- `is_rate` and `send_part_of` take exactly the texts of `Form`; with some texts, those that document 01 names among them.
use mathlib.Core.Bool.{Bool, true, false, cond, ◌&&◌, ◌||◌, or-true}
use mathlib.Core.List.{List, [], ◌∷◌, ◌++◌, append_assoc, append-nil}
use mathlib.Core.Logic.{◌↔◌}
use mathlib.Core.Path.{◌≡◌, refl, sym, ◌∙◌, subst, subst₂}
use Prim.Native.Nat.{ℕ, suc, ◌+◌, ◌-◌, ◌≤◌, ◌<◌}
use native.Mathlib.Numerals.{add-one}
use native.Mathlib.Omega.{arith}
use borrow.Author.Tests.{eq-eqb, eqb-true, eqb-false, leb-true, le-leb, ne_eqb}
use lib.Dec.{leb, eqb}
use lib.ListN.{length, take, drop, get_or, length-append}
use lib.Seq.{drop-append-add, get_or_at, length-take-le, split_at, take_all, take_at, take-length, take-suc}
use Rattle.errors.specs.Refusals.{answered, plain, refused}
use Rattle.targets.specs.declared.Bitrate.TheVariants.{B848B, Other}
use Rattle.errors.specs.Choice.{same, in_range}
use Rattle.targets.specs.Bitrates.{ascii, choice_of, chosen, code_of, is_bitrate, is_rate, no_code_of, send_part_of, send_length}
use Rattle.targets.specs.Form.{Rate, SendPart, all_digits, is_capital, is_digit, one, rate, two}
use Rattle.targets.proofs.Laws.{and_l, and_r, send_le, sent}

pub rate_yes : {t : List ℕ} → Rate t → is_rate t ≡ true
unfolding is_rate
rate_yes (rate ds l h d c) =
    let n : length (ds ++ l ∷ []) ≡ length ds + 1 = length-append ds (l ∷ []) in
    let k : length (ds ++ l ∷ []) - 1 ≡ length ds = omega arith in
    rw (le-leb 2 (length (ds ++ l ∷ [])) (omega arith), k, take_at ds (l ∷ []) (length ds) refl, get_or_at ds l [] 0 (length ds) refl, d, c)

pub rate-only : (t : List ℕ) → is_rate t ≡ true → Rate t
unfolding is_rate
rate-only t e =
    let k = length t - 1 in
    let h = and_l (leb 2 (length t) && all_digits (take k t)) (is_capital (get_or t k 0)) e in
    let long : 2 ≤ length t = leb-true 2 (length t) (and_l (leb 2 (length t)) (all_digits (take k t)) h) in
    let whole : take k t ++ get_or t k 0 ∷ [] ≡ t = sym (take-suc t k 0 (omega arith)) ∙ take_all (suc k) t (omega arith) in
    subst Rate whole
    (rate (take k t) (get_or t k 0) (rw (length-take-le k t (omega arith)) (omega arith)) (and_r (leb 2 (length t)) (all_digits (take k t)) h)
    (and_r (leb 2 (length t) && all_digits (take k t)) (is_capital (get_or t k 0)) e))

pub rate_exact : (t : List ℕ) → (is_rate t ≡ true) ↔ Rate t
rate_exact t = (rate-only t, rate_yes)

-- no `/` stands in a rate
above : (low high b : ℕ) → 47 < low → in_range low high b ≡ true → eqb b 47 ≡ false
unfolding in_range
above low high b h e =
    let k : low ≤ b = leb-true low b (and_l (leb low b) (leb b high) e) in ne_eqb b 47 (λ (z : b ≡ 47). omega arith)

past_digits : (ds u : List ℕ) → all_digits ds ≡ true → send_length (ds ++ u) ≡ length ds + send_length u
unfolding all_digits send_length
past_digits [] u e = omega arith
past_digits (d ∷ ds) u e =
    let h : send_length (ds ++ u) ≡ length ds + send_length u = past_digits ds u (and_r (is_digit d) (all_digits ds) e) in
    rw (above 48 57 d (omega arith) (and_l (is_digit d) (all_digits ds) e)) (omega arith)

past_rate : {s : List ℕ} → Rate s → (u : List ℕ) → send_length (s ++ u) ≡ length s + send_length u
unfolding send_length
past_rate (rate ds l h d c) u =
    let k : send_length (l ∷ u) ≡ send_length u + 1 = rw (above 65 90 l (omega arith) c) in
    rw append_assoc (omega (arith, past_digits ds (l ∷ u) d, k, length-append ds (l ∷ [])))

sends_yes : {t : List ℕ} {n : ℕ} → SendPart t n → send_part_of t ≡ answered n
unfolding send_part_of is_bitrate send_length
sends_yes (one {s} r) =
    let n : send_length s ≡ length s = omega (arith, rw append-nil at (past_rate r [])) in
    rw (n, take-length, rate_yes r, eq-eqb (length s) (length s) refl)
sends_yes (two {s} {r} a b) =
    let n : send_length (s ++ 47 ∷ r) ≡ length s = omega (arith, past_rate a (47 ∷ r)) in
    rw (n, take_at s (47 ∷ r) (length s) refl, rate_yes a, drop-append-add s (47 ∷ r) 1, rate_yes b, or-true)

slash : (t : List ℕ) → send_length t < length t → get_or t (send_length t) 0 ≡ 47
unfolding send_length
slash [] h = absurd (omega arith)
slash (b ∷ bs) h = go (eqb b 47) refl (slash bs) h
  where
    go : (x : Bool) → eqb b 47 ≡ x → (send_length bs < length bs → get_or bs (send_length bs) 0 ≡ 47)
        → cond x 0 (send_length bs + 1) < suc (length bs) → get_or (b ∷ bs) (cond x 0 (send_length bs + 1)) 0 ≡ 47
    go true e f k = eqb-true b 47 e
    go false e f k = rw add-one (f (omega arith))

-- a text whose first m bytes are a rate
module _ (t : List ℕ) (m : ℕ) (send : Rate (take m t)) where
  pub alone : m ≡ length t → SendPart t m
  alone e = rw e (one (rw (e, take-length) at send))

  pub both : m < length t → get_or t m 0 ≡ 47 → Rate (drop (m + 1) t) → SendPart t m
  both h e r =
      let w : take m t ++ 47 ∷ drop (m + 1) t ≡ t = sym (split_at t m 0 h ∙ rw (e, add-one)) in
      let n : length (take m t) ≡ m = length-take-le m t (omega arith) in
      subst₂ SendPart w n (two send r)

sends-only : (t : List ℕ) (n : ℕ) → send_part_of t ≡ answered n → SendPart t n
unfolding is_bitrate
sends-only t n e = rw (sent t n (sym e)).1 (go (eqb m (length t)) refl (and_r (is_rate (take m t)) _ yes))
  where
    m : ℕ
    m = send_length t

    yes : is_bitrate t ≡ true
    yes = (sent t n (sym e)).0

    send : Rate (take m t)
    send = rate-only (take m t) (and_l (is_rate (take m t)) _ yes)

    go : (x : Bool) → eqb m (length t) ≡ x → (x || is_rate (drop (m + 1) t)) ≡ true → SendPart t m
    go true h k = alone t m send (eqb-true m (length t) h)
    go false h k =
        let l : m < length t = omega (arith, send_le t, eqb-false m (length t) h) in both t m send l (slash t l) (rate-only (drop (m + 1) t) k)

pub parse_exact : (t : List ℕ) (n : ℕ) → (send_part_of t ≡ answered n) ↔ SendPart t n
parse_exact t n = (sends-only t n, sends_yes)

pub refused_exact : (t : List ℕ) → ((n : ℕ) → SendPart t n → ⊥) → send_part_of t ≡ refused (plain 5)
unfolding send_part_of
refused_exact t h = go (is_bitrate t) (λ e. h (send_length t) (sends-only t (send_length t) e))
  where
    go : (b : Bool) → (cond b (answered (send_length t)) (refused (plain 5)) ≡ answered (send_length t) → ⊥)
        → cond b (answered (send_length t)) (refused (plain 5)) ≡ refused (plain 5)
    go true f = absurd (f refl)
    go false f = refl

pub texts : (send_part_of (ascii "106A") ≡ answered 4)
    × (send_part_of (ascii "212F/424F") ≡ answered 4)
    × (send_part_of (ascii "106A/") ≡ refused (plain 5))
    × (send_part_of (ascii "/106A") ≡ refused (plain 5))
    × (send_part_of (ascii "106A/212F/424F") ≡ refused (plain 5))
    × (send_part_of (ascii "106a") ≡ refused (plain 5))
    × (send_part_of (ascii "A") ≡ refused (plain 5))
    × (send_part_of (ascii "") ≡ refused (plain 5))
    × (send_part_of (ascii "106" ++ 195 ∷ 132 ∷ []) ≡ refused (plain 5))
    × (choice_of (ascii "848B/106B") ≡ chosen B848B)
    × (choice_of (ascii "0106A") ≡ chosen Other)
    × (choice_of (ascii "106A/") ≡ no_code_of (plain 5))
unfolding send_part_of choice_of code_of same is_bitrate is_rate send_length all_digits in_range
texts = (refl, refl, refl, refl, refl, refl, refl, refl, refl, refl, refl, refl)
