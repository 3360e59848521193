-- The order's laws: numbers and payloads belong to each other one by one, and a greater number is a later payload.
use Rattle.std.specs.Prelude.{◌≡◌, Bool, true, false, ltb, Option, Some, None}
use Rattle.std.proofs.Math.Path.{refl, ap}
use Rattle.std.proofs.Common.{sym, ap₂, ◌∙◌}
use Prim.Native.Nat.{ℕ, suc, ◌+◌, ◌-◌, ◌*◌, ◌/◌, ◌%◌, ◌≤◌, ◌<◌}
use native.Mathlib.Omega.{arith}
use borrow.Author.Tests.{lt-ltb, le-ltb, ltb-true, ltb-false}
use Rattle.errors.specs.Choice.{pick}
use Rattle.errors.specs.declared.Refusal.TheVariants.{OutOfTurn}
use Rattle.acceptance.specs.Order.{payload_bytes, payloads, entry_count, payload_number_in, payload_number, payload_at, entry_with, place_in_list, entry_at, following_at, step_at, step_from, At, End, Refused}
use Rattle.acceptance.specs.declared.Payload.{Payload}
use Rattle.acceptance.specs.declared.Payload.TheVariants.{Empty, One, Two}
use Rattle.acceptance.specs.declared.Entry.{Entry}
use Rattle.acceptance.specs.OrderLaws.{OfBytes}

-- the payload of a number, by the payload's length
payload_empty : (n : ℕ) → n < 1 → payload_at n ≡ Empty
unfolding payload_at pick
payload_empty n h = rw (lt-ltb n 1 h)

payload_one : (n : ℕ) → 1 ≤ n → n < 257 → payload_at n ≡ One (n - 1)
unfolding payload_at pick
payload_one n h k = rw (le-ltb n 1 h, lt-ltb n 257 k)

payload_two : (n : ℕ) → 257 ≤ n → payload_at n ≡ Two ((n - 257) / 256) ((n - 257) % 256)
unfolding payload_at pick
payload_two n h = rw (le-ltb n 1 (omega arith), le-ltb n 257 h)

-- the payload whose number is n, by its bytes
at_one : (n a : ℕ) → n ≡ 1 + a → a < 256 → payload_at n ≡ One a
at_one n a e h = payload_one n (omega arith) (omega arith) ∙ ap One (omega arith)

at_two : (n a b : ℕ) → n ≡ 257 + (256 * a + b) → b < 256 → payload_at n ≡ Two a b
at_two n a b e h = payload_two n (omega arith) ∙ ap₂ Two (omega arith) (omega arith)

pub payload_of_number : (p : Payload) → OfBytes p → payload_at (payload_number p) ≡ p
unfolding payload_number payload_number_in payload_bytes
payload_of_number Empty h = payload_empty 0 (omega arith)
payload_of_number (One a) h = at_one (1 + a) a refl h
payload_of_number (Two a b) h = at_two (257 + (256 * a + b)) a b refl h.1

pub number_below : (p : Payload) → OfBytes p → payload_number p < payloads
unfolding payload_number payload_number_in payload_bytes
number_below Empty h = omega arith
number_below (One a) h = omega arith
number_below (Two a b) h = omega (arith, h.0, h.1)

pub number_at : (n : ℕ) → n < payloads → payload_number (payload_at n) ≡ n
unfolding payload_number payload_number_in payload_bytes payload_at pick
number_at n h = go (ltb n 1) (ltb n 257) refl refl
  where
    go : (t u : Bool) → ltb n 1 ≡ t → ltb n 257 ≡ u
        → payload_number (pick t Empty (pick u (One (n - 1)) (Two ((n - 257) / 256) ((n - 257) % 256)))) ≡ n
    go true u a b = omega (arith, ltb-true n 1 a)
    go false true a b = omega (arith, ltb-false n 1 a)
    go false false a b = omega (arith, ltb-false n 257 b)

pub bytes_at : (n : ℕ) → n < payloads → OfBytes (payload_at n)
unfolding payload_at pick
bytes_at n h = go (ltb n 1) (ltb n 257) refl refl
  where
    go : (t u : Bool) → ltb n 1 ≡ t → ltb n 257 ≡ u → OfBytes (pick t Empty (pick u (One (n - 1)) (Two ((n - 257) / 256) ((n - 257) % 256))))
    go true u a b = tt
    go false true a b = omega (arith, ltb-true n 257 b)
    go false false a b = (omega arith, omega arith)

-- `payload_behind`, by the payload
next-at : (n : ℕ) (p : Payload) → n < payloads → payload_at n ≡ p → Some p ≡ following_at n
unfolding following_at pick
next-at n p h e = rw (lt-ltb n payloads h, e)

pub behind_empty : (p : Payload) → p ≡ Empty → Some (One 0) ≡ following_at (suc (payload_number p))
unfolding payload_number payload_number_in payload_bytes
behind_empty p e = next-at 1 (One 0) (omega arith) (at_one 1 0 refl (omega arith)) ∙ ap (λ q. following_at (suc (payload_number q))) (sym e)

module _ (p : Payload) (a : ℕ) (e : p ≡ One a) where
  pub behind-one : a < 255 → Some (One (a + 1)) ≡ following_at (suc (payload_number p))
  unfolding payload_number payload_number_in payload_bytes
  behind-one h =
      next-at (suc (1 + a)) (One (a + 1)) (omega arith) (at_one (suc (1 + a)) (a + 1) (omega arith) (omega arith))
      ∙ ap (λ q. following_at (suc (payload_number q))) (sym e)

  pub behind-last-one : a ≡ 255 → Some (Two 0 0) ≡ following_at (suc (payload_number p))
  unfolding payload_number payload_number_in payload_bytes
  behind-last-one h =
      next-at (suc (1 + a)) (Two 0 0) (omega arith) (at_two (suc (1 + a)) 0 0 (omega arith) (omega arith))
      ∙ ap (λ q. following_at (suc (payload_number q))) (sym e)

module _ (p : Payload) (a b : ℕ) (e : p ≡ Two a b) where
  pub behind_two : a < 256 → b < 255 → Some (Two a (b + 1)) ≡ following_at (suc (payload_number p))
  unfolding payload_number payload_number_in payload_bytes
  behind_two k h =
      next-at (suc (257 + (256 * a + b))) (Two a (b + 1)) (omega arith) (at_two (suc (257 + (256 * a + b))) a (b + 1) (omega arith) (omega arith))
      ∙ ap (λ q. following_at (suc (payload_number q))) (sym e)

  pub behind-row : a < 255 → b ≡ 255 → Some (Two (a + 1) 0) ≡ following_at (suc (payload_number p))
  unfolding payload_number payload_number_in payload_bytes
  behind-row k h =
      next-at (suc (257 + (256 * a + b))) (Two (a + 1) 0) (omega arith) (at_two (suc (257 + (256 * a + b))) (a + 1) 0 (omega arith) (omega arith))
      ∙ ap (λ q. following_at (suc (payload_number q))) (sym e)

  pub behind-last : a ≡ 255 → b ≡ 255 → ◌≡◌ {A = Option Payload} None (following_at (suc (payload_number p)))
  unfolding payload_number payload_number_in payload_bytes following_at pick
  behind-last k h = rw (e, le-ltb (suc (257 + (256 * a + b))) payloads (omega arith))

-- a payload that `payload_behind` is handed has a number
pub of_bytes : (p q : Payload) → p ≡ q → OfBytes q → payload_number p < payloads
of_bytes p q e h = rw e (number_below q h)

-- ---- the entries

pub entry_at_lem : (n s m : ℕ) → n ≡ payloads * s + m → m < payloads → entry_at n ≡ entry_with s (payload_at m)
unfolding entry_at
entry_at_lem n s m e h = ap₂ (λ k j. entry_with k (payload_at j)) (omega arith) (omega arith)

followed : (n : ℕ) (p : Payload) → Some p ≡ following_at n → (n < payloads) × (p ≡ payload_at n)
unfolding following_at pick
followed n p = go (ltb n payloads) refl
  where
    go : (t : Bool) → ltb n payloads ≡ t → Some p ≡ pick t (Some (payload_at n)) None → (n < payloads) × (p ≡ payload_at n)
    go true l e = (ltb-true n payloads l, cc)
    go false l e = let z : ◌≡◌ {A = ℕ} 0 1 = cc in absurd (omega arith)

none_followed : (n : ℕ) → ◌≡◌ {A = Option Payload} None (following_at n) → payloads ≤ n
unfolding following_at pick
none_followed n = go (ltb n payloads) refl
  where
    go : (t : Bool) → ltb n payloads ≡ t → None ≡ pick t (Some (payload_at n)) None → payloads ≤ n
    go true l e = let z : ◌≡◌ {A = ℕ} 0 1 = cc in absurd (omega arith)
    go false l e = ltb-false n payloads l

-- the answers of `next`, by what it tested
module _ (e : Entry) where
  pub step_refused : 6 ≤ e.setting → Refused OutOfTurn ≡ step_from e
  unfolding step_from pick
  step_refused h = rw (le-ltb e.setting 6 h)

  step-to : (n : ℕ) → e.setting < 6 → n ≡ suc (place_in_list e) → step_at n ≡ step_from e
  unfolding step_from pick
  step-to n h k = rw (lt-ltb e.setting 6 h, k)

  pub step_within : (p : Payload) → e.setting < 6 → Some p ≡ following_at (suc (payload_number e.payload)) → At (entry_with e.setting p) ≡ step_from e
  unfolding step_at place_in_list pick
  step_within p h f =
      let n : ℕ = payloads * e.setting + suc (payload_number e.payload) in
      let m = followed (suc (payload_number e.payload)) p f in
      let inside : n < entry_count = omega (arith, m.0) in
      ap (λ q. At (entry_with e.setting q)) m.1 ∙ ap At (sym (entry_at_lem n e.setting (suc (payload_number e.payload)) refl m.0))
      ∙ rw (lt-ltb n entry_count inside) at (step-to n h (omega arith))

  module _ (bound : payload_number e.payload < payloads) (last : None ≡ following_at (suc (payload_number e.payload))) where
    pub step-over : e.setting < 5 → At (entry_with (e.setting + 1) Empty) ≡ step_from e
    unfolding step_at place_in_list pick
    step-over h =
        let n : ℕ = payloads * (e.setting + 1) + 0 in
        let m = none_followed (suc (payload_number e.payload)) last in
        let inside : n < entry_count = omega arith in
        ap (λ q. At (entry_with (e.setting + 1) q)) (sym (payload_empty 0 (omega arith))) ∙ ap At (sym (entry_at_lem n (e.setting + 1) 0 refl (omega arith)))
        ∙ rw (lt-ltb n entry_count inside) at (step-to n (omega arith) (omega arith))

    pub step_end : e.setting < 6 → 5 ≤ e.setting → End ≡ step_from e
    unfolding step_at place_in_list pick
    step_end h k =
        let n : ℕ = payloads * e.setting + suc (payload_number e.payload) in
        let m = none_followed (suc (payload_number e.payload)) last in
        let outside : entry_count ≤ n = omega arith in
        rw (le-ltb n entry_count outside) at (step-to n h (omega arith))
