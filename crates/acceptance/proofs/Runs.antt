-- Runs from the stepper's start, by numbers.
use Rattle.std.specs.Prelude.{◌≡◌, Bool}
use Rattle.std.proofs.Math.Path.{refl, ap, ap₂}
use Rattle.std.proofs.Common.{sym, ◌∙◌, add-zero}
use Rattle.std.proofs.Math.Bool.{true, false}
use mathlib.Core.List.{List, [], ◌∷◌, ◌++◌, append_assoc, append-nil}
use Prim.Native.Nat.{ℕ, zero, suc, ◌+◌, ◌-◌, ◌*◌, ◌/◌, ◌%◌, ◌≤◌, ◌<◌}
use native.Mathlib.Omega.{arith}
use Rattle.std.proofs.Math.Dec.{ltb}
use Rattle.std.proofs.Math.ListN.{length, get_or, length-append, get_or-append}
use Rattle.std.proofs.Math.Seq.{get_or_at}
use borrow.Author.Tests.{lt-ltb, le-ltb, ltb-true, ltb-false}
use Rattle.errors.specs.Choice.{pick}
use Rattle.acceptance.specs.Claim.{start}
use Rattle.acceptance.specs.Order.{payloads, entry_count, payload_number, payload_at, entry_with, place_in_list, entry_at, first_entry, step_at, step_from, At, End, Reached}
use Rattle.acceptance.proofs.OrderLaws.{number_at, entry_at_lem}
use Rattle.acceptance.specs.Steps.{stepped_on, run_from, frame_in, frames_from, on_entry}

-- the step from the n-th entry
step-on : (n : ℕ) → n < entry_count → step_from (entry_at n) ≡ step_at (suc n)
unfolding step_from place_in_list entry_at pick
step-on n h =
    let s : n / payloads < 6 = omega arith in
    let p : payload_number (payload_at (n % payloads)) ≡ n % payloads = number_at (n % payloads) (omega arith) in
    let e : payloads * (n / payloads) + n % payloads ≡ n = omega arith in
    rw (lt-ltb (n / payloads) 6 s, p, e)

pub reached : (n : ℕ) → n < entry_count → run_from n start ≡ At (entry_at n)
unfolding run_from stepped_on step_at payload_at pick
reached zero h = ap At (sym (entry_at_lem 0 0 0 refl (omega arith)))
reached (suc n) h = ap stepped_on (reached n (omega arith)) ∙ step-on n (omega arith) ∙ rw (lt-ltb (suc n) entry_count h)

step-last : (n : ℕ) → suc n ≡ entry_count → run_from (suc n) start ≡ End
unfolding run_from stepped_on step_at pick
step-last n e = ap stepped_on (reached n (omega arith)) ∙ step-on n (omega arith) ∙ rw (le-ltb (suc n) entry_count (omega arith))

pub ended : run_from entry_count start ≡ End
ended = step-last 394757 refl

add-suc : (m n : ℕ) → m + suc n ≡ suc (m + n)
add-suc m n = omega arith

-- a run of some steps, and of some more
pub run-add : (m n : ℕ) (s : Reached) → run_from (m + n) s ≡ run_from n (run_from m s)
unfolding run_from
run-add m zero s = ap (λ k. run_from k s) (add-zero m)
run-add m (suc n) s = ap (λ k. run_from k s) (add-suc m n) ∙ ap stepped_on (run-add m n s)

pub frames-add : (m n : ℕ) (s : Reached) → frames_from (m + n) s ≡ frames_from m s ++ frames_from n (run_from m s)
unfolding frames_from
frames-add m zero s = ap (λ k. frames_from k s) (add-zero m) ∙ sym (append-nil (frames_from m s))
frames-add m (suc n) s =
    ap (λ k. frames_from k s) (add-suc m n)
    ∙ ap₂ (λ x y. x ++ frame_in y) (frames-add m n s) (run-add m n s)
    ∙ append_assoc (frames_from m s) (frames_from n (run_from m s)) (frame_in (run_from n (run_from m s)))

stays : (n : ℕ) → run_from n End ≡ End
unfolding run_from stepped_on
stays zero = refl
stays (suc n) = ap stepped_on (stays n)

-- a run of which each step up to N comes by one frame
module _ (s : Reached) (F : ℕ → List ℕ) (N : ℕ) (each : (n : ℕ) → n < N → frame_in (run_from n s) ≡ F n ∷ []) where
  pub frames-count : (k : ℕ) → k ≤ N → length (frames_from k s) ≡ k
  unfolding frames_from
  frames-count zero h = refl
  frames-count (suc k) h =
      length-append (frames_from k s) (frame_in (run_from k s)) ∙ ap₂ ◌+◌ (frames-count k (omega arith)) (ap length (each k h)) ∙ omega arith

  pub frame-nth : (k n : ℕ) → k ≤ N → n < k → get_or (frames_from k s) n [] ≡ F n
  unfolding frames_from
  frame-nth zero n h l = absurd (omega arith)
  frame-nth (suc k) n h l = go (ltb n k) refl (λ x. frame-nth k n (omega arith) x)
    where
      go : (t : Bool) → ltb n k ≡ t → (n < k → get_or (frames_from k s) n [] ≡ F n) → get_or (frames_from k s ++ frame_in (run_from k s)) n [] ≡ F n
      go true x before =
          get_or-append (frames_from k s) (frame_in (run_from k s)) [] n (omega (arith, frames-count k (omega arith), ltb-true n k x))
          ∙ before (ltb-true n k x)
      go false x before =
          let e : k ≡ n = omega (arith, ltb-false n k x) in
          ap (λ l. get_or (frames_from k s ++ l) n []) (each k h) ∙ get_or_at (frames_from k s) (F k) [] [] n (frames-count k (omega arith) ∙ e) ∙ ap F e

-- the steps from a setting's first entry
pub first-reached : (s : ℕ) → s < 6 → run_from (payloads * s) start ≡ At (first_entry s)
unfolding payload_at pick
first-reached s h = reached (payloads * s) (omega arith) ∙ ap At (entry_at_lem (payloads * s) s 0 (omega arith) (omega arith))

pub setting_run : (s n : ℕ) → s < 6 → n < payloads → run_from n (At (first_entry s)) ≡ At (entry_with s (payload_at n))
setting_run s n h k =
    ap (run_from n) (sym (first-reached s h)) ∙ sym (run-add (payloads * s) n start) ∙ reached (payloads * s + n) (omega arith)
    ∙ ap At (entry_at_lem (payloads * s + n) s n refl k)

-- behind the last entry there is none
pub beyond : (n : ℕ) → entry_count ≤ n → on_entry (run_from n start) ≡ 0
beyond n h = ap (λ k. on_entry (run_from k start)) e ∙ ap on_entry (run-add entry_count (n - entry_count) start ∙ ap (run_from (n - entry_count)) ended ∙ stays (n - entry_count))
  where
    e : n ≡ entry_count + (n - entry_count)
    e = omega arith
