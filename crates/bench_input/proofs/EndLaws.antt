-- Laws of the places where byte strings end.
use mathlib.Core.Path.{◌≡◌, refl, sym, ap, ◌∙◌}
use mathlib.Core.List.{List, [], ◌∷◌, ◌++◌}
use Prim.Native.Nat.{ℕ, zero, suc, ◌+◌, ◌-◌, ◌≤◌, ◌<◌}
use native.Mathlib.Numerals.{add-one}
use native.Mathlib.Omega.{arith}
use lib.Dec.{ltb}
use lib.ListN.{length, take, drop}
use lib.Seq.{slice, take-take, drop-drop}
use Rattle.errors.specs.Choice.{pick}
use Rattle.bench_input.specs.Arguments.{arguments}
use Rattle.bench_input.specs.Table.{events_from, calls, happens, unreadable, said}
use Rattle.bench_input.specs.Readings.{PutBetween, end_at, EndsFor, ended_at, strings_in}
use Rattle.calls.specs.declared.start.Numbers.{Numbers}
use Rattle.bench_input.proofs.ReadLaws.{slice_none}

pub ended_order : (c : ℕ) (e : List ℕ) → EndsFor c e → ((end_at e 0) ≤ (end_at e 1)) × ((end_at e 1) ≤ (end_at e 2)) × ((end_at e 2) ≤ (end_at e 3))
ended_order zero e h = (omega arith, omega arith, omega arith)
ended_order (suc zero) e h = (omega arith, omega arith, omega arith)
ended_order (suc (suc zero)) e h = (omega arith, omega arith, omega arith)
ended_order (suc (suc (suc zero))) e h = (omega arith, omega arith, omega arith)
ended_order (suc (suc (suc (suc zero)))) e h = (omega arith, omega arith, omega arith)
ended_order (suc (suc (suc (suc (suc c))))) e h = absurd h

-- so many strings were taken
pub ended-count : (c : ℕ) (e : List ℕ) (b : List ℕ) → EndsFor c e → length (take c (strings_in b e)) ≡ c
ended-count zero e b h = refl
ended-count (suc zero) e b h = refl
ended-count (suc (suc zero)) e b h = refl
ended-count (suc (suc (suc zero))) e b h = refl
ended-count (suc (suc (suc (suc zero)))) e b h = refl
ended-count (suc (suc (suc (suc (suc c))))) e b h = absurd h

pub ended-one : (c : ℕ) (e : List ℕ) → EndsFor c e → c ≤ 1 → (end_at e 3) ≡ (end_at e 0)
ended-one zero e h k = omega arith
ended-one (suc zero) e h k = h.2
ended-one (suc (suc c)) e h k = absurd (omega arith)

-- one more string
pub next-ended : (c end : ℕ) (e : List ℕ) → EndsFor c e → c < 4 → (end_at e 3) ≤ end → EndsFor (suc c) (ended_at e c end)
unfolding ended_at pick
next-ended zero end e h k g = (refl, refl, refl)
next-ended (suc zero) end e h k g = (omega arith, refl, refl)
next-ended (suc (suc zero)) end e h k g = (omega arith, omega arith, refl)
next-ended (suc (suc (suc zero))) end e h k g = (omega arith, omega arith, omega arith)
next-ended (suc (suc (suc (suc c)))) end e h k g = absurd (omega arith)

pub next_fourth : (c end : ℕ) (e : List ℕ) → c < 4 → end_at (ended_at e c end) 3 ≡ end
unfolding ended_at pick
next_fourth zero end e h = refl
next_fourth (suc zero) end e h = refl
next_fourth (suc (suc zero)) end e h = refl
next_fourth (suc (suc (suc zero))) end e h = refl
next_fourth (suc (suc (suc (suc c)))) end e h = absurd (omega arith)

take_less : (i j : ℕ) (o b : List ℕ) → i ≤ j → take j o ≡ take j b → take i o ≡ take i b
take_less i j o b h e = sym (take-take i j o h) ∙ ap (take i) e ∙ take-take i j b h

-- it stands behind those that were taken from b
module _ (e : List ℕ) (end : ℕ) (b o : List ℕ) (kept : take (end_at e 3) o ≡ take (end_at e 3) b) where
  slice_kept : (i j : ℕ) → j ≤ (end_at e 3) → slice i j o ≡ slice i j b
  slice_kept i j h = ap (drop i) (take_less j (end_at e 3) o b h kept)

  pub next_strings : (c : ℕ) → EndsFor c e → c < 4 → take (suc c) (strings_in o (ended_at e c end)) ≡ take c (strings_in b e) ++ (slice (end_at e 3) end o ∷ [])
  unfolding ended_at pick
  next_strings zero h k = rw h.3
  next_strings (suc zero) h k = rw (slice_kept 0 (end_at e 0) (omega arith), h.2)
  next_strings (suc (suc zero)) h k = rw (slice_kept 0 (end_at e 0) (omega arith), slice_kept (end_at e 0) (end_at e 1) (omega arith), h.2)
  next_strings (suc (suc (suc zero))) h k = rw (slice_kept 0 (end_at e 0) (omega arith), slice_kept (end_at e 0) (end_at e 1) (omega arith), slice_kept (end_at e 1) (end_at e 2) (omega arith), h.2)
  next_strings (suc (suc (suc (suc c)))) h k = absurd (omega arith)

-- the ends with one more string, that was read behind those that were taken
module _ (c end size : ℕ) (e e' : List ℕ) (b o : List ℕ) (is : e' ≡ ended_at e c end) (few : c < 4) (held : EndsFor c e) (read : PutBetween (end_at e 3) end size b o) where
  pub more_strings : take (c + 1) (strings_in o e') ≡ take c (strings_in b e) ++ (slice (end_at e 3) end o ∷ [])
  more_strings = rw (is, add-one) (next_strings e end b o read.kept c held few)

  pub more-ended : EndsFor (c + 1) e' × ((end_at e 3) ≤ (end_at e' 3)) × ((end_at e' 3) ≤ (end_at e 3) + size) × (drop (end_at e' 3) o ≡ drop (end_at e' 3) b)
  more-ended =
      let last : (end_at e' 3) ≡ end = ap (λ (z : List ℕ). end_at z 3) is ∙ next_fourth c end e few in
      (rw (is, add-one) (next-ended c end e held few read.from), omega (arith, read.from), omega (arith, read.short), rw last read.behind)

-- a line's strings, as its four
module _ (number : ℕ) (n : Numbers) (b : List ℕ) where
  pub said_taken : (c : ℕ) (e : List ℕ) → EndsFor c e
      → pick (ltb number events_from) (calls number n (slice 0 (end_at e 0) b) (slice (end_at e 0) (end_at e 1) b) (slice (end_at e 1) (end_at e 2) b) (slice (end_at e 2) (end_at e 3) b))
      (pick (ltb 1 c) unreadable (happens (number - events_from) (slice 0 (end_at e 0) b)))
      ≡ said number (arguments n (take c (strings_in b e)))
  unfolding said
  said_taken zero e h = rw (slice_none 0 (end_at e 0) b (omega arith), slice_none (end_at e 0) (end_at e 1) b (omega arith), slice_none (end_at e 1) (end_at e 2) b (omega arith), slice_none (end_at e 2) (end_at e 3) b (omega arith))
  said_taken (suc zero) e h = rw (slice_none (end_at e 0) (end_at e 1) b (omega arith), slice_none (end_at e 1) (end_at e 2) b (omega arith), slice_none (end_at e 2) (end_at e 3) b (omega arith))
  said_taken (suc (suc zero)) e h = rw (slice_none (end_at e 1) (end_at e 2) b (omega arith), slice_none (end_at e 2) (end_at e 3) b (omega arith))
  said_taken (suc (suc (suc zero))) e h = rw (slice_none (end_at e 2) (end_at e 3) b (omega arith))
  said_taken (suc (suc (suc (suc zero)))) e h = refl
  said_taken (suc (suc (suc (suc (suc c))))) e h = absurd h

pub drop_more : (i j : ℕ) (b o : List ℕ) → i ≤ j → drop i o ≡ drop i b → drop j o ≡ drop j b
drop_more i j b o h e =
    let f : i + (j - i) ≡ j = omega arith in
    rw (← f, ← drop-drop (j - i) i o, ← drop-drop (j - i) i b) (ap (drop (j - i)) e)
