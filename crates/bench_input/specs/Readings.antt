-- The code's values in the terms of the definitions. The byte strings of a line stand one behind the other in the buffer b.
use Rattle.std.specs.Prelude.{◌≡◌, Some, None, List, [], ◌∷◌, ℕ, zero, suc, ◌+◌, ◌≤◌, ltb, length, get_or, take, drop}
use Rattle.std.specs.Prelude.{Option as CodeOption}
use Rattle.std.proofs.Math.Option.{Option, none, some}
use Rattle.std.proofs.Math.Seq.{slice}
use Rattle.errors.specs.Choice.{pick}
use Rattle.bench_input.specs.Arguments.{Arguments, arguments, Read, bytes_room}
use Rattle.bench_input.specs.Letters.{argument}
use Rattle.bench_input.specs.Table.{LineRow, row, Said, calls, happens, unreadable}
use Rattle.bench_input.specs.declared.Input.{Input}
use Rattle.bench_input.specs.declared.Input.TheVariants.{Call, Event}
use Rattle.bench_input.specs.declared.table.Row.{Row}
use denote.Ref.{Bor}
use Rattle.bench_input.specs.declared.letters.Taken.{Taken}

-- the k-th of the places where byte strings end
abbrev pub end_at : List ℕ → ℕ → ℕ
end_at e k = get_or e k 0

abbrev pub input_in : List ℕ → CodeOption Input → Said
input_in b (Some (Call number n e)) =
    calls number n (slice 0 (end_at e 0) b) (slice (end_at e 0) (end_at e 1) b) (slice (end_at e 1) (end_at e 2) b) (slice (end_at e 2) (end_at e 3) b)
input_in b (Some (Event number n)) = happens number (slice 0 n b)
input_in b None = unreadable

-- the ends follow a place, each behind the one before, all in the buffer and none behind the line's length k; b became o, and is as it was
-- behind the last
abbrev pub StringsInOrder : ℕ → ℕ → List ℕ → List ℕ → List ℕ → Type 0
StringsInOrder k at [] b o = (at ≤ k) × (at ≤ bytes_room) × (drop at o ≡ drop at b)
StringsInOrder k at (i ∷ ends) b o = (at ≤ i) × StringsInOrder k i ends b o

-- what holds of the ends and of the buffer: nothing where the line cannot be read
abbrev pub EndsInOrder : ℕ → CodeOption Input → List ℕ → List ℕ → Type 0
EndsInOrder k (Some (Call number n e)) b o = StringsInOrder k 0 (end_at e 0 ∷ end_at e 1 ∷ end_at e 2 ∷ end_at e 3 ∷ []) b o
EndsInOrder k (Some (Event number n)) b o = StringsInOrder k 0 (n ∷ []) b o
EndsInOrder k None b o = Unit {0}

-- what a line of k bytes says was read, with the bytes of its arguments in the buffer b, which became o
pub record Reads (k : ℕ) (b o : List ℕ) (r : CodeOption Input) (s : Said) : Type 0 where
  pub says : input_in o r ≡ s
  pub in_order_of : EndsInOrder k r b o

-- what is read with a value that was read of a word
abbrev pub given : {A : Type 0} → CodeOption A → (A → Read) → Read
given (Some v) f = f v
given None f = none

-- the same with a time-out that may be absent: whether it is given, and its ms
abbrev pub wait_in : CodeOption (CodeOption ℕ) → (ℕ → ℕ → Read) → Read
wait_in (Some (Some ms)) f = f 1 ms
wait_in (Some None) f = f 0 0
wait_in None f = none

-- the same with the bytes that end at a place
abbrev pub hex_in : ℕ → CodeOption ℕ → List ℕ → (List ℕ → Read) → Read
hex_in at r b f = given r (λ n. f (slice at n b))

-- a word of some size was read from a place to an end: what stands before it and behind it in the buffer b is in o too
pub record PutBetween (at end size : ℕ) (b o : List ℕ) : Type 0 where
  pub from : at ≤ end
  pub short : end ≤ at + size
  pub kept : take at o ≡ take at b
  pub behind : drop end o ≡ drop end b

abbrev pub Behind : ℕ → CodeOption ℕ → ℕ → List ℕ → List ℕ → Type 0
Behind at (Some n) size b o = PutBetween at n size b o
Behind at None size b o = Unit {0}

-- so many byte strings end at these places; the ends behind the last equal it
abbrev pub EndsFor : ℕ → List ℕ → Type 0
EndsFor zero e = (end_at e 0 ≡ 0) × (end_at e 1 ≡ 0) × (end_at e 2 ≡ 0) × (end_at e 3 ≡ 0)
EndsFor (suc zero) e = (end_at e 1 ≡ end_at e 0) × (end_at e 2 ≡ end_at e 0) × (end_at e 3 ≡ end_at e 0)
EndsFor (suc (suc zero)) e = (end_at e 0 ≤ end_at e 1) × (end_at e 2 ≡ end_at e 1) × (end_at e 3 ≡ end_at e 1)
EndsFor (suc (suc (suc zero))) e = (end_at e 0 ≤ end_at e 1) × (end_at e 1 ≤ end_at e 2) × (end_at e 3 ≡ end_at e 2)
EndsFor (suc (suc (suc (suc zero)))) e = (end_at e 0 ≤ end_at e 1) × (end_at e 1 ≤ end_at e 2) × (end_at e 2 ≤ end_at e 3)
EndsFor (suc (suc (suc (suc (suc n))))) e = ⊥

-- one more, behind so many, ends at a place
unfoldable pub ended_at : List ℕ → ℕ → ℕ → List ℕ
ended_at e count end =
    pick (ltb 2 count) (end_at e 0 ∷ end_at e 1 ∷ end_at e 2 ∷ end ∷ [])
    (pick (ltb 1 count) (end_at e 0 ∷ end_at e 1 ∷ end ∷ end ∷ [])
    (pick (ltb 0 count) (end_at e 0 ∷ end ∷ end ∷ end ∷ [])
    (end ∷ end ∷ end ∷ end ∷ [])))

abbrev pub strings_in : List ℕ → List ℕ → List (List ℕ)
strings_in b e = slice 0 (end_at e 0) b ∷ slice (end_at e 0) (end_at e 1) b ∷ slice (end_at e 1) (end_at e 2) b ∷ slice (end_at e 2) (end_at e 3) b ∷ []

abbrev pub taken_in : List ℕ → Taken → Arguments
taken_in b t = arguments t.numbers (take t.count (strings_in b t.ends))

abbrev pub next_in : List ℕ → CodeOption Taken → (Arguments → Read) → Read
next_in b r f = given r (λ t. f (taken_in b t))

-- what was taken with one more word of some size, from the place `at` on
abbrev pub TakenWithin : ℕ → ℕ → List ℕ → List ℕ → CodeOption Taken → Type 0
TakenWithin at size b o (Some t) = EndsFor t.count t.ends × (at ≤ end_at t.ends 3) × (end_at t.ends 3 ≤ at + size) × (drop (end_at t.ends 3) o ≡ drop (end_at t.ends 3) b)
TakenWithin at size b o None = Unit {0}

-- a word w was read by its letter, behind what was taken before
pub record Takes (letter : ℕ) (w : List ℕ) (t : Taken) (b o : List ℕ) (r : CodeOption Taken) : Type 0 where
  pub says : (f : Arguments → Read) → next_in o r f ≡ argument letter w (taken_in b t) f
  pub in_order_of : TakenWithin (end_at t.ends 3) (length w) b o r

-- a row of the code's table
abbrev pub row_in : Row → LineRow
row_in r = row r.0.now r.1.now r.2

abbrev pub row_found_in : CodeOption (Bor Row) → Option LineRow
row_found_in (Some r) = some (row_in r.now)
row_found_in None = none
