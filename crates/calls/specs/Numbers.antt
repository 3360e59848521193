-- The calls by their numbers: which number of the struct, and which list of bytes, is which argument of `reader_calls`.
use Rattle.std.specs.Prelude.{List, [], ◌∷◌, map, ◌≡◌, refl, ℕ, zero, suc, ◌+◌, ◌≤◌, ◌<◌, length, get_or}
use Rattle.std.proofs.Common.{arith}
use Rattle.std.proofs.Math.ListN.{get_or-eq_default}
use Rattle.protocol.specs.Calls.{ReaderCall, Call, opening, reader, unknown, reader_calls}
use Rattle.calls.specs.declared.start.Numbers.{Numbers}
use Rattle.calls.specs.declared.start.Arguments.{Arguments}

abbrev pub calls_by : (n : Numbers) (first second third fourth : List ℕ) → List ReaderCall
calls_by n first second third fourth = reader_calls n.ms n.word n.x n.y first second third fourth

-- 0 is the opening, whose mode is x
unfoldable pub call_of : (number : ℕ) (n : Numbers) (first second third fourth : List ℕ) → Call
call_of number n first second third fourth = get_or (opening n.x ∷ map reader (calls_by n first second third fourth)) number (reader unknown)

abbrev pub call_in : ℕ → Arguments → Call
call_in number a = call_of number a.numbers a.first.now a.second.now a.third.now a.fourth.now

-- the first call of an initiator, of a target, of a device and of FeliCa blocks
abbrev pub initiator_calls : ℕ
initiator_calls = 9

abbrev pub target_calls : ℕ
target_calls = 14

abbrev pub device_calls : ℕ
device_calls = 19

abbrev pub block_calls : ℕ
block_calls = 26

-- ---- laws

-- a number that is none of the keys of a match
pub beyond : (k n : ℕ) → k ≤ n → (n ≡ k → ⊥) → k + 1 ≤ n
beyond k n h ne = omega (arith, h, ne)

-- a number below an initiator's that is none of 1 to 8
pub not_among : (n : ℕ) → n < initiator_calls → (n ≡ 1 → ⊥) → (n ≡ 2 → ⊥) → (n ≡ 3 → ⊥) → (n ≡ 4 → ⊥) → (n ≡ 5 → ⊥) → (n ≡ 6 → ⊥) → (n ≡ 7 → ⊥) → (n ≡ 8 → ⊥) → n ≡ 0
not_among zero h a b c d e f g k = refl
not_among (suc n) h a b c d e f g k =
    absurd (omega (arith, beyond 8 (suc n) (beyond 7 (suc n) (beyond 6 (suc n) (beyond 5 (suc n) (beyond 4 (suc n) (beyond 3 (suc n) (beyond 2 (suc n) (beyond 1 (suc n) (omega arith) a) b) c) d) e) f) g) k))

-- a number behind the last
pub no_call : (number : ℕ) (n : Numbers) (first second third fourth : List ℕ) → 1 + length (calls_by n first second third fourth) ≤ number → call_of number n first second third fourth ≡ reader unknown
unfolding call_of
no_call number n first second third fourth h = get_or-eq_default (opening n.x ∷ map reader (calls_by n first second third fourth)) (reader unknown) h

-- any number but 0 has a call of an open reader
mapped : (l : List ReaderCall) (n : ℕ) → get_or (map reader l) n (reader unknown) ≡ reader (get_or l n unknown)
mapped [] n = refl
mapped (c ∷ l) zero = refl
mapped (c ∷ l) (suc n) = mapped l n

pub reader_call : (k : ℕ) (n : Numbers) (first second third fourth : List ℕ)
    → call_of (suc k) n first second third fourth ≡ reader (get_or (calls_by n first second third fourth) k unknown)
unfolding call_of
reader_call k n first second third fourth = mapped (calls_by n first second third fourth) k
