-- A table of the registers that eight bits of 0 leave, held to that rule by one test that antt computes entry by entry; and a byte that goes into the register through such a table.
-- Assumes nothing.
use mathlib.Core.Path.{◌≡◌, ◌∙◌, ap}
use mathlib.Core.Bool.{Bool, true, ◌&&◌}
use mathlib.Core.List.{List, [], ◌∷◌}
use Prim.Native.Nat.{ℕ, zero, suc, ◌+◌, ◌/◌, ◌%◌, ◌<◌}
use native.Mathlib.Nat.{add-zero, zero-add, add-suc, suc-add, le_of_suc-le-suc, not-suc-le-zero}
use native.Mathlib.Numerals.{add-one}
use native.Mathlib.Omega.{arith}
use lib.Bits.{bit_xor}
use lib.Dec.{eqb}
use lib.ListN.{length, get_or, drop}
use lib.Seq.{drop-cons}
use borrow.Author.Tests.{eqb-true}
use Rattle.crc.specs.Laws.{and_parts}
use Rattle.crc.specs.Crc.{bits_in, bits, register_after}
use Rattle.crc.proofs.Linear.{byte_at_once}

-- the entries of t, from place k on, are as they should be
unfoldable pub tabled : ℕ → List ℕ → Bool
tabled k [] = true
tabled k (x ∷ t) = eqb x (bits_in k (bits 8 0)) && tabled (suc k) t

from : (t : List ℕ) (k : ℕ) → tabled k t ≡ true → (j : ℕ) → j < length t → get_or t j 0 ≡ bits_in (k + j) (bits 8 0)
unfolding tabled
from [] k p j h = absurd (not-suc-le-zero h)
from (x ∷ t) k p zero h = rw add-zero (eqb-true _ _ (and_parts _ (tabled (suc k) t) p).0)
from (x ∷ t) k p (suc j) h = rw (add-suc, ← suc-add) (from t (suc k) (and_parts (eqb x (bits_in k (bits 8 0))) _ p).1 j (le_of_suc-le-suc h))

pub record Tabled (t : List ℕ) : Type 0 where
  pub whole : length t ≡ 256
  pub rule : tabled 0 t ≡ true

-- one turn: the byte at place i of s goes in
pub turn : {t : List ℕ} → Tabled t → (s : List ℕ) (i r : ℕ) → i < length s → get_or s i 0 < 256
    → register_after r (drop i s) ≡ register_after (bit_xor (r / 256) (get_or t (bit_xor r (get_or s i 0) % 256) 0)) (drop (i + 1) s)
unfolding register_after
turn {t} p s i r h b =
    let e : length t ≡ 256 = p.whole in
    let k : bit_xor r (get_or s i 0) % 256 < length t = omega arith in
    ap (register_after r) (drop-cons s i 0 h)
    ∙ rw (add-one, from t 0 p.rule (bit_xor r (get_or s i 0) % 256) k, zero-add)
    (ap (λ (x : ℕ). register_after x (drop (suc i) s)) (byte_at_once r (get_or s i 0) b))
