-- Laws of the sum and the checksum.
use Rattle.std.specs.Prelude.{◌≡◌, ℕ, zero, suc, ◌+◌, ◌-◌, ◌%◌, ◌<◌, ◌≤◌, List, [], ◌∷◌, ◌++◌, length, take, drop, replicate, slice_index, refl}
use Rattle.std.proofs.Common.{ap, sym, ◌∙◌, add_assoc, add_comm, arith, take-append-drop, length-drop, take_all, take-suc, drop-drop, add-one}
use Rattle.std.proofs.Math.Nat.{mod-add-mod}
use Rattle.std.proofs.Math.Seq.{take-append-add}
use Rattle.std.proofs.lemmas.List.{drop-append-le}
use Rattle.framing.specs.Frames.{total, checksum_of}
use Rattle.framing.specs.Checks.{between}
use Rattle.framing.specs.Names.{piece_size}

pub total-append : (l m : List ℕ) → total (l ++ m) ≡ total l + total m
unfolding total
total-append [] m = omega arith
total-append (x ∷ xs) m = ap (λ n. x + n) (total-append xs m) ∙ sym (add_assoc x (total xs) (total m))

-- the sum of the first j + 1 bytes is that of the first j and byte j
pub total-take : (l : List ℕ) (j : ℕ) → j < length l → total (take (suc j) l) ≡ total (take j l) + slice_index l j
unfolding total
total-take l j h = omega (arith, ap total (take-suc l j 0 h), total-append (take j l) (slice_index l j ∷ []))

-- a sum that wraps at each byte is the sum's remainder: where s is that of l, it is so with one byte more
pub wraps : (l : List ℕ) (s b : ℕ) → s ≡ total l % 256 → (s + b) % 256 ≡ (total l + b) % 256
wraps l s b h = rw h (mod-add-mod (total l) 256 b)

pub wraps_next : (l : List ℕ) (s j : ℕ) → j < length l → s ≡ total (take j l) % 256 → (s + slice_index l j) % 256 ≡ total (take (j + 1) l) % 256
wraps_next l s j h so_far = rw add-one (omega (arith, wraps (take j l) s (slice_index l j) so_far, total-take l j h))

-- so it is for the sums s and t of the two parts of a list
pub joined : (l : List ℕ) (w s t : ℕ) → s ≡ total (take w l) % 256 → t ≡ total (drop w l) % 256 → (s + t) % 256 ≡ total l % 256
joined l w s t hs ht =
    let first = total (take w l) in
    let all : total l ≡ first + total (drop w l) = ap total (sym (take-append-drop w l)) ∙ total-append (take w l) (drop w l) in
    rw (all, wraps (take w l) s t hs, add_comm first t, wraps (drop w l) t first ht, add_comm (total (drop w l)))

-- zeros add nothing
pub zeros : (m n : ℕ) → total (take m (replicate n 0)) ≡ 0
unfolding total
zeros zero n = refl
zeros (suc m) zero = refl
zeros (suc m) (suc n) = omega (arith, zeros m n)

-- a list with zeros behind it: from its k-th element on, as many as it has are its rest and zeros
pub padded : (l : List ℕ) (k n : ℕ) → k ≤ length l → total (take (length l) (drop k (l ++ replicate n 0))) ≡ total (drop k l)
padded l k n h =
    let rest = drop k l in
    let len : length l ≡ length rest + k = rw (length-drop k l) (omega arith) in
    rw (drop-append-le k l (replicate n 0) h, len, take-append-add rest (replicate n 0) k, total-append rest) (omega (arith, zeros k n))

-- the sum of the first w bytes, and that of the end of the last 32: of the bytes behind the first w, which are at most 32
pub pieces : (l : List ℕ) (w s t : ℕ) → s ≡ total (between 0 w l) % 256
    → t ≡ total (drop (piece_size - (length l - w)) (between (length l - piece_size) (length l) l)) % 256
    → piece_size ≤ length l → w ≤ length l → length l ≤ w + piece_size → (s + t) % 256 ≡ total l % 256
pieces l w s t hs ht h h₁ h₂ =
    let k = piece_size - (length l - w) in
    let m = length l - piece_size in
    let whole : w - 0 ≡ w = omega arith in
    let behind : length (drop m l) ≤ length l - m = rw (length-drop m l) (omega arith) in
    let place : m + k ≡ w = omega arith in
    let end : drop k (between m (length l) l) ≡ drop w l = ap (drop k) (take_all (length l - m) (drop m l) behind) ∙ drop-drop k m l ∙ ap (λ i. drop i l) place in
    joined l w s t (rw whole at hs) (rw end at ht)

-- the checksum is a byte, and the only one that brings the sum to a multiple of 256
pub checksum_byte : (l : List ℕ) → checksum_of l < 256
unfolding checksum_of
checksum_byte l = omega arith

pub checksum_sum : (l : List ℕ) → (total l + checksum_of l) % 256 ≡ 0
unfolding checksum_of
checksum_sum l = omega arith

pub checksum_only : (l : List ℕ) (b : ℕ) → b < 256 → (total l + b) % 256 ≡ 0 → b ≡ checksum_of l
unfolding checksum_of
checksum_only l b h e = omega arith
