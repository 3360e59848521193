-- The bytes and their CRC in the buffer, as the code writes them.
-- Assumes nothing.
use Rattle.std.specs.Prelude.{◌≡◌, List, [], ◌++◌, ℕ, ◌+◌, ◌-◌, ◌≤◌, length, take, drop}
use Rattle.std.specs.Int.{w16, to_le_bytes}
use Rattle.std.proofs.Common.{ap, ◌∙◌, arith, le-ltb, take_all, length-drop, length-append, drop_of_length-le, drop-drop, append-nil, append_assoc}
use Rattle.std.proofs.Math.Seq.{take-append_seam, drop-append_seam, take-length}
use borrow.Rule.Slice.PartMut.{put_mid}
use Rattle.errors.specs.Refusals.{Returned, answered}
use Rattle.errors.specs.Choice.{pick}
use Rattle.crc.specs.Crc.{CrcKind, crc_of, crc_bytes}
use Rattle.crc.specs.Answers.{added}

module _ (k : CrcKind) (s out : List ℕ) (room : length s + 2 ≤ length out) where
  -- o is the buffer with s at its start, t what is behind s with the CRC x at its start
  module _ (o t : List ℕ) (x : ℕ) (c : o ≡ take (length s) s ++ drop (length s) out) (known : x ≡ crc_of k s)
      (e : t ≡ take 2 (to_le_bytes w16 x) ++ drop 2 (take (length o - length s) (drop (length s) o))) where
    front : o ≡ s ++ drop (length s) out
    front = rw take-length at c

    long : length o ≡ length out
    long = omega (arith, ap length front, length-append s (drop (length s) out), length-drop (length s) out)

    behind : t ≡ crc_bytes k s ++ drop (length s + 2) out
    unfolding crc_bytes
    behind =
        let r : drop (length s) o ≡ drop (length s) out = ap (drop (length s)) front ∙ drop-append_seam s (drop (length s) out) in
        let w : take (length o - length s) (drop (length s) out) ≡ drop (length s) out = take_all _ _ (omega (arith, length-drop (length s) out, long)) in
        rw (r, w, known) at e ∙ ap (λ l. crc_bytes k s ++ l) (drop-drop 2 (length s) out)

    pub written : ◌≡◌ {A = Returned × List ℕ} (answered (length s + 2), put_mid (length s) (length o - length s) o t) (added k s out)
    unfolding added pick
    written =
        let f : take (length s) o ≡ s = ap (take (length s)) front ∙ take-append_seam s (drop (length s) out) in
        let z : drop (length o - length s) (drop (length s) o) ≡ [] = drop_of_length-le (drop (length s) o) (omega (arith, length-drop (length s) o)) in
        rw (le-ltb (length out) (length s + 2) room, f, z, behind, append-nil, append_assoc)
