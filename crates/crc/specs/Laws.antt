-- What callers may use of the definitions: the CRC is two bytes; bytes with their own CRC behind them check, and bytes that check are such.
-- Assumes nothing.
use Rattle.std.specs.Prelude.{◌≡◌, refl, Bool, true, false, ◌&&◌, List, ◌++◌, ℕ, ◌+◌, ◌-◌, ltb, length, take}
use Rattle.std.proofs.Common.{sym, ap, ◌∙◌, arith, length-append, take-append-drop, take_at, drop_at, le-ltb}
use Rattle.errors.specs.Choice.{pick, same_self, same_is}
use Rattle.crc.specs.Crc.{CrcKind, crc_bytes, checks}

pub crc_length : (k : CrcKind) (s : List ℕ) → length (crc_bytes k s) ≡ 2
unfolding crc_bytes
crc_length k s = refl

pub own_checks : (k : CrcKind) (s : List ℕ) → checks k (s ++ crc_bytes k s) ≡ true
unfolding checks pick
own_checks k s =
    let e : length (s ++ crc_bytes k s) ≡ length s + 2 = length-append s (crc_bytes k s) ∙ ap (◌+◌ (length s)) (crc_length k s) in
    rw (le-ltb (length (s ++ crc_bytes k s)) 2 (omega arith), e, take_at s (crc_bytes k s) (length s + 2 - 2) (omega arith), drop_at s (crc_bytes k s) (length s + 2 - 2) (omega arith)) (same_self (crc_bytes k s))

pub and_parts : (a b : Bool) → (a && b) ≡ true → (a ≡ true) × (b ≡ true)
and_parts true b e = (refl, e)
and_parts false b e = (e, cc)

not_short : (t b : Bool) → pick t false b ≡ true → b ≡ true
unfolding pick
not_short true b e = cc
not_short false b e = e

pub checked : (k : CrcKind) (s : List ℕ) → checks k s ≡ true → s ≡ take (length s - 2) s ++ crc_bytes k (take (length s - 2) s)
unfolding checks
checked k s e =
    sym (take-append-drop (length s - 2) s)
    ∙ ap (◌++◌ (take (length s - 2) s)) (same_is _ _ (not_short (ltb (length s) 2) _ e))
