-- The values of an answer's bytes: those of a part of a response.
use Rattle.std.specs.Prelude.{◌≡◌, refl, List, ◌∷◌, map, ℕ, zero, suc, ◌+◌, ◌-◌, ◌≤◌, length, take, drop, get_or}
use Rattle.std.proofs.Common.{sym, ap, ◌∙◌, arith, length-drop, drop_of_length-le, drop-cons, take_all}
use Rattle.std.proofs.Math.Decide.{dec_le}
use Rattle.protocol.specs.Scripts.{value, part, rest}

pub part-values : (k : ℕ) (bs : List ℕ) (p n : ℕ) → p + n ≤ length bs → map value (part k bs p n) ≡ take n (drop p bs)
unfolding part
part-values k bs p zero h = refl
part-values k bs p (suc n) h =
    ap (λ l. get_or bs p 0 ∷ l) (part-values k bs (suc p) n (omega arith)) ∙ sym (ap (take (suc n)) (drop-cons bs p 0 (omega arith)))

pub rest-values : (k : ℕ) (bs : List ℕ) (p : ℕ) → map value (rest k bs p) ≡ drop p bs
unfolding rest part
rest-values k bs p = go (dec_le p (length bs))
  where
    go : Dec (p ≤ length bs) → map value (part k bs p (length bs - p)) ≡ drop p bs
    go (yes h) = part-values k bs p (length bs - p) (omega arith) ∙ take_all (length bs - p) (drop p bs) (omega (arith, length-drop p bs))
    go (no h) = let z : length bs - p ≡ 0 = omega arith in rw z (sym (drop_of_length-le bs {i = p} (omega arith)))
