-- A part that is cut to the list's end.
use Rattle.std.specs.Prelude.{◌≡◌, ℕ, ◌+◌, ◌-◌, ◌<◌, min, Bool, true, false, List, length, take, drop, nat_le, refl}
use Rattle.std.proofs.Common.{sym, ap, ◌∙◌, arith, leb-true, leb-false, length-drop, drop_of_length-le, take_all}

take_least : (n k : ℕ) (l : List ℕ) → k ≡ min n (length l) → take k l ≡ take n l
take_least n k l e = go (nat_le n (length l)) refl
  where
    go : (t : Bool) → nat_le n (length l) ≡ t → take k l ≡ take n l
    go true h = let f : k ≡ n = omega (arith, leb-true n (length l) h) in ap (λ j. take j l) f
    go false h = let f : length l < n = leb-false n (length l) h in take_all k l (omega arith) ∙ sym (take_all n l (omega arith))

drop_least : (s k : ℕ) (l : List ℕ) → k ≡ min s (length l) → drop k l ≡ drop s l
drop_least s k l e = go (nat_le s (length l)) refl
  where
    go : (t : Bool) → nat_le s (length l) ≡ t → drop k l ≡ drop s l
    go true h = let f : k ≡ s = omega (arith, leb-true s (length l) h) in ap (λ j. drop j l) f
    go false h =
        let f : length l < s = leb-false s (length l) h in
        drop_of_length-le l {i = k} (omega arith) ∙ sym (drop_of_length-le l {i = s} (omega arith))

pub part_clamped : (p : List ℕ) (s n from count : ℕ) → from ≡ min s (length p) → count ≡ min n (length p - from)
    → take (from + count - from) (drop from p) ≡ take n (drop s p)
part_clamped p s n from count f k =
    take_least n (from + count - from) (drop from p) (rw (length-drop from p) (omega arith)) ∙ ap (take n) (drop_least s from p f)
