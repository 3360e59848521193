use Rattle.std.proofs.Common.{◌≡◌, ◌+◌, ◌-◌, ◌≤◌, ℕ, List, [], length, length-drop, take, drop, ap, sym, ◌∙◌, arith, take_all, drop_of_length-le}
use Rattle.std.proofs.Math.Seq.{take-length}
use Rattle.octets.specs.Bytes.{index_of, slice}
use Rattle.session_slowest.proofs.split_at_first.Goals as goal

-- looked for in the whole text
first_place : (b n : ℕ) (l : List ℕ) → n ≡ 0 + index_of b (slice 0 (length l) l) → n ≡ index_of b l
unfolding slice
first_place b n l e = let h : index_of b (take (length l) l) ≡ index_of b l = ap (index_of b) (take-length l) in omega (arith, e, h)

-- the part behind, as code cuts it
rest_whole : (k n : ℕ) (l : List ℕ) → k ≡ n → take (length l - k) (drop k l) ≡ drop n l
rest_whole k n l e = take_all (length l - k) (drop k l) (rw (length-drop k l) (omega arith)) ∙ ap (λ m. drop m l) e

-- nothing is behind the end
rest-none : (n : ℕ) (l : List ℕ) → length l ≤ n → [] ≡ drop n l
rest-none n l h = sym (drop_of_length-le l {i = n} h)

pub returns-then-at-text-clause-parts : goal.returns-then-at-text-clause-parts
returns-then-at-text-clause-parts c =
    let e : c.find-at.result ≡ index_of c.args.byte c.args.text.now = first_place _ _ _ c.find-at.ensures.place in
    (ap (λ n. take n c.args.text.now) e, rest_whole (c.find-at.result + 1) (index_of c.args.byte c.args.text.now + 1) c.args.text.now (omega (arith, e)))

pub returns-else-at-text-clause-parts : goal.returns-else-at-text-clause-parts
returns-else-at-text-clause-parts c =
    let e : c.find-at.result ≡ index_of c.args.byte c.args.text.now = first_place _ _ _ c.find-at.ensures.place in
    (sym (take_all (index_of c.args.byte c.args.text.now) c.args.text.now (omega (arith, e, c.if-at-text.false))), rest-none (index_of c.args.byte c.args.text.now + 1) c.args.text.now (omega (arith, e, c.if-at-text.false)))
