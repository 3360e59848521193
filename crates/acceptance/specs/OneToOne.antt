-- Building is one to one on payloads: of any length, under each length form.
use Rattle.std.specs.Prelude.{◌≡◌, refl, Bool, true, false, List, ◌++◌, ℕ, ◌+◌, ltb, length, take, drop}
use Rattle.std.proofs.Common.{sym, ap, ap₂, ◌∙◌, append_assoc, arith, take_at, drop_at, ltb-true, ltb-false}
use Rattle.errors.specs.Choice.{pick}
use Rattle.framing.specs.Enclose.{length-head, length-frame}
use Rattle.framing.specs.Frames.{ending, head_of, data_start_of, frame_of}
use Rattle.framing.specs.declared.LengthEncoding.{LengthEncoding}
use Rattle.framing.specs.declared.LengthEncoding.TheVariants.{Normal, ExtendedLittleEndian, NormalOrExtendedBigEndian}

-- a longer payload's frame is longer
start_grows : (e : LengthEncoding) (m n : ℕ) → data_start_of e m + m ≡ data_start_of e n + n → m ≡ n
unfolding data_start_of pick
start_grows Normal m n h = omega arith
start_grows ExtendedLittleEndian m n h = omega arith
start_grows NormalOrExtendedBigEndian m n h = go (ltb m 256) (ltb n 256) refl refl h
  where
    go : (t u : Bool) → ltb m 256 ≡ t → ltb n 256 ≡ u → pick t 5 8 + m ≡ pick u 5 8 + n → m ≡ n
    go true true a b k = omega arith
    go true false a b k = omega (arith, ltb-true m 256 a, ltb-false n 256 b)
    go false true a b k = omega (arith, ltb-false m 256 a, ltb-true n 256 b)
    go false false a b k = omega arith

-- the payload out of its frame, by its length
payload_in_lem : (e : LengthEncoding) (p : List ℕ) → take (length p) (drop (data_start_of e (length p)) (frame_of e p)) ≡ p
unfolding frame_of
payload_in_lem e p =
    ap (take (length p))
    (ap (drop (data_start_of e (length p))) (append_assoc (head_of e (length p)) p (ending p))
    ∙ drop_at (head_of e (length p)) (p ++ ending p) (data_start_of e (length p)) (length-head e (length p)))
    ∙ take_at p (ending p) (length p) refl

pub one_to_one : (e : LengthEncoding) (p q : List ℕ) → frame_of e p ≡ frame_of e q → p ≡ q
one_to_one e p q h =
    let l : length p ≡ length q = start_grows e (length p) (length q) (omega (arith, ap length h, length-frame e p, length-frame e q)) in
    sym (payload_in_lem e p) ∙ ap₂ (λ n f. take n (drop (data_start_of e n) f)) l h ∙ payload_in_lem e q
