-- A record put between those of a list in memory, or in the place of one of them.
use Rattle.std.specs.Prelude.{◌≡◌, ℕ, suc, ◌+◌, ◌*◌, ◌-◌, ◌≤◌, ◌<◌, length}
use Rattle.std.proofs.Common.{sym, ◌∙◌, arith, length-append, length-take-le, take-append-drop, take-take, drop_at, drop-drop}
use Rattle.std.proofs.lemmas.List.{take-append-le}
use Rattle.std.specs.List.{copy_within}
use Rattle.std.proofs.Math.Path.{ap, ap₂}
use mathlib.Core.List.{List, ◌∷◌, ◌++◌, append_assoc}
use Rattle.std.proofs.Math.ListN.{take, drop}
use Rattle.presence_list.specs.Names.{record_size}
use Rattle.presence_list.specs.Memory.{pieces, concatenated, laid}
use Rattle.presence_list.specs.MemoryLaws.{length-pieces, joined-pieces, joined-append, take-pieces, drop-pieces}

module _ (b e : List ℕ) (p m : ℕ) where
  -- a list's first p records, one, and m others that lie from a place on
  around : (r : List ℕ) → concatenated (pieces p b ++ e ∷ pieces m r) ≡ take (record_size * p) b ++ (e ++ take (record_size * m) r)
  unfolding concatenated
  around r = joined-append (pieces p b) (e ∷ pieces m r) ∙ ap₂ (λ (x y : List ℕ). x ++ (e ++ y)) (joined-pieces p b) (joined-pieces m r)

  size : (r : List ℕ) → length (pieces p b ++ e ∷ pieces m r) ≡ p + m + 1
  size r = let k = length-append (pieces p b) (e ∷ pieces m r) in let i = length-pieces p b in let j = length-pieces m r in omega arith

  behind : (r : List ℕ) → laid (pieces p b ++ e ∷ pieces m r) b ≡ take (record_size * p) b ++ (e ++ (take (record_size * m) r ++ drop (record_size * (p + m + 1)) b))
  unfolding laid
  behind r =
      ap₂ (λ (x : List ℕ) (k : ℕ). x ++ drop (record_size * k) b) (around r) (size r)
      ∙ append_assoc (take (record_size * p) b) (e ++ take (record_size * m) r) (drop (record_size * (p + m + 1)) b)
      ∙ ap (λ (x : List ℕ). take (record_size * p) b ++ x) (append_assoc e (take (record_size * m) r) (drop (record_size * (p + m + 1)) b))

-- the records from a place on moved up by one
module _ (b b₁ : List ℕ) (count p : ℕ) (h : p ≤ count) (room : record_size * count + record_size ≤ length b)
    (e : b₁ ≡ copy_within b (record_size * p) (record_size * count) (record_size * p + record_size)) where
  abbrev at : ℕ
  at = record_size * p

  front : length (take (at + record_size) b) ≡ at + record_size
  front = length-take-le (at + record_size) b (omega arith)

  cut : b₁ ≡ take (at + record_size) b ++ (take (record_size * count - at) (drop at b) ++ drop (at + record_size + (record_size * count - at)) b)
  cut = e ∙ append_assoc (take (at + record_size) b) (take (record_size * count - at) (drop at b)) (drop (at + record_size + (record_size * count - at)) b)

  stays : take at b₁ ≡ take at b
  stays =
      ap (take at) cut
      ∙ take-append-le at (take (at + record_size) b) (take (record_size * count - at) (drop at b) ++ drop (at + record_size + (record_size * count - at)) b) (let f = front in omega arith)
      ∙ take-take at (at + record_size) b (omega arith)

  moved : drop (at + record_size) b₁ ≡ take (record_size * count - at) (drop at b) ++ drop (record_size * count + record_size) b
  moved =
      let end : at + record_size + (record_size * count - at) ≡ record_size * count + record_size = omega arith in
      ap (drop (at + record_size)) cut
      ∙ drop_at (take (at + record_size) b) (take (record_size * count - at) (drop at b) ++ drop (at + record_size + (record_size * count - at)) b) (at + record_size) front
      ∙ ap (λ (k : ℕ). take (record_size * count - at) (drop at b) ++ drop k b) end

  pub inserted : (e b₂ : List ℕ) → length e ≡ record_size → b₂ ≡ take (record_size * p) b₁ ++ (e ++ drop (record_size * p + record_size) b₁)
      → b₂ ≡ laid (take p (pieces count b) ++ e ∷ drop p (pieces count b)) b
  inserted e b₂ n q =
      let m : ℕ = count - p in
      let all : count ≡ p + m = omega arith in
      let apart : record_size * count - record_size * p ≡ record_size * m = omega arith in
      let end : record_size * count + record_size ≡ record_size * (p + m + 1) = omega arith in
      q
      ∙ ap₂ (λ (x y : List ℕ). x ++ (e ++ y)) stays (moved ∙ ap₂ (λ (i j : ℕ). take i (drop (record_size * p) b) ++ drop j b) apart end)
      ∙ sym (behind b e p m (drop (record_size * p) b))
      ∙ ap (λ (l : List (List ℕ)). laid l b)
      (ap₂ (λ (x y : List (List ℕ)). x ++ e ∷ y) (sym (take-pieces p m b)) (sym (drop-pieces p m b))
      ∙ ap (λ (k : ℕ). take p (pieces k b) ++ e ∷ drop p (pieces k b)) (sym all))

pub replaced : (b e b₂ : List ℕ) (count p : ℕ) → p < count → length e ≡ record_size → record_size * count ≤ length b
    → b₂ ≡ take (record_size * p) b ++ (e ++ drop (record_size * p + length e) b) → b₂ ≡ laid (take p (pieces count b) ++ e ∷ drop (suc p) (pieces count b)) b
replaced b e b₂ count p h n room q =
    let m : ℕ = count - suc p in
    let all : count ≡ suc p + m = omega arith in
    let less : count ≡ p + suc m = omega arith in
    let wide : record_size * p + length e ≡ record_size * suc p = omega arith in
    let end : record_size * suc p + record_size * m ≡ record_size * (p + m + 1) = omega arith in
    q
    ∙ ap (λ (x : List ℕ). take (record_size * p) b ++ (e ++ x))
    (ap (λ (k : ℕ). drop k b) wide
    ∙ sym (take-append-drop (record_size * m) (drop (record_size * suc p) b))
    ∙ ap (λ (x : List ℕ). take (record_size * m) (drop (record_size * suc p) b) ++ x) (drop-drop (record_size * m) (record_size * suc p) b ∙ ap (λ (k : ℕ). drop k b) end))
    ∙ sym (behind b e p m (drop (record_size * suc p) b))
    ∙ ap (λ (l : List (List ℕ)). laid l b)
    (ap₂ (λ (x y : List (List ℕ)). x ++ e ∷ y)
    (sym (take-pieces p (suc m) b) ∙ ap (λ (k : ℕ). take p (pieces k b)) (sym less))
    (sym (drop-pieces (suc p) m b) ∙ ap (λ (k : ℕ). drop (suc p) (pieces k b)) (sym all)))
