-- Records put into a list that lies in memory.
use Rattle.std.specs.Prelude.{◌≡◌, refl, true, false, ℕ, suc, ◌+◌, ◌-◌, ◌*◌, ◌≤◌, ◌<◌, take, drop, Ok, Err}
use Rattle.std.proofs.Common.{sym, ◌∙◌, arith, length-append, length-drop, length-set, length-take-le}
use Rattle.std.proofs.Math.Path.{ap}
use mathlib.Core.List.{List, [], ◌∷◌, ◌++◌}
use Rattle.std.proofs.Math.ListN.{length, set}
use Rattle.errors.specs.declared.RoundRefusal.TheVariants.{ListFull}
use Rattle.presence_list.specs.Names.{record_size, identifier_limit, missed_offset, card_limit}
use Rattle.presence_list.specs.Keyed.{supersede, place, has}
use Rattle.presence_list.specs.KeyedLaws.{place_le, supersede_new, supersede_old}
use Rattle.presence_list.specs.CardsAt.{CardsAt, PutAll}
use Rattle.presence_list.specs.Memory.{pieces, laid, card_in, length_in, missed_in, put_behind, aged, kept_record}
use Rattle.presence_list.specs.MemoryLaws.{length-pieces}
use Rattle.presence_list.specs.EntryLaws.{entry_whole, entry_card}
use Rattle.presence_list.specs.Growth.{added_none, added-one, aged_out, aged_stays, without-known, without_new}
use Rattle.presence_list.specs.Inserts.{replaced}
use Rattle.presence_list.specs.Keyed.{without}

-- the part of the size of a record from a place on
pub record_part : (b : List ℕ) (at : ℕ) → take (at + record_size - at) (drop at b) ≡ take record_size (drop at b)
record_part b at = ap (λ (k : ℕ). take k (drop at b)) (same at)
  where
    same : (n : ℕ) → n + record_size - n ≡ record_size
    same n = omega arith

-- a record that is put behind others, or not
module _ (e out : List ℕ) (n : ℕ) where
  same_count : (es : List (List ℕ)) → es ≡ [] → n ≡ n + length es
  same_count es e = let l = ap length e in omega arith

  none_put : (es : List (List ℕ)) → es ≡ [] → (n ≡ n + length es) × (out ≡ put_behind n es out)
  none_put es e = (same_count es e, added_none n out ∙ ap (λ (l : List (List ℕ)). put_behind n l out) (sym e))

  one_put : (es : List (List ℕ)) (f out₁ : List ℕ) → es ≡ f ∷ [] → length f ≡ record_size → out₁ ≡ take (record_size * n) out ++ (f ++ drop (record_size * n + record_size) out)
      → (n + 1 ≡ n + length es) × (out₁ ≡ put_behind n es out)
  one_put es f out₁ e h q = (
    ap (λ (l : List (List ℕ)). n + length l) (sym e),
    q
        ∙ ap (λ (k : ℕ). take (record_size * n) out ++ (f ++ drop (record_size * n + k) out)) (sym h)
        ∙ added-one n f out h
        ∙ ap (λ (l : List (List ℕ)). put_behind n l out) (sym e),
  )

  pub not_aged : (missed_in e ≡ 0 → ⊥) → (n ≡ n + length (aged (e ∷ []))) × (out ≡ put_behind n (aged (e ∷ [])) out)
  not_aged h = none_put (aged (e ∷ [])) (aged_out e h)

  pub put-aged : (out₁ : List ℕ) → length e ≡ record_size → missed_in e ≡ 0
      → out₁ ≡ take (record_size * n) out ++ (set e missed_offset 1 ++ drop (record_size * n + record_size) out)
      → (n + 1 ≡ n + length (aged (e ∷ []))) × (out₁ ≡ put_behind n (aged (e ∷ [])) out)
  put-aged out₁ w h q = one_put (aged (e ∷ [])) (set e missed_offset 1) out₁ (aged_stays e h) (length-set e missed_offset 1 ∙ w) q

  pub not_missing : (other : List (List ℕ)) → has card_in (card_in e) other ≡ true
      → (n ≡ n + length (without card_in other (e ∷ []))) × (out ≡ put_behind n (without card_in other (e ∷ [])) out)
  not_missing other h = none_put (without card_in other (e ∷ [])) (without-known other e h)

  pub put_missing : (other : List (List ℕ)) (out₁ : List ℕ) → length e ≡ record_size → has card_in (card_in e) other ≡ false
      → out₁ ≡ take (record_size * n) out ++ (e ++ drop (record_size * n + record_size) out)
      → (n + 1 ≡ n + length (without card_in other (e ∷ []))) × (out₁ ≡ put_behind n (without card_in other (e ∷ [])) out)
  put_missing other out₁ w h q = one_put (without card_in other (e ∷ [])) e out₁ (without_new other e h) w q

-- one record put into a list
module _ (b f : List ℕ) (count p : ℕ) (n : length f ≡ record_size) (h : length_in f ≤ identifier_limit) (cards-at : CardsAt count b) (few : count ≤ card_limit)
    (v : p ≡ place card_in (card_in f) (pieces count b)) where
  abbrev after : List (List ℕ)
  after = supersede card_in (kept_record f) (pieces count b)

  key : card_in (kept_record f) ≡ card_in f
  key = entry_card f n h

  at_key : place card_in (card_in (kept_record f)) (pieces count b) ≡ p
  at_key = ap (λ (x : List ℕ). place card_in x (pieces count b)) key ∙ sym v

  -- where its card is already
  module _ (t : has card_in (card_in f) (pieces count b) ≡ true) where
    old : (place card_in (card_in (kept_record f)) (pieces count b) < length (pieces count b))
        × (after ≡ take (place card_in (card_in (kept_record f)) (pieces count b)) (pieces count b) ++ kept_record f ∷ drop (suc (place card_in (card_in (kept_record f)) (pieces count b))) (pieces count b))
    old = supersede_old card_in (kept_record f) (pieces count b) cards-at.sorted (rw key t)

    pub old_place : p < count
    old_place = let o = old.0 in let l = length-pieces count b in let a = at_key in omega arith

    pub put_old : (e b₁ : List ℕ) → e ≡ kept_record f → b₁ ≡ take (record_size * p) b ++ (e ++ drop (record_size * p + record_size) b) → PutAll (Ok count) after b b₁
    put_old e b₁ i s =
        let w : length e ≡ record_size = ap length i ∙ entry_whole f n h in (
          sized,
          few,
          replaced b e b₁ count p old_place w cards-at.room (s ∙ ap (λ (k : ℕ). take (record_size * p) b ++ (e ++ drop (record_size * p + k) b)) (sym w))
              ∙ ap (λ (l : List (List ℕ)). laid l b)
              (ap (λ (x : List ℕ). take p (pieces count b) ++ x ∷ drop (suc p) (pieces count b)) i
              ∙ ap (λ (k : ℕ). take k (pieces count b) ++ kept_record f ∷ drop (suc k) (pieces count b)) (sym at_key)
              ∙ sym old.1),
        )
      where
        sized : count ≡ length after
        sized =
            let o = old in
            let k : ℕ = place card_in (card_in (kept_record f)) (pieces count b) in
            let e = ap length o.1 in
            let a = length-append (take k (pieces count b)) (kept_record f ∷ drop (suc k) (pieces count b)) in
            let x = length-take-le k (pieces count b) (let z = o.0 in omega arith) in
            let y = length-drop (suc k) (pieces count b) in
            let l = length-pieces count b in
            let z = o.0 in
            omega arith

  -- where it is not
  module _ (t : has card_in (card_in f) (pieces count b) ≡ false) where
    new : after ≡ take (place card_in (card_in (kept_record f)) (pieces count b)) (pieces count b) ++ kept_record f ∷ drop (place card_in (card_in (kept_record f)) (pieces count b)) (pieces count b)
    new = supersede_new card_in (kept_record f) (pieces count b) (rw key t)

    new-sized : count + 1 ≡ length after
    new-sized =
        let o = new in
        let k : ℕ = place card_in (card_in (kept_record f)) (pieces count b) in
        let e = ap length o in
        let a = length-append (take k (pieces count b)) (kept_record f ∷ drop k (pieces count b)) in
        let le = place_le card_in (card_in (kept_record f)) (pieces count b) in
        let x = length-take-le k (pieces count b) le in
        let y = length-drop k (pieces count b) in
        let l = length-pieces count b in
        omega arith

    pub new_place : p ≤ count
    new_place = let le = place_le card_in (card_in (kept_record f)) (pieces count b) in let l = length-pieces count b in let a = at_key in omega arith

    pub put_new : (e b₁ : List ℕ) → e ≡ kept_record f → count < card_limit → b₁ ≡ laid (take p (pieces count b) ++ e ∷ drop p (pieces count b)) b → PutAll (Ok (count + 1)) after b b₁
    put_new e b₁ i m s = (
      new-sized,
      omega arith,
      s
          ∙ ap (λ (l : List (List ℕ)). laid l b)
          (ap (λ (x : List ℕ). take p (pieces count b) ++ x ∷ drop p (pieces count b)) i
          ∙ ap (λ (k : ℕ). take k (pieces count b) ++ kept_record f ∷ drop k (pieces count b)) (sym at_key)
          ∙ sym new),
    )

    pub put_not : (b₁ : List ℕ) → card_limit ≤ count → PutAll (Err ListFull) after b b₁
    put_not b₁ full = (refl, let s = new-sized in omega arith)
