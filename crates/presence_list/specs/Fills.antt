-- All records of a round put into a list that lies in memory, one after the other.
use Rattle.std.specs.Prelude.{◌≡◌, refl, Bool, true, false, ℕ, zero, suc, ◌+◌, ◌≤◌, ◌<◌, drop, get_or, Ok, Err}
use Rattle.std.proofs.Math.Path.{sym, ap}
use Rattle.std.proofs.Common.{ap₂, ◌∙◌, take-append-drop, ltb-false}
use mathlib.Core.List.{List, [], ◌∷◌, ◌++◌}
use native.Mathlib.Omega.{arith}
use Rattle.std.proofs.Math.ListN.{length, take}
use Rattle.std.proofs.Math.Seq.{take_all}
use Rattle.errors.specs.Choice.{pick}
use Rattle.errors.specs.declared.RoundRefusal.{RoundRefusal}
use Rattle.presence_list.specs.Names.{record_size, identifier_limit, card_limit, cards_size}
use Rattle.presence_list.specs.Keyed.{All, supersede, supersede_all, Sorted}
use Rattle.presence_list.specs.KeyedLaws.{all_sorted, all_grows, all-all, all_append, supersede_grows}
use Rattle.presence_list.specs.CardsAt.{Fit, CardsAt, PutAll}
use Rattle.presence_list.specs.Memory.{pieces, laid, Whole, card_in, length_in, long_in, kept_record, kept_records}
use Rattle.presence_list.specs.MemoryLaws.{length-pieces, pieces_whole, pieces-laid, length-laid, laid_again, laid-pieces}
use Rattle.presence_list.specs.EntryLaws.{entry_length, entries_whole}
use Rattle.presence_list.specs.Growth.{take_whole}
use Rattle.presence_list.specs.Presence.{any}
use Rattle.presence_list.specs.Turns.{any_at, take_more}

pub not_long : (rs : List (List ℕ)) → any long_in rs ≡ false → Fit rs
unfolding any pick
not_long [] h = tt
not_long (r ∷ rs) h = go (long_in r) refl h (not_long rs)
  where
    go : (t : Bool) → long_in r ≡ t → pick t true (any long_in rs) ≡ false → (any long_in rs ≡ false → Fit rs) → Fit (r ∷ rs)
    go true p h f = let z : ◌≡◌ {A = Bool} true false = h in absurd (never z)
      where
        never : ◌≡◌ {A = Bool} true false → ⊥
        never z = let w : ◌≡◌ {A = ℕ} 0 1 = cc in omega arith
    go false p h f = (ltb-false identifier_limit (length_in r) p, f h)

take-all_of : {A : Type 0} (p : A → Type 0) (n : ℕ) (l : List A) → All p l → All p (take n l)
take-all_of p zero l a = tt
take-all_of p (suc n) [] a = tt
take-all_of p (suc n) (x ∷ xs) a = (a.0, take-all_of p n xs a.1)

entries-append : (xs ys : List (List ℕ)) → kept_records (xs ++ ys) ≡ kept_records xs ++ kept_records ys
unfolding kept_records
entries-append [] ys = refl
entries-append (x ∷ xs) ys = ap (λ (l : List (List ℕ)). kept_record x ∷ l) (entries-append xs ys)

pub entries_fit : (rs : List (List ℕ)) → Whole rs → Fit rs → Fit (kept_records rs)
unfolding kept_records
entries_fit [] w f = tt
entries_fit (r ∷ rs) w f = (rw (entry_length r w.0 f.0) f.0, entries_fit rs w.1 f.1)

-- the list after i records
pub filled : List ℕ → ℕ → List (List ℕ) → ℕ → List (List ℕ)
filled b count rs i = supersede_all card_in (pieces count b) (kept_records (take i rs))

abbrev pub FilledSoFar : List ℕ → ℕ → List (List ℕ) → ℕ → ℕ → List ℕ → Type 0
FilledSoFar b count rs i n cards =
    (i ≤ length rs) × (n ≤ card_limit) × (n ≡ length (filled b count rs i)) × (cards ≡ laid (filled b count rs i) b) × (length cards ≡ length b)

module _ (b : List ℕ) (count : ℕ) (rs : List (List ℕ)) (cards-at : CardsAt count b) (few : count ≤ card_limit) (room : cards_size ≤ length b) (whole-rs : Whole rs)
    (short : any long_in rs ≡ false) where
  fit-rs : Fit rs
  fit-rs = not_long rs short

  whole-filled : (i : ℕ) → Whole (filled b count rs i)
  unfolding filled
  whole-filled i =
      all-all card_in (λ e. length e ≡ record_size) (pieces count b) (kept_records (take i rs)) (pieces_whole count b cards-at.room)
      (entries_whole (take i rs) (take_whole i rs whole-rs) (take-all_of (λ e. length_in e ≤ identifier_limit) i rs fit-rs))

  fit-filled : (i : ℕ) → Fit (filled b count rs i)
  unfolding filled
  fit-filled i =
      all-all card_in (λ e. length_in e ≤ identifier_limit) (pieces count b) (kept_records (take i rs)) cards-at.fit
      (entries_fit (take i rs) (take_whole i rs whole-rs) (take-all_of (λ e. length_in e ≤ identifier_limit) i rs fit-rs))

  sorted-filled : (i : ℕ) → Sorted card_in (filled b count rs i)
  unfolding filled
  sorted-filled i = all_sorted card_in (pieces count b) (kept_records (take i rs)) cards-at.sorted

  next : (i : ℕ) → i < length rs → filled b count rs (i + 1) ≡ supersede card_in (kept_record (get_or rs i [])) (filled b count rs i)
  unfolding filled supersede_all kept_records
  next i h =
      ap (λ (l : List (List ℕ)). supersede_all card_in (pieces count b) (kept_records l)) (take_more rs i [] h)
      ∙ ap (supersede_all card_in (pieces count b)) (entries-append (take i rs) (get_or rs i [] ∷ []))
      ∙ all_append card_in (pieces count b) (kept_records (take i rs)) (kept_record (get_or rs i []) ∷ [])

  -- what is put so far is part of what is put at last
  grows : (i : ℕ) → length (filled b count rs i) ≤ length (supersede_all card_in (pieces count b) (kept_records rs))
  unfolding filled
  grows i =
      let parts : supersede_all card_in (pieces count b) (kept_records rs) ≡ supersede_all card_in (supersede_all card_in (pieces count b) (kept_records (take i rs))) (kept_records (drop i rs)) =
      ap (λ (l : List (List ℕ)). supersede_all card_in (pieces count b) (kept_records l)) (sym (take-append-drop i rs))
      ∙ ap (supersede_all card_in (pieces count b)) (entries-append (take i rs) (drop i rs))
      ∙ all_append card_in (pieces count b) (kept_records (take i rs)) (kept_records (drop i rs)) in
      let g = all_grows card_in (supersede_all card_in (pieces count b) (kept_records (take i rs))) (kept_records (drop i rs)) in
      let e = ap length parts in
      omega arith

  pub filled_none : FilledSoFar b count rs 0 count b
  unfolding filled supersede_all kept_records
  filled_none = (omega arith, few, sym (length-pieces count b), sym (laid-pieces count b), refl)

  module _ (i n : ℕ) (cards : List ℕ) (inv : FilledSoFar b count rs i n cards) where
    so_far : pieces n cards ≡ filled b count rs i
    so_far = ap (pieces n) inv.3 ∙ pieces-laid (filled b count rs i) b n (whole-filled i) inv.2

    pub filled_cards_at : CardsAt n cards
    filled_cards_at =
        record
        { room = let a = inv.1 in let z = inv.4 in omega arith; fit = rw so_far (fit-filled i); sorted = rw so_far (sorted-filled i) }

    module _ (part : List ℕ) (h : i < length rs) (p : part ≡ get_or rs i []) where
      pub filled_fit : length_in part ≤ identifier_limit
      filled_fit = rw p (ltb-false identifier_limit (length_in (get_or rs i [])) (any_at long_in rs i [] short h))

      step : supersede card_in (kept_record part) (pieces n cards) ≡ filled b count rs (i + 1)
      step = ap₂ (λ (x : List ℕ) (l : List (List ℕ)). supersede card_in (kept_record x) l) p so_far ∙ sym (next i h)

      longer : length (filled b count rs i) ≤ length (filled b count rs (i + 1))
      longer = let g = (supersede_grows card_in (kept_record (get_or rs i [])) (filled b count rs i)).0 in let e = ap length (next i h) in omega arith

      pub filled_more : (r : ℕ) (cards₁ : List ℕ) → PutAll (Ok r) (supersede card_in (kept_record part) (pieces n cards)) cards cards₁ → FilledSoFar b count rs (i + 1) r cards₁
      filled_more r cards₁ q =
          let lies : cards₁ ≡ laid (filled b count rs (i + 1)) b =
          q.2
          ∙ ap₂ laid step inv.3
          ∙ laid_again (filled b count rs i) (filled b count rs (i + 1)) b (whole-filled i) longer in
          let sized : r ≡ length (filled b count rs (i + 1)) = q.0 ∙ ap length step in
          let small = q.1 in (
            omega arith,
            small,
            sized,
            lies,
            ap length lies ∙ length-laid (filled b count rs (i + 1)) b (whole-filled (i + 1)) (omega arith),
          )

      pub filled_over : (r : RoundRefusal) (cards₁ : List ℕ) → PutAll (Err r) (supersede card_in (kept_record part) (pieces n cards)) cards cards₁
          → PutAll (Err r) (supersede_all card_in (pieces count b) (kept_records rs)) b cards₁
      filled_over r cards₁ q = (q.0, let g = grows (i + 1) in let e = ap length step in let o = q.1 in omega arith)

    pub filled_all : length rs ≤ i → PutAll (Ok n) (supersede_all card_in (pieces count b) (kept_records rs)) b cards
    unfolding filled
    filled_all h =
        let same : filled b count rs i ≡ supersede_all card_in (pieces count b) (kept_records rs) =
        ap (λ (l : List (List ℕ)). supersede_all card_in (pieces count b) (kept_records l)) (take_all i rs h) in
        (inv.2 ∙ ap length same, inv.1, inv.3 ∙ ap (λ (l : List (List ℕ)). laid l b) same)
