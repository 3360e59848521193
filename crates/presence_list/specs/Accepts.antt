-- An admitted round, step by step.
use Rattle.std.specs.Prelude.{◌≡◌, false, ℕ, ◌≤◌, ltb, replicate, Ok, Err}
use Rattle.std.proofs.Math.Path.{ap, ap₂}
use Rattle.std.proofs.Common.{◌∙◌, arith, lt-ltb, le-ltb}
use mathlib.Core.List.{List as Seq}
use Rattle.std.proofs.Math.ListN.{length}
use Rattle.std.proofs.lemmas.List.{length-replicate}
use Rattle.errors.specs.declared.RoundRefusal.{RoundRefusal}
use Rattle.presence_list.specs.declared.list.Presence.{Presence}
use Rattle.presence_list.specs.Names.{record_size, identifier_limit, card_limit, cards_size}
use Rattle.presence_list.specs.Keyed.{supersede_all, without, Sorted}
use Rattle.presence_list.specs.KeyedLaws.{all_sorted, all_grows, all-all}
use Rattle.presence_list.specs.CardsAt.{Fit, CardsAt, PutAll}
use Rattle.presence_list.specs.Memory.{pieces, laid, Whole, card_in, length_in, long_in, aged, kept_records}
use Rattle.presence_list.specs.MemoryLaws.{length-pieces, pieces_whole, pieces-laid, length-laid, laid_again}
use Rattle.presence_list.specs.EntryLaws.{entries_whole}
use Rattle.presence_list.specs.Growth.{aged_whole, aged_short}
use Rattle.presence_list.specs.AgedLaws.{aged-fit, aged_sorted}
use Rattle.presence_list.specs.Fills.{not_long, entries_fit}
use Rattle.presence_list.specs.Presence.{any}
use Rattle.errors.specs.Rules.{at_true, at_false}
use Rattle.presence_list.specs.Steps.{rounded, list_after, accept_of}

module _ (l : Presence) (fs : Seq (Seq ℕ)) (whole-found : Whole fs) (cards-at : CardsAt l.state.count l.cards) (few : l.state.count ≤ card_limit) (short : any long_in fs ≡ false) where
  abbrev es : Seq (Seq ℕ)
  es = pieces l.state.count l.cards

  abbrev next : Seq (Seq ℕ)
  next = list_after es fs

  whole-es : Whole es
  whole-es = pieces_whole l.state.count l.cards cards-at.room

  whole-next : Whole next
  whole-next = all-all card_in (λ e. length e ≡ record_size) (aged es) (kept_records fs) (aged_whole es whole-es) (entries_whole fs whole-found (not_long fs short))

  pub fit_next : Fit next
  fit_next = all-all card_in (λ e. length_in e ≤ identifier_limit) (aged es) (kept_records fs) (aged-fit es cards-at.fit) (entries_fit fs whole-found (not_long fs short))

  sorted-next : Sorted card_in next
  sorted-next = all_sorted card_in (aged es) (kept_records fs) (aged_sorted es cards-at.fit cards-at.sorted)

  few-aged : length (aged es) ≤ card_limit
  few-aged = let a = aged_short es in let l = length-pieces l.state.count l.cards in omega arith

  module _ (k : ℕ) (list₁ : Seq ℕ) (p : (k ≡ length (aged es)) × (list₁ ≡ laid (aged es) (replicate cards_size 0))) where
    room : length list₁ ≡ cards_size
    room =
        let l = length-replicate {A = ℕ} cards_size 0 in
        let f = few-aged in
        ap length p.1 ∙ length-laid (aged es) (replicate cards_size 0) (aged_whole es whole-es) (omega arith) ∙ l

    so_far : pieces k list₁ ≡ aged es
    so_far = ap (pieces k) p.1 ∙ pieces-laid (aged es) (replicate cards_size 0) k (aged_whole es whole-es) p.0

    pub aged_cards_at : CardsAt k list₁ × (k ≤ card_limit) × (cards_size ≤ length list₁)
    aged_cards_at =
        let f = few-aged in
        let r = room in
        let e = p.0 in
        (record { room = omega arith; fit = rw so_far (aged-fit es cards-at.fit); sorted = rw so_far (aged_sorted es cards-at.fit cards-at.sorted) }, omega arith, omega arith)

    same_next : supersede_all card_in (pieces k list₁) (kept_records fs) ≡ next
    same_next = ap (λ (l : Seq (Seq ℕ)). supersede_all card_in l (kept_records fs)) so_far

    pub accept_full : (list₂ : Seq ℕ) (n : ℕ) (r : RoundRefusal) → PutAll (Err r) (supersede_all card_in (pieces k list₁) (kept_records fs)) list₁ list₂ → rounded l (Err r) ≡ accept_of l n fs
    unfolding accept_of
    accept_full list₂ n r q =
        at_true (rounded l (Err r)) _ _ (ltb card_limit (length next)) (lt-ltb card_limit (length next) (let o = q.1 in let l = ap length same_next in omega arith))
        (ap (λ (e : RoundRefusal). rounded l (Err e)) q.0)

    module _ (r : ℕ) (list₂ : Seq ℕ) (q : PutAll (Ok r) (supersede_all card_in (pieces k list₁) (kept_records fs)) list₁ list₂) where
      pub put_count : r ≡ length next
      put_count = q.0 ∙ ap length same_next

      put-list : list₂ ≡ laid next (replicate cards_size 0)
      put-list = q.2 ∙ ap₂ laid same_next p.1 ∙ laid_again (aged es) next (replicate cards_size 0) (aged_whole es whole-es) (all_grows card_in (aged es) (kept_records fs))

      put-room : length list₂ ≡ cards_size
      put-room =
          let l = length-replicate {A = ℕ} cards_size 0 in
          let f = put_count in
          let h = q.1 in
          ap length put-list ∙ length-laid next (replicate cards_size 0) whole-next (omega arith) ∙ l

      put-pieces : pieces r list₂ ≡ next
      put-pieces = ap (pieces r) put-list ∙ pieces-laid next (replicate cards_size 0) r whole-next put_count

      pub put_cards_at : CardsAt r list₂
      put_cards_at = let m = put-room in let h = q.1 in record { room = omega arith; fit = rw put-pieces fit_next; sorted = rw put-pieces sorted-next }

      pub accept_done : (a₁ d₁ : Seq ℕ) (n x y : ℕ)
          → (x ≡ length (without card_in es (pieces r list₂))) × (a₁ ≡ laid (without card_in es (pieces r list₂)) l.arrived)
          → (y ≡ length (without card_in (pieces r list₂) es)) × (d₁ ≡ laid (without card_in (pieces r list₂) es) l.departed)
          → rounded (record { cards = list₂; arrived = a₁; departed = d₁; state = record { number = n; begun = 1; count = r } }) (Ok (record { arrived = x; departed = y })) ≡ accept_of l n fs
      unfolding accept_of
      accept_done a₁ d₁ n x y u v =
          at_false _ _ _ (ltb card_limit (length next)) (le-ltb card_limit (length next) (let m = put_count in let h = q.1 in omega arith))
          (ap₂
          (λ (m : ℕ) (c : Seq ℕ). rounded (record { cards = c; arrived = a₁; departed = d₁; state = record { number = n; begun = 1; count = m } }) (Ok (record { arrived = x; departed = y })))
          put_count put-list
          ∙ ap₂
          (λ (a d : Seq ℕ).
          rounded (record { cards = laid next (replicate cards_size 0); arrived = a; departed = d; state = record { number = n; begun = 1; count = length next } }) (Ok (record { arrived = x; departed = y })))
          (u.1 ∙ ap (λ (m : Seq (Seq ℕ)). laid (without card_in es m) l.arrived) put-pieces)
          (v.1 ∙ ap (λ (m : Seq (Seq ℕ)). laid (without card_in m es) l.departed) put-pieces)
          ∙ ap₂
          (λ (i j : ℕ).
          rounded
          (record { cards = laid next (replicate cards_size 0); arrived = laid (without card_in es next) l.arrived; departed = laid (without card_in next es) l.departed; state = record { number = n; begun = 1; count = length next } })
          (Ok (record { arrived = i; departed = j })))
          (u.0 ∙ ap (λ (m : Seq (Seq ℕ)). length (without card_in es m)) put-pieces)
          (v.0 ∙ ap (λ (m : Seq (Seq ℕ)). length (without card_in m es)) put-pieces))
