-- The list before the records of a round: in order as before, each card as it was.
use Rattle.std.specs.Prelude.{◌≡◌, refl, Bool, true, false, List, [], ◌∷◌, ℕ, ◌-◌, ◌≤◌, eqb, take, get_or, set}
use Rattle.std.proofs.Common.{ap, ap₂, ◌∙◌, arith, get_or-set_other}
use Rattle.std.proofs.lemmas.List.{take-set-le}
use Rattle.errors.specs.Choice.{pick}
use Rattle.presence_list.specs.Names.{identifier_limit, length_offset, bitrate_offset, missed_offset}
use Rattle.presence_list.specs.Keyed.{Below, Sorted}
use Rattle.presence_list.specs.CardsAt.{Fit}
use Rattle.presence_list.specs.Memory.{card_in, length_in, missed_in, found_in, aged}
use Rattle.presence_list.specs.Presence.{card}

pub missed_length : (e : List ℕ) → length_in (set e missed_offset 1) ≡ length_in e
missed_length e = get_or-set_other e missed_offset length_offset 1 0 (λ h. omega arith)

pub missed_found : (e : List ℕ) → length_in e ≤ identifier_limit → found_in (set e missed_offset 1) ≡ found_in e
missed_found [] h = refl
missed_found (x ∷ xs) h =
    let k : ℕ = get_or xs (length_offset - 1) 0 in
    let n : get_or (set xs (missed_offset - 1) 1) (length_offset - 1) 0 ≡ k = get_or-set_other xs (missed_offset - 1) (length_offset - 1) 1 0 (λ z. omega arith) in
    let t : take (get_or (set xs (missed_offset - 1) 1) (length_offset - 1) 0) (set xs (missed_offset - 1) 1) ≡ take k xs = ap (λ (j : ℕ). take j (set xs (missed_offset - 1) 1)) n ∙ take-set-le k xs (missed_offset - 1) 1 (omega arith) in
    ap₂ (λ (i : List ℕ) (r : ℕ). record { kind = x; identifier = i; bitrate = r }) t (get_or-set_other xs (missed_offset - 1) (bitrate_offset - 1) 1 0 (λ z. omega arith))

pub missed_card : (e : List ℕ) → length_in e ≤ identifier_limit → card_in (set e missed_offset 1) ≡ card_in e
unfolding card_in
missed_card e h = ap card (missed_found e h)

pub aged-fit : (es : List (List ℕ)) → Fit es → Fit (aged es)
unfolding aged pick
aged-fit [] f = tt
aged-fit (e ∷ es) f = go (eqb (missed_in e) 0) (aged-fit es f.1)
  where
    go : (t : Bool) → Fit (aged es) → Fit (pick t (set e missed_offset 1 ∷ aged es) (aged es))
    go true r = (rw (missed_length e) f.0, r)
    go false r = r

aged_below : (k : List ℕ) (es : List (List ℕ)) → Fit es → Below card_in k es → Below card_in k (aged es)
unfolding aged pick
aged_below k [] f b = tt
aged_below k (e ∷ es) f b = go (eqb (missed_in e) 0) (aged_below k es f.1 b.1)
  where
    go : (t : Bool) → Below card_in k (aged es) → Below card_in k (pick t (set e missed_offset 1 ∷ aged es) (aged es))
    go true r = (rw (missed_card e f.0) b.0, r)
    go false r = r

pub aged_sorted : (es : List (List ℕ)) → Fit es → Sorted card_in es → Sorted card_in (aged es)
unfolding aged pick
aged_sorted [] f o = tt
aged_sorted (e ∷ es) f o = go (eqb (missed_in e) 0) (aged_sorted es f.1 o.1)
  where
    go : (t : Bool) → Sorted card_in (aged es) → Sorted card_in (pick t (set e missed_offset 1 ∷ aged es) (aged es))
    go true r = (rw (missed_card e f.0) (aged_below (card_in e) es f.1 o.0), r)
    go false r = r
