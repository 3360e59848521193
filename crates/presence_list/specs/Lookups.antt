-- A card's place in a list in order, and the order of such a list.
use Rattle.std.proofs.Math.Path.{◌≡◌, refl}
use Rattle.std.proofs.Common.{ap, ◌∙◌, leb-true}
use Rattle.std.specs.Prelude.{Bool, ℕ, zero, suc, ◌+◌, ◌*◌, ◌≤◌, leb, length, get_or}
use Rattle.std.proofs.Math.Bool.{true, false}
use mathlib.Core.List.{List, [], ◌∷◌}
use native.Mathlib.Omega.{arith}
use Rattle.std.specs.List.{IsAllAdjacentAnswer}
use Rattle.errors.specs.Choice.{pick}
use Rattle.presence_list.specs.Names.{record_size, identifier_limit}
use Rattle.presence_list.specs.Order.{before}
use Rattle.presence_list.specs.Keyed.{Sorted, Below}
use Rattle.presence_list.specs.KeyedLaws.{below_trans}
use Rattle.presence_list.specs.CardsAt.{CardsAt, Fit}
use Rattle.presence_list.specs.Memory.{pieces, card_in, length_in, in_range_in, is_known_in, missed_in, ascending}
use Rattle.presence_list.specs.Presence.{every}

range_length : (e : List ℕ) → in_range_in e ≡ true → length_in e ≤ identifier_limit
unfolding pick
range_length e h = leb-true (length_in e) identifier_limit (go (leb (length_in e) identifier_limit) h)
  where
    go : (t : Bool) → pick t (pick (leb (missed_in e) 1) (is_known_in e) false) false ≡ true → t ≡ true
    go true h = refl
    go false h = cc

-- records in range whose cards ascend are such a list
module _ where
  ascends : (e : List ℕ) (es : List (List ℕ)) → ascending (e ∷ es) ≡ true → Below card_in (card_in e) es × Sorted card_in es
  unfolding ascending pick
  ascends e [] h = (tt, tt)
  ascends e (f ∷ es) h = go (before (card_in e) (card_in f)) refl h (ascends f es)
    where
      go : (t : Bool) → before (card_in e) (card_in f) ≡ t → pick t (ascending (f ∷ es)) false ≡ true
          → (ascending (f ∷ es) ≡ true → Below card_in (card_in f) es × Sorted card_in es) → Below card_in (card_in e) (f ∷ es) × Sorted card_in (f ∷ es)
      go true p h r = let s = r h in ((p, below_trans card_in (card_in e) (card_in f) es p s.0), s)
      go false p h r = let z : ◌≡◌ {A = Bool} false true = h in absurd (never z)
        where
          never : ◌≡◌ {A = Bool} false true → ⊥
          never z = let w : ◌≡◌ {A = ℕ} 0 1 = cc in omega arith

  pub ascending_sorted : (es : List (List ℕ)) → ascending es ≡ true → Sorted card_in es
  ascending_sorted [] h = tt
  ascending_sorted (e ∷ es) h = ascends e es h

  pub sorted_ascending : (es : List (List ℕ)) → Sorted card_in es → ascending es ≡ true
  unfolding ascending pick
  sorted_ascending [] o = refl
  sorted_ascending (e ∷ []) o = refl
  sorted_ascending (e ∷ f ∷ es) o = rw o.0.0 (sorted_ascending (f ∷ es) o.1)

  pub every-fit : (es : List (List ℕ)) → every in_range_in es ≡ true → Fit es
  unfolding every pick
  every-fit [] h = tt
  every-fit (e ∷ es) h = go (in_range_in e) refl h (every-fit es)
    where
      go : (t : Bool) → in_range_in e ≡ t → pick t (every in_range_in es) false ≡ true → (every in_range_in es ≡ true → Fit es) → Fit (e ∷ es)
      go true p h r = (range_length e p, r h)
      go false p h r = let z : ◌≡◌ {A = Bool} false true = h in absurd (never z)
        where
          never : ◌≡◌ {A = Bool} false true → ⊥
          never z = let w : ◌≡◌ {A = ℕ} 0 1 = cc in omega arith

  pub cards_at_in_range : (n : ℕ) (b : List ℕ) → record_size * n ≤ length b → every in_range_in (pieces n b) ≡ true → ascending (pieces n b) ≡ true → CardsAt n b
  cards_at_in_range n b r e a = record { room = r; fit = every-fit (pieces n b) e; sorted = ascending_sorted (pieces n b) a }

next_place : (k : ℕ) → suc k + 1 ≡ suc (k + 1)
next_place k = omega arith

-- the library's word for an order of neighbours
pub ascends_as : (es : List (List ℕ)) (r : Bool) → IsAllAdjacentAnswer (λ e f b. b ≡ before (card_in e) (card_in f)) es r → r ≡ ascending es
unfolding ascending pick
ascends_as [] true a = refl
ascends_as [] false (k, h, b) = absurd (omega arith)
ascends_as (e ∷ []) true a = refl
ascends_as (e ∷ []) false (k, h, b) = absurd (omega arith)
ascends_as (e ∷ f ∷ es) true a =
    rw (← a 0 [] (omega arith))
    (ascends_as (f ∷ es) true
    (λ k d h. a (suc k) d (omega arith) ∙ ap (λ (j : ℕ). before (card_in (get_or (f ∷ es) k d)) (card_in (get_or (e ∷ f ∷ es) j d))) (next_place k)))
ascends_as (e ∷ f ∷ es) false (zero, h, b) = rw (← b [])
ascends_as (e ∷ f ∷ es) false (suc k, h, b) =
    go (before (card_in e) (card_in f))
    (ascends_as (f ∷ es) false
    (k, omega arith, λ d. b d ∙ ap (λ (j : ℕ). before (card_in (get_or (f ∷ es) k d)) (card_in (get_or (e ∷ f ∷ es) j d))) (next_place k)))
  where
    go : (t : Bool) → false ≡ ascending (f ∷ es) → false ≡ pick t (ascending (f ∷ es)) false
    go true r = r
    go false r = refl
