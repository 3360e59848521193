-- The chip's search finds the first card of its kind.
use Rattle.std.specs.Prelude.{◌≡◌, Bool, cond, List, [], ◌∷◌, ◌++◌, ℕ, zero, suc}
use Rattle.std.proofs.Math.Path.{refl, sym, ap}
use Rattle.std.proofs.Common.{◌∙◌, subst}
use Rattle.std.proofs.Math.Bool.{true, false}
use Rattle.std.proofs.lemmas.Bool.{false≢true}
use Rattle.std.proofs.Math.Option.{Option, none, some}
use borrow.Author.Tests.{eqb-true, eq-eqb}
use Rattle.std.proofs.Math.Dec.{eqb}
use Rattle.errors.specs.Choice.{pick}
use Rattle.targets.specs.declared.Bitrate.{Bitrate}
use Rattle.targets.specs.declared.Bitrate.TheVariants.{B106A, B212F, B424F, B106B, B212B, B424B, B848B, Other}
use Rattle.chip_protocol.specs.First.{IsOf, NoneOf, FirstOf, First}
use Rattle.chip_protocol.specs.Field.{Card, is_bitrate_of, br_ty, kind_number, is_at, FieldFits}
use Rattle.chip_protocol.specs.Chip.{card_in, card_at, first_from, first_place_of}
use Rattle.chip_protocol.specs.declared.Kind.{Kind}
use Rattle.chip_protocol.specs.declared.Kind.TheVariants.{TypeA, TypeB, TypeF, Dep}
use Rattle.chip_protocol.specs.Search.{kind_from, is_searched, rate_from, has_code_of, first_card, behind_one, OptionFits}

kind_back : (k : Kind) → kind_from (kind_number k) ≡ k
kind_back TypeA = refl
kind_back TypeB = refl
kind_back TypeF = refl
kind_back Dep = refl

rate_back : (r : Bitrate) → is_searched r ≡ true → rate_from (br_ty r) ≡ r
rate_back B106A h = refl
rate_back B212F h = refl
rate_back B424F h = refl
rate_back B106B h = refl
rate_back B212B h = absurd (false≢true h)
rate_back B424B h = absurd (false≢true h)
rate_back B848B h = absurd (false≢true h)
rate_back Other h = absurd (false≢true h)

has_code : (r : Bitrate) → has_code_of (br_ty r) ≡ is_searched r
has_code B106A = refl
has_code B212F = refl
has_code B424F = refl
has_code B106B = refl
has_code B212B = refl
has_code B424B = refl
has_code B848B = refl
has_code Other = refl

pub of_searched : (k : Kind) (r : Bitrate) → is_bitrate_of k r ≡ true → is_searched r ≡ true
of_searched k B106A h = refl
of_searched k B212F h = refl
of_searched k B424F h = refl
of_searched k B106B h = refl
of_searched TypeA B212B h = h
of_searched TypeB B212B h = h
of_searched TypeF B212B h = h
of_searched Dep B212B h = h
of_searched TypeA B424B h = h
of_searched TypeB B424B h = h
of_searched TypeF B424B h = h
of_searched Dep B424B h = h
of_searched TypeA B848B h = h
of_searched TypeB B848B h = h
of_searched TypeF B848B h = h
of_searched Dep B848B h = h
of_searched TypeA Other h = h
of_searched TypeB Other h = h
of_searched TypeF Other h = h
of_searched Dep Other h = h

same-rate : (q r : Bitrate) → is_searched r ≡ true → br_ty q ≡ br_ty r → q ≡ r
same-rate q r h e =
    let both : is_searched q ≡ true = sym (has_code q) ∙ ap has_code_of e ∙ has_code r ∙ h in
    sym (rate_back q both) ∙ ap rate_from e ∙ rate_back r h

module _ (k : Kind) (r : Bitrate) (taken : is_bitrate_of k r ≡ true) where
  pub is_at_lem : (c : Card) → IsOf k r c → is_at k (br_ty r) c ≡ true
  unfolding is_at pick
  is_at_lem c h = rw (h.0, h.1, eq-eqb (kind_number k) (kind_number k) refl, eq-eqb (br_ty r) (br_ty r) refl)

  pub at_is : (c : Card) → is_at k (br_ty r) c ≡ true → IsOf k r c
  unfolding is_at pick
  at_is c = go (eqb (kind_number c.kind) (kind_number k)) refl
    where
      go : (t : Bool) → eqb (kind_number c.kind) (kind_number k) ≡ t → pick t (eqb (br_ty c.bitrate) (br_ty r)) false ≡ true → IsOf k r c
      go true p e = (
        sym (kind_back c.kind) ∙ ap kind_from (eqb-true (kind_number c.kind) (kind_number k) p) ∙ kind_back k,
        same-rate c.bitrate r (of_searched k r taken) (eqb-true (br_ty c.bitrate) (br_ty r) e),
      )
      go false p e = absurd (false≢true e)

  pub not_at : (c : Card) → (IsOf k r c → ⊥) → is_at k (br_ty r) c ≡ false
  not_at c n = go (is_at k (br_ty r) c) refl
    where
      go : (t : Bool) → is_at k (br_ty r) c ≡ t → t ≡ false
      go true e = absurd (n (at_is c e))
      go false e = refl

from_next : (k : Kind) (code n : ℕ) (f : List Card) → first_from (suc n) k code f ≡ behind_one (first_from n k code f)
unfolding first_from pick
from_next k code n [] = refl
from_next k code n (c ∷ cs) = go (is_at k code c) (from_next k code (suc n) cs)
  where
    go : (t : Bool) → first_from (suc (suc n)) k code cs ≡ behind_one (first_from (suc n) k code cs)
        → pick t (some (suc n)) (first_from (suc (suc n)) k code cs) ≡ behind_one (pick t (some n) (first_from (suc n) k code cs))
    go true e = refl
    go false e = e

card-behind : (c : Card) (cs : List Card) (o : Option ℕ) → card_at (c ∷ cs) (behind_one o) ≡ card_at cs o
card-behind c cs none = refl
card-behind c cs (some n) = refl

-- the place that is found is the first card's
pub card-first : (k : Kind) (code : ℕ) (f : List Card) → card_at f (first_place_of k code f) ≡ first_card k code f
unfolding first_from pick
card-first k code [] = refl
card-first k code (c ∷ cs) = go (is_at k code c) (ap (card_at (c ∷ cs)) (from_next k code zero cs) ∙ card-behind c cs (first_place_of k code cs) ∙ card-first k code cs)
  where
    go : (t : Bool) → card_at (c ∷ cs) (first_from (suc zero) k code cs) ≡ first_card k code cs
        → card_at (c ∷ cs) (pick t (some zero) (first_from (suc zero) k code cs)) ≡ cond t (some c) (first_card k code cs)
    go true e = refl
    go false e = e

module _ (k : Kind) (r : Bitrate) (taken : is_bitrate_of k r ≡ true) where
  found_none : (f : List Card) → NoneOf k r f → first_card k (br_ty r) f ≡ none
  found_none [] h = refl
  found_none (c ∷ cs) h = rw (not_at k r taken c h.0) (found_none cs h.1)

  found_some : (before behind : List Card) (c : Card) → IsOf k r c → NoneOf k r before → first_card k (br_ty r) (before ++ (c ∷ behind)) ≡ some c
  found_some [] behind c h n = rw (is_at_lem k r taken c h)
  found_some (d ∷ ds) behind c h n = rw (not_at k r taken d n.0) (found_some ds behind c h n.1)

  -- what is first is found
  pub finds_first : (f : List Card) (o : Option Card) → First k r f o → card_at f (first_place_of k (br_ty r) f) ≡ o
  finds_first f none h = card-first k (br_ty r) f ∙ found_none f h
  finds_first f (some c) h = card-first k (br_ty r) f ∙ ap (first_card k (br_ty r)) h.whole ∙ found_some h.before h.behind c h.is h.none_before

  -- every field has a first, or none
  pub has_first : (f : List Card) → (o : Option Card) × First k r f o
  has_first [] = (none, tt)
  has_first (c ∷ cs) = go (is_at k (br_ty r) c) refl (has_first cs)
    where
      behind : (IsOf k r c → ⊥) → (o : Option Card) → First k r cs o → First k r (c ∷ cs) o
      behind n none h = (n, h)
      behind n (some d) h =
          record { before = c ∷ h.before; behind = h.behind; whole = ap (λ l. c ∷ l) h.whole; is = h.is; none_before = (n, h.none_before) }

      go : (t : Bool) → is_at k (br_ty r) c ≡ t → (o : Option Card) × First k r cs o → (o : Option Card) × First k r (c ∷ cs) o
      go true e w = (some c, record { before = []; behind = cs; whole = refl; is = at_is k r taken c e; none_before = tt })
      go false e w = (w.0, behind (λ h. false≢true (sym e ∙ is_at_lem k r taken c h)) w.0 w.1)

-- ---- none, or a first

none_in : (k : Kind) (r : Bitrate) (before behind : List Card) (c : Card) → NoneOf k r (before ++ (c ∷ behind)) → IsOf k r c → ⊥
none_in k r [] behind c n = n.0
none_in k r (d ∷ ds) behind c n = none_in k r ds behind c n.1

pub not_both : (k : Kind) (r : Bitrate) (f : List Card) (c : Card) → NoneOf k r f → FirstOf k r f c → ⊥
not_both k r f c n h = none_in k r h.before h.behind c (subst (NoneOf k r) h.whole n) h.is

card_in_fits : (f : List Card) (n : ℕ) → FieldFits f → OptionFits (card_in f n)
card_in_fits [] n h = tt
card_in_fits (c ∷ cs) zero h = h.0
card_in_fits (c ∷ cs) (suc n) h = card_in_fits cs n h.1

pub card-at-fits : (f : List Card) (o : Option ℕ) → FieldFits f → OptionFits (card_at f o)
card-at-fits f none h = tt
card-at-fits f (some n) h = card_in_fits f n h
