-- What the tests of records show.
use Rattle.std.specs.Prelude.{◌||◌, ◌&&◌, ◌≡◌, refl, Bool, true, false, List, [], ◌∷◌, ℕ, suc, ◌+◌, ◌<◌, leb, min, length, take}
use Rattle.std.proofs.Common.{sym, ap, ◌∙◌, arith, leb-true, leb-false, take_all}
use Rattle.std.specs.List.{list_any, list_all}
use Rattle.errors.specs.Choice.{pick}
use Rattle.presence_list.specs.Names.{record_size}
use Rattle.presence_list.specs.Memory.{card_in, length_in}
use Rattle.presence_list.specs.Presence.{any, every}

-- the library's words for any and all
pub any_listed : {A : Type 0} (q : A → Bool) (l : List A) → any q l ≡ list_any q l
unfolding any pick
any_listed q [] = refl
any_listed q (x ∷ xs) = go (q x) (any_listed q xs)
  where
    go : (t : Bool) → any q xs ≡ list_any q xs → pick t true (any q xs) ≡ t || list_any q xs
    go true r = refl
    go false r = r

pub every_listed : {A : Type 0} (q : A → Bool) (l : List A) → every q l ≡ list_all q l
unfolding every pick
every_listed q [] = refl
every_listed q (x ∷ xs) = go (q x) (every_listed q xs)
  where
    go : (t : Bool) → every q xs ≡ list_all q xs → pick t (every q xs) false ≡ t && list_all q xs
    go true r = r
    go false r = refl

pub card-take : (e : List ℕ) → 0 < length e → card_in e ≡ take (suc (length_in e)) e
unfolding card_in
card-take [] h = absurd (omega arith)
card-take (x ∷ xs) h = refl

pub card_taken : (e : List ℕ) (n : ℕ) → length e ≡ record_size → n ≡ min (length_in e + 1) record_size → take n e ≡ card_in e
card_taken e n h q = go (leb (length_in e + 1) record_size) refl ∙ sym (card-take e (omega arith))
  where
    go : (t : Bool) → leb (length_in e + 1) record_size ≡ t → take n e ≡ take (suc (length_in e)) e
    go true p = let m = leb-true (length_in e + 1) record_size p in let same : n ≡ suc (length_in e) = omega arith in ap (λ (k : ℕ). take k e) same
    go false p =
        let m = leb-false (length_in e + 1) record_size p in
        take_all n e (omega arith) ∙ sym (take_all (suc (length_in e)) e (omega arith))
