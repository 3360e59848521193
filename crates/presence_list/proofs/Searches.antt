-- What the library's search of a list in order says, in the words of the repository.
use Rattle.std.specs.Prelude.{◌≡◌, refl, Bool, true, false, List, [], ℕ, ◌+◌, length, get_or, Result, Ok, Err}
use Rattle.std.proofs.Common.{sym, ap, ◌∙◌, arith}
use Rattle.std.proofs.lemmas.Cmp.{nat_list_cmp_total}
use Rattle.std.proofs.lemmas.List.Sorted.{searchable_from_sorted}
use Rattle.std.specs.Cmp.Lexicographic.{slice_cmp}
use Rattle.std.specs.List.Sorted.{IsBinarySearchResult, IsSearchInRange, IsSortedBy}
use Rattle.std.specs.Ordering.{nat_cmp, is_lt, is_gt}
use Rattle.std.specs.Result.{is_err}
use Rattle.std.specs.declared.cmp.Ordering.{Ordering}
use Rattle.std.specs.declared.cmp.Ordering.TheVariants.{Equal}
use Rattle.presence_list.specs.Order.{before}
use Rattle.presence_list.specs.OrderLaws.{lt_before, gt_before, Compared, behind, equal, ahead, compared, first_not}
use Rattle.presence_list.specs.Keyed.{Sorted, has}
use Rattle.presence_list.specs.KeyedLaws.{found_at, missing_at, sorted_at}
use Rattle.presence_list.specs.CardsAt.{Searched}
use Rattle.presence_list.specs.Memory.{card_in}

abbrev pub order_to : List ℕ → List ℕ → Ordering
order_to c e = slice_cmp nat_cmp (card_in e) c

is_equal : (a b : List ℕ) → slice_cmp nat_cmp a b ≡ Equal → a ≡ b
is_equal a b e = go (compared a b) (ap is_lt (sym e) ∙ lt_before a b _ refl) (ap is_gt (sym e) ∙ gt_before a b _ refl)
  where
    go : Compared a b → false ≡ before a b → false ≡ before b a → a ≡ b
    go (behind p q s) l g = cc
    go (equal f p q s) l g = f
    go (ahead p q s) l g = cc

in_order : (es : List (List ℕ)) → Sorted card_in es → IsSortedBy (λ a b. is_lt (slice_cmp nat_cmp (card_in a) (card_in b))) es
in_order es o k d l h =
    lt_before (card_in (get_or es (k + 1) d)) (card_in (get_or es k d)) _ refl
    ∙ (first_not (card_in (get_or es k d)) (card_in (get_or es (k + 1) d)) (sorted_at card_in es d k (k + 1) o (omega arith) h)).0

pub searched : (es : List (List ℕ)) (c : List ℕ) (r : Result ℕ ℕ) → Sorted card_in es → IsSearchInRange r (length es) → IsBinarySearchResult (order_to c) es r → Searched r c es
searched es c (Ok i) o n p = found_at card_in c es _ i o n (is_equal (card_in (get_or es i [])) c (p []))
searched es c (Err i) o n p =
    let q = p (searchable_from_sorted nat_list_cmp_total card_in es c (in_order es o)) in
    missing_at card_in c es [] i n
    (λ j h. sym (lt_before (card_in (get_or es j [])) c _ refl) ∙ ap is_lt (q.0 j [] (omega arith) h))
    (λ j l h. sym (gt_before (card_in (get_or es j [])) c _ refl) ∙ ap is_gt (q.1 j [] l h))

-- what a failed search says, and another
pub not_found : (c : List ℕ) (es : List (List ℕ)) (r : Result ℕ ℕ) (t : Bool) → Searched r c es → t ≡ is_err r → t ≡ true → has card_in c es ≡ false
not_found c es (Ok i) t s p q = cc
not_found c es (Err i) t s p q = s.1

pub is_found : (c : List ℕ) (es : List (List ℕ)) (r : Result ℕ ℕ) (t : Bool) → Searched r c es → t ≡ is_err r → t ≡ false → has card_in c es ≡ true
is_found c es (Ok i) t s p q = s.1
is_found c es (Err i) t s p q = cc
