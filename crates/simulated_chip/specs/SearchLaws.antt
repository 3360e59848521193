-- Laws of the search for a card or a reply.
use Rattle.std.specs.Prelude.{Option as Found, option_map, MatchOption, IfSome, is_some, Some, None, cond, ltb, ◌≡◌, refl, Bool, ℕ, zero, suc, ◌+◌, ◌*◌, ◌≤◌, ◌<◌, length, drop, get_or}
use Rattle.std.specs.List.{range_with_len, position_from, position_or_len, find}
use Rattle.std.proofs.lemmas.Iterator.Adapters.{position_from-zero, option_map_id}
use Rattle.std.proofs.Math.Path.{sym, ap}
use Rattle.std.proofs.Common.{ap₂, ◌∙◌, arith}
use Rattle.std.proofs.Math.Bool.{true, false}
use mathlib.Core.List.{List}
use Rattle.std.proofs.Math.Option.{Option, none, some}
use Rattle.std.proofs.Math.Numerals.{add-one}
use Rattle.std.proofs.lemmas.Bool.{false≢true}
use borrow.Author.Tests.{eq-eqb, ne_eqb}
use Rattle.errors.specs.Choice.{pick, same}
use Rattle.chip_protocol.specs.Names.{most_cards, initiator_offset, br_ty_offset, type_a_initiator, type_b_initiator, type_f_initiator}
use Rattle.simulated_chip.specs.Counted.{list_from}
use Rattle.chip_protocol.specs.Field.{Card, kind_number, br_ty, is_at, reply_to, is_stated}
use Rattle.chip_protocol.specs.Chip.{first_from, first_place_of, searched, listed_place}
use Rattle.simulated_chip.specs.Memory.{card_size, sent_size, places, text_at_of, kind_at, bitrate_at, is_stored_at, stored_card, field_in, card_replies, reply_count_place, card_replies_in, stated_from, reply_at, reply_found, place_of}
use Rattle.simulated_chip.specs.Range.{last_kind, last_br_ty, cards_in_range, chip_in_range}
use Rattle.simulated_chip.specs.RangeLaws.{card_range, ranges, few_cards}
use Rattle.chip_protocol.specs.declared.Kind.{Kind}
use Rattle.chip_protocol.specs.declared.Kind.TheVariants.{TypeA, TypeB, TypeF}
use Rattle.simulated_chip.specs.declared.chip.Chip.{Chip}

pub kind_back : (n : ℕ) → n ≤ last_kind → kind_number (kind_at n) ≡ n
unfolding kind_at pick
kind_back zero h = refl
kind_back (suc zero) h = refl
kind_back (suc (suc zero)) h = refl
kind_back (suc (suc (suc zero))) h = refl
kind_back (suc (suc (suc (suc n)))) h = absurd (omega arith)

pub br_ty_back : (n : ℕ) → n ≤ last_br_ty → br_ty (bitrate_at n) ≡ n
unfolding bitrate_at pick
br_ty_back zero h = refl
br_ty_back (suc zero) h = refl
br_ty_back (suc (suc zero)) h = refl
br_ty_back (suc (suc (suc zero))) h = refl
br_ty_back (suc (suc (suc (suc n)))) h = absurd (omega arith)

-- ---- a card

at_stored : (cards : List ℕ) (i : ℕ) (k : Kind) (code : ℕ) → cards_in_range cards ≡ true → i < most_cards → (t : Bool) → t ≡ is_stored_at (kind_number k) code (card_size * i) cards
    → (sent replies : List ℕ) → is_at k code (stored_card i cards sent replies) ≡ t
unfolding is_at is_stored_at
at_stored cards i k code h few t e sent replies =
    let r = card_range cards i h few in
    rw (kind_back (get_or cards (card_size * i) 0) r.kind, br_ty_back (get_or cards (card_size * i + 1) 0) r.br_ty) (sym e)

-- the place that the library finds in a range is that of the definition
position_is : (k : Kind) (code : ℕ) (f : ℕ → Card) (test : ℕ → Bool) (n i : ℕ) → ((j : ℕ) → j < i + n → is_at k code (f j) ≡ test j)
    → place_of (position_from test i (range_with_len i n)) ≡ first_from i k code (list_from f n i)
unfolding first_from list_from pick
position_is k code f test zero i h = refl
position_is k code f test (suc n) i h =
    rw (h i (omega arith))
    (go (test i) (ap (λ (j : ℕ). place_of (position_from test j (range_with_len j n))) (add-one i) ∙ position_is k code f test n (suc i) (λ j q. h j (omega arith))))
  where
    go : (t : Bool) → place_of (position_from test (i + 1) (range_with_len (i + 1) n)) ≡ first_from (suc i) k code (list_from f n (suc i))
        → place_of (cond t (Some i) (position_from test (i + 1) (range_with_len (i + 1) n))) ≡ pick t (some i) (first_from (suc i) k code (list_from f n (suc i)))
    go true e = refl
    go false e = e

abbrev pub stored_test : Chip → Kind → ℕ → ℕ → Bool
stored_test c k code i = is_stored_at (kind_number k) code (card_size * i) c.cards

pub first_found : (c : Chip) (k : Kind) (code : ℕ) (r : Found ℕ) → chip_in_range c ≡ true
    → r ≡ cond (ltb (position_or_len (stored_test c k code) (range_with_len 0 c.state.count)) (length (range_with_len 0 c.state.count))) (Some (position_or_len (stored_test c k code) (range_with_len 0 c.state.count))) None
    → place_of r ≡ first_place_of k code (field_in c)
first_found c k code r ranged e =
    ap place_of (e ∙ position_from-zero (stored_test c k code) (range_with_len 0 c.state.count))
    ∙ position_is k code (λ (i : ℕ). stored_card i c.cards c.sent c.replies) (stored_test c k code) c.state.count 0
    (λ j q. let f = few_cards c ranged in at_stored c.cards j k code (ranges c ranged).numbers.cards_fit (omega arith) _ refl c.sent c.replies)

-- ---- a reply

abbrev pub sent_test : List ℕ → List ℕ → ℕ → Bool
sent_test sent bytes j = same (text_at_of (sent_size * j) sent) bytes

pub reply_is : (sent replies bytes : List ℕ) (n i : ℕ) → reply_found (find (sent_test sent bytes) (range_with_len i n)) replies ≡ reply_to (stated_from n i sent replies) bytes
unfolding reply_to list_from pick
reply_is sent replies bytes zero i = refl
reply_is sent replies bytes (suc n) i =
    go (sent_test sent bytes i) (ap (λ (j : ℕ). reply_found (find (sent_test sent bytes) (range_with_len j n)) replies) (add-one i) ∙ reply_is sent replies bytes n (suc i))
  where
    go : (t : Bool) → reply_found (find (sent_test sent bytes) (range_with_len (i + 1) n)) replies ≡ reply_to (stated_from n (suc i) sent replies) bytes
        → reply_found (cond t (Some i) (find (sent_test sent bytes) (range_with_len (i + 1) n))) replies ≡ pick t (some (reply_at i replies)) (reply_to (stated_from n (suc i) sent replies) bytes)
    go true e = refl
    go false e = e

pub reply_searched : (c : Chip) (card : ℕ) (bytes : List ℕ) (first n : ℕ) (r : Found ℕ) → first ≡ card_replies * card → n ≡ get_or c.cards (card_size * card + reply_count_place) 0
    → option_map (λ (x : ℕ). x) r ≡ find (sent_test c.sent bytes) (range_with_len first n) → reply_to (card_replies_in card c) bytes ≡ reply_found r c.replies
reply_searched c card bytes first n r p q e =
    sym (ap (λ (o : Found ℕ). reply_found o c.replies) (sym (option_map_id r) ∙ e) ∙ reply_is c.sent c.replies bytes n first
    ∙ ap₂ (λ (m i : ℕ). reply_to (stated_from m i c.sent c.replies) bytes) q p)

-- ---- which search it is

module _ (f : List Card) (b : List ℕ) (code n : ℕ) (o : Option ℕ) (coded : code ≡ get_or b br_ty_offset 0) (counted : n ≡ length (drop initiator_offset b)) where
  asked : o ≡ searched f code n → o ≡ listed_place f b
  asked e = e ∙ ap₂ (searched f) coded counted

  pub listed_a : n ≡ type_a_initiator → o ≡ first_place_of TypeA code f → o ≡ listed_place f b
  unfolding searched pick
  listed_a h e = asked (rw (eq-eqb n type_a_initiator h) e)

  pub listed_b : n ≡ type_b_initiator → o ≡ first_place_of TypeB code f → o ≡ listed_place f b
  unfolding searched pick
  listed_b h e = asked (rw h e)

  pub listed_f : n ≡ type_f_initiator → o ≡ first_place_of TypeF code f → o ≡ listed_place f b
  unfolding searched pick
  listed_f h e = asked (rw h e)

  pub listed_none : (n ≡ type_a_initiator → ⊥) → (n ≡ type_b_initiator → ⊥) → (n ≡ type_f_initiator → ⊥) → o ≡ none → o ≡ listed_place f b
  unfolding searched pick
  listed_none not_a not-b not_f e = asked (rw (ne_eqb n type_a_initiator not_a, ne_eqb n type_b_initiator not-b, ne_eqb n type_f_initiator not_f) e)

-- what is found in a range is below its end
pub below_places : (r : Found ℕ) (first end : ℕ) → end ≤ places → (N : Type 0) (Y Z : ℕ → Type 0) → MatchOption r N (λ i. (first ≤ i) × (i < end) × Y i × Z i) → IfSome r (λ j. j < places)
below_places None first end h N Y Z m = tt
below_places (Some i) first end h N Y Z m = let k = m.1 in omega arith

pub some_stated : (r : Found ℕ) (replies : List ℕ) (o : Option (List ℕ)) → o ≡ reply_found r replies → is_some r ≡ true → is_stated o ≡ true
some_stated None replies o e h = absurd (false≢true h)
some_stated (Some j) replies o e h = ap is_stated e

pub none_stated : (r : Found ℕ) (replies : List ℕ) (o : Option (List ℕ)) → o ≡ reply_found r replies → is_some r ≡ false → o ≡ none
none_stated None replies o e h = e
none_stated (Some j) replies o e h = absurd (false≢true (sym h))
