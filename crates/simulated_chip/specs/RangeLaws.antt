-- The tests of a range, and what a chip in range has.
use Rattle.std.specs.Prelude.{◌≡◌, refl, Bool, true, false, List, ℕ, ◌+◌, ◌*◌, ◌≤◌, ◌<◌, leb, length, drop, get_or}
use Rattle.std.proofs.Common.{arith, length-drop, length-take-le}
use Rattle.std.proofs.lemmas.Bool.{false≢true}
use borrow.Author.Tests.{leb-true}
use Rattle.errors.specs.Choice.{pick}
use Rattle.protocol.specs.Starts.{data_limit}
use Rattle.chip_protocol.specs.Names.{longest_list_data, longest_reply, most_cards}
use Rattle.simulated_chip.specs.Counted.{all-at}
use Rattle.simulated_chip.specs.Memory.{card_size, sent_size, reply_size, card_replies, places, br_ty_place, reply_count_place, list_data_place, text_length, text_at_of}
use Rattle.simulated_chip.specs.Range.{last_kind, last_br_ty, card_in_range, cards_in_range, texts_in_range, sent_in_range, replies_in_range, in_range, chip_in_range}
use Rattle.simulated_chip.specs.declared.chip.State.{State}
use Rattle.simulated_chip.specs.declared.chip.Chip.{Chip}

-- ---- what a range says of each card and text

-- a choice that is true has a true test, where its other way is false
pub chosen : (t u : Bool) → pick t u false ≡ true → (t ≡ true) × (u ≡ true)
unfolding pick
chosen true u h = (refl, h)
chosen false u h = absurd (false≢true h)

pub record CardRange (at : ℕ) (cards : List ℕ) : Type 0 where
  pub kind : get_or cards at 0 ≤ last_kind
  pub br_ty : get_or cards (at + br_ty_place) 0 ≤ last_br_ty
  pub replies : get_or cards (at + reply_count_place) 0 ≤ card_replies
  pub list_data : text_length (at + list_data_place) cards ≤ longest_list_data

pub card_range : (cards : List ℕ) (i : ℕ) → cards_in_range cards ≡ true → i < most_cards → CardRange (card_size * i) cards
unfolding card_in_range
card_range cards i h k =
    let a = chosen _ _ (all-at (λ (n : ℕ). card_in_range (card_size * n) cards) most_cards 0 i h (omega arith) (omega arith)) in
    let b = chosen _ _ a.1 in
    let d = chosen _ _ b.1 in
    record { kind = leb-true _ _ a.0; br_ty = leb-true _ _ b.0; replies = leb-true _ _ d.0; list_data = leb-true _ _ d.1 }

pub text_range : (size limit : ℕ) (b : List ℕ) (i : ℕ) → texts_in_range size limit b ≡ true → i < places → text_length (size * i) b ≤ limit
text_range size limit b i h k = leb-true _ _ (all-at (λ (n : ℕ). leb (text_length (size * n) b) limit) places 0 i h (omega arith) (omega arith))

-- ---- texts in range lie in memory, and are short

pub length_text : (at : ℕ) (b : List ℕ) → at + 2 + text_length at b ≤ length b → length (text_at_of at b) ≡ text_length at b
unfolding text_at_of
length_text at b h = length-take-le (text_length at b) (drop (at + 2) b) (rw (length-drop (at + 2) b) (omega arith))

pub record ShortText (at limit : ℕ) (b : List ℕ) : Type 0 where
  pub inside : at + 2 + text_length at b ≤ length b
  pub short : length (text_at_of at b) ≤ limit

pub list_data_text : (cards : List ℕ) (i : ℕ) → length cards ≡ most_cards * card_size → cards_in_range cards ≡ true → i < most_cards → ShortText (card_size * i + list_data_place) longest_list_data cards
list_data_text cards i l h k =
    let r = (card_range cards i h k).list_data in
    let inside : card_size * i + list_data_place + 2 + text_length (card_size * i + list_data_place) cards ≤ length cards = omega arith in
    record { inside = inside; short = let e = length_text (card_size * i + list_data_place) cards inside in omega arith }

pub reply_text : (replies : List ℕ) (j : ℕ) → length replies ≡ places * reply_size → replies_in_range replies ≡ true → j < places → ShortText (reply_size * j) longest_reply replies
reply_text replies j l h k =
    let r = text_range reply_size longest_reply replies j h k in
    let inside : reply_size * j + 2 + text_length (reply_size * j) replies ≤ length replies = omega arith in
    record { inside = inside; short = let e = length_text (reply_size * j) replies inside in omega arith }

-- ---- a chip in range

pub record NumbersFit (s : State) (cards : List ℕ) : Type 0 where
  pub count : s.count ≤ most_cards
  pub found : s.found ≤ s.count
  pub on : s.on ≤ 1
  pub cards_fit : cards_in_range cards ≡ true

pub record InRange (s : State) (cards sent replies : List ℕ) : Type 0 where
  pub numbers : NumbersFit s cards
  pub sent_fit : sent_in_range sent ≡ true
  pub replies_fit : replies_in_range replies ≡ true

pub in_range_lem : (s : State) (cards sent replies : List ℕ) → in_range s cards sent replies ≡ true → InRange s cards sent replies
unfolding in_range
in_range_lem s cards sent replies h =
    let a = chosen _ _ h in
    let b = chosen _ _ a.1 in
    let d = chosen _ _ b.1 in
    let e = chosen _ _ d.1 in
    let f = chosen _ _ e.1 in
    record {
      numbers = record { count = leb-true _ _ a.0; found = leb-true _ _ b.0; on = leb-true _ _ d.0; cards_fit = e.0 };
      sent_fit = f.0;
      replies_fit = f.1;
    }

-- ---- the same of the whole chip

module _ (c : Chip) (ranged : chip_in_range c ≡ true) where
  pub ranges : InRange c.state c.cards c.sent c.replies
  ranges = in_range_lem c.state c.cards c.sent c.replies ranged

  pub few_cards : c.state.count ≤ most_cards
  few_cards = ranges.numbers.count

  module _ (i : ℕ) (h : i < c.state.count) where
    pub card_fits : CardRange (card_size * i) c.cards
    card_fits = let f = few_cards in card_range c.cards i ranges.numbers.cards_fit (omega arith)

    pub list_data_fits : length c.cards ≡ most_cards * card_size → ShortText (card_size * i + list_data_place) longest_list_data c.cards
    list_data_fits l = let f = few_cards in list_data_text c.cards i l ranges.numbers.cards_fit (omega arith)

  module _ (j : ℕ) (h : j < places) where
    pub sent_fits : text_length (sent_size * j) c.sent ≤ data_limit
    sent_fits = text_range sent_size data_limit c.sent j ranges.sent_fit h

    pub reply_fits : length c.replies ≡ places * reply_size → ShortText (reply_size * j) longest_reply c.replies
    reply_fits l = reply_text c.replies j l ranges.replies_fit h
