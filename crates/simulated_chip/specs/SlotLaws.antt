-- A card's slot and one of its replies' slots written: the other cards and replies are as they were, and the memory is in range again.
use Rattle.std.specs.Prelude.{◌≡◌, refl, Bool, true, false, List, ℕ, zero, suc, ◌+◌, ◌*◌, ◌≤◌, ◌<◌, eqb, leb, ltb, length, get_or}
use Rattle.std.proofs.Common.{ap, ap₂, ◌∙◌, arith, ltb-true, ltb-false, eqb-true, le-leb}
use Rattle.std.proofs.lemmas.Bool.{eqb-false}
use Rattle.errors.specs.Choice.{pick}
use Rattle.protocol.specs.Starts.{data_limit}
use Rattle.chip_protocol.specs.Names.{longest_list_data, longest_reply, most_cards}
use Rattle.chip_protocol.specs.Field.{StatedReply}
use Rattle.simulated_chip.specs.Counted.{all_from, from-same}
use Rattle.simulated_chip.specs.Memory.{card_size, sent_size, reply_size, card_replies, places, br_ty_place, reply_count_place, list_data_place, text_length, text_at_of, kind_at, bitrate_at, stated_at, stated_from, stored_card}
use Rattle.simulated_chip.specs.Range.{last_kind, last_br_ty, card_in_range, cards_in_range, texts_in_range, sent_in_range, replies_in_range}
use Rattle.simulated_chip.specs.RangeLaws.{card_range, text_range}
use Rattle.simulated_chip.specs.PutLaws.{Within, text_same}

-- ---- regions that lie apart

pub data Apart (low high from to : ℕ) : Type 0 where
  in_front : to ≤ low → Apart low high from to
  behind : high ≤ from → Apart low high from to

outside : (low high from to : ℕ) (b b₁ : List ℕ) → Within low high b b₁ → Apart low high from to → (k : ℕ) → from ≤ k → k < to → get_or b₁ k 0 ≡ get_or b k 0
outside low high from to b b₁ w (in_front h) k p q = w.below k (omega arith)
outside low high from to b b₁ w (behind h) k p q = w.above k (omega arith)

less_or_more : (i n : ℕ) → (i ≡ n → ⊥) → (X : Type 0) → (i < n → X) → (n < i → X) → X
less_or_more i n h X f g = go (ltb i n) refl
  where
    go : (t : Bool) → ltb i n ≡ t → X
    go true e = f (ltb-true i n e)
    go false e = go2 (eqb i n) refl
      where
        go2 : (u : Bool) → eqb i n ≡ u → X
        go2 true d = absurd (h (eqb-true i n d))
        go2 false d = g (let z = ltb-false i n e in let y = eqb-false i n d in omega arith)

card_apart : (i n : ℕ) → (i ≡ n → ⊥) → Apart (card_size * n) (card_size * n + card_size) (card_size * i) (card_size * i + card_size)
card_apart i n h = less_or_more i n h _ (λ l. in_front (omega arith)) (λ l. behind (omega arith))

sent_apart : (i n : ℕ) → (i ≡ n → ⊥) → Apart (sent_size * n) (sent_size * n + sent_size) (sent_size * i) (sent_size * i + sent_size)
sent_apart i n h = less_or_more i n h _ (λ l. in_front (omega arith)) (λ l. behind (omega arith))

reply_apart : (i n : ℕ) → (i ≡ n → ⊥) → Apart (reply_size * n) (reply_size * n + reply_size) (reply_size * i) (reply_size * i + reply_size)
reply_apart i n h = less_or_more i n h _ (λ l. in_front (omega arith)) (λ l. behind (omega arith))

pub from_all : (p : ℕ → Bool) (n i : ℕ) → ((k : ℕ) → i ≤ k → k < i + n → p k ≡ true) → all_from p n i ≡ true
unfolding all_from pick
from_all p zero i h = refl
from_all p (suc n) i h = rw (h i (omega arith) (omega arith)) (from_all p n (suc i) (λ k a b. h k (omega arith) (omega arith)))

-- a card is in range where its numbers are
pub in_range_by : (at : ℕ) (cards : List ℕ) → get_or cards at 0 ≤ last_kind → get_or cards (at + br_ty_place) 0 ≤ last_br_ty → get_or cards (at + reply_count_place) 0 ≤ card_replies
    → text_length (at + list_data_place) cards ≤ longest_list_data → card_in_range at cards ≡ true
unfolding card_in_range pick
in_range_by at cards a b c d =
    rw (le-leb (get_or cards at 0) last_kind a, le-leb (get_or cards (at + br_ty_place) 0) last_br_ty b, le-leb (get_or cards (at + reply_count_place) 0) card_replies c)
    (le-leb (text_length (at + list_data_place) cards) longest_list_data d)

-- ---- the slots of the card n, and of the reply at the place m

pub record Written (n m : ℕ) (cards sent replies cards₁ sent₁ replies₁ : List ℕ) : Type 0 where
  pub in_cards : Within (card_size * n) (card_size * n + card_size) cards cards₁
  pub in_sent : Within (sent_size * m) (sent_size * m + sent_size) sent sent₁
  pub in_replies : Within (reply_size * m) (reply_size * m + reply_size) replies replies₁

module _ (n m : ℕ) (cards sent replies cards₁ sent₁ replies₁ : List ℕ) (w : Written n m cards sent replies cards₁ sent₁ replies₁)
    (cards-size : length cards ≡ most_cards * card_size) (sent-size : length sent ≡ places * sent_size) (replies-size : length replies ≡ places * reply_size)
    (cards_fit_lem : cards_in_range cards ≡ true) (sent_fit_lem : sent_in_range sent ≡ true) (replies-fit : replies_in_range replies ≡ true) where
  abbrev sent_same : (p : ℕ) → (p ≡ m → ⊥) → (k : ℕ) → sent_size * p ≤ k → k < sent_size * p + sent_size → get_or sent₁ k 0 ≡ get_or sent k 0
  sent_same p h k a b = outside (sent_size * m) (sent_size * m + sent_size) (sent_size * p) (sent_size * p + sent_size) sent sent₁ w.in_sent (sent_apart p m h) k a b

  abbrev replies_same : (p : ℕ) → (p ≡ m → ⊥) → (k : ℕ) → reply_size * p ≤ k → k < reply_size * p + reply_size → get_or replies₁ k 0 ≡ get_or replies k 0
  replies_same p h k a b = outside (reply_size * m) (reply_size * m + reply_size) (reply_size * p) (reply_size * p + reply_size) replies replies₁ w.in_replies (reply_apart p m h) k a b

  abbrev cards_same : (i : ℕ) → (i ≡ n → ⊥) → (k : ℕ) → card_size * i ≤ k → k < card_size * i + card_size → get_or cards₁ k 0 ≡ get_or cards k 0
  cards_same i h k a b = outside (card_size * n) (card_size * n + card_size) (card_size * i) (card_size * i + card_size) cards cards₁ w.in_cards (card_apart i n h) k a b

  pub stated-kept : (p : ℕ) → p < places → (p ≡ m → ⊥) → stated_at p sent₁ replies₁ ≡ stated_at p sent replies
  stated-kept p few h =
      let s = text_range sent_size data_limit sent p sent_fit_lem few in
      let r = text_range reply_size longest_reply replies p replies-fit few in
      ap₂ (λ (x y : List ℕ). record { sent = x; reply = y })
      (text_same (sent_size * p) sent sent₁ w.in_sent.size (omega arith) (λ k a b. sent_same p h k a (omega arith)))
      (text_same (reply_size * p) replies replies₁ w.in_replies.size (omega arith) (λ k a b. replies_same p h k a (omega arith)))

  -- replies from a place on, none of which is the one at m
  pub replies-kept : (count first : ℕ) → first + count ≤ places → ((p : ℕ) → first ≤ p → p < first + count → p ≡ m → ⊥) → stated_from count first sent₁ replies₁ ≡ stated_from count first sent replies
  replies-kept count first few h =
      from-same (λ (p : ℕ). stated_at p sent₁ replies₁) (λ (p : ℕ). stated_at p sent replies) count first (λ p a b. stated-kept p (omega arith) (h p a b))

  pub card-kept : card_replies * n ≤ m → m < card_replies * n + card_replies → (i : ℕ) → i < most_cards → (i ≡ n → ⊥) → stored_card i cards₁ sent₁ replies₁ ≡ stored_card i cards sent replies
  card-kept low high i few h =
      let r = card_range cards i cards_fit_lem few in
      let a : get_or cards₁ (card_size * i) 0 ≡ get_or cards (card_size * i) 0 = cards_same i h (card_size * i) (omega arith) (omega arith) in
      let b : get_or cards₁ (card_size * i + br_ty_place) 0 ≡ get_or cards (card_size * i + br_ty_place) 0 = cards_same i h (card_size * i + br_ty_place) (omega arith) (omega arith) in
      let c : get_or cards₁ (card_size * i + reply_count_place) 0 ≡ get_or cards (card_size * i + reply_count_place) 0 = cards_same i h (card_size * i + reply_count_place) (omega arith) (omega arith) in
      let l = r.list_data in
      let q = r.replies in
      let d : text_at_of (card_size * i + list_data_place) cards₁ ≡ text_at_of (card_size * i + list_data_place) cards =
      text_same (card_size * i + list_data_place) cards cards₁ w.in_cards.size (omega arith) (λ k x y. cards_same i h k (omega arith) (omega arith)) in
      let e : stated_from (get_or cards (card_size * i + reply_count_place) 0) (card_replies * i) sent₁ replies₁ ≡ stated_from (get_or cards (card_size * i + reply_count_place) 0) (card_replies * i) sent replies =
      replies-kept (get_or cards (card_size * i + reply_count_place) 0) (card_replies * i) (omega arith) (λ p x y z. less_or_more i n h ⊥ (λ o. omega arith) (λ o. omega arith)) in
      ap₂ (λ (x y : ℕ). record { kind = kind_at x; bitrate = bitrate_at y; list_data = text_at_of (card_size * i + list_data_place) cards₁; replies = stated_from (get_or cards₁ (card_size * i + reply_count_place) 0) (card_replies * i) sent₁ replies₁ }) a b
      ∙ ap₂ (λ (x : List ℕ) (y : List StatedReply). record { kind = kind_at (get_or cards (card_size * i) 0); bitrate = bitrate_at (get_or cards (card_size * i + br_ty_place) 0); list_data = x; replies = y })
      d (ap (λ (x : ℕ). stated_from x (card_replies * i) sent₁ replies₁) c ∙ e)

  -- ---- in range again

  pub cards_range : card_in_range (card_size * n) cards₁ ≡ true → cards_in_range cards₁ ≡ true
  cards_range new = from_all (λ (i : ℕ). card_in_range (card_size * i) cards₁) most_cards 0 (λ i a b. go i (omega arith) (eqb i n) refl)
    where
      go : (i : ℕ) → i < most_cards → (t : Bool) → eqb i n ≡ t → card_in_range (card_size * i) cards₁ ≡ true
      go i few true e = ap (λ (k : ℕ). card_in_range (card_size * k) cards₁) (eqb-true i n e) ∙ new
      go i few false e =
          let h = eqb-false i n e in
          let s : (k : ℕ) → card_size * i ≤ k → k < card_size * i + card_size → get_or cards₁ k 0 ≡ get_or cards k 0 = cards_same i h in
          let r = card_range cards i cards_fit_lem few in
          in_range_by (card_size * i) cards₁
          (rw (s (card_size * i) (omega arith) (omega arith)) r.kind)
          (rw (s (card_size * i + br_ty_place) (omega arith) (omega arith)) r.br_ty)
          (rw (s (card_size * i + reply_count_place) (omega arith) (omega arith)) r.replies)
          (rw (s (card_size * i + list_data_place) (omega arith) (omega arith), s (card_size * i + list_data_place + 1) (omega arith) (omega arith)) r.list_data)

  texts-range : (size limit : ℕ) (b b₁ : List ℕ) → texts_in_range size limit b ≡ true → text_length (size * m) b₁ ≤ limit
      → ((p : ℕ) → (p ≡ m → ⊥) → text_length (size * p) b₁ ≡ text_length (size * p) b) → texts_in_range size limit b₁ ≡ true
  texts-range size limit b b₁ fit new same = from_all (λ (p : ℕ). leb (text_length (size * p) b₁) limit) places 0 (λ p x y. go p (omega arith) (eqb p m) refl)
    where
      go : (p : ℕ) → p < places → (t : Bool) → eqb p m ≡ t → leb (text_length (size * p) b₁) limit ≡ true
      go p few true e = ap (λ (k : ℕ). leb (text_length (size * k) b₁) limit) (eqb-true p m e) ∙ le-leb (text_length (size * m) b₁) limit new
      go p few false e =
          ap (λ (k : ℕ). leb k limit) (same p (eqb-false p m e)) ∙ le-leb (text_length (size * p) b) limit (text_range size limit b p fit few)

  pub sent_range : text_length (sent_size * m) sent₁ ≤ data_limit → sent_in_range sent₁ ≡ true
  sent_range new =
      texts-range sent_size data_limit sent sent₁ sent_fit_lem new
      (λ p h. ap₂ (λ (i j : ℕ). i + 256 * j) (sent_same p h (sent_size * p) (omega arith) (omega arith)) (sent_same p h (sent_size * p + 1) (omega arith) (omega arith)))

  pub replies_range : text_length (reply_size * m) replies₁ ≤ longest_reply → replies_in_range replies₁ ≡ true
  replies_range new =
      texts-range reply_size longest_reply replies replies₁ replies-fit new
      (λ p h. ap₂ (λ (i j : ℕ). i + 256 * j) (replies_same p h (reply_size * p) (omega arith) (omega arith)) (replies_same p h (reply_size * p + 1) (omega arith) (omega arith)))
