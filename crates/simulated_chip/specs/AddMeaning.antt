-- What an addition to the memory means: the definitions' field with the card or the reply, or the same field; and a chip that stays in range.
use Rattle.std.specs.Prelude.{◌≡◌, Bool, true, false, ℕ, zero, suc, ◌+◌, ◌*◌, ◌-◌, ◌≤◌, ◌<◌, leb, ltb, take, get_or, set}
use Rattle.std.proofs.Math.Path.{refl, ap, ap₂}
use Rattle.std.proofs.Common.{sym, subst, ◌∙◌, add-one, get_or-set_same, take_at}
use mathlib.Core.List.{List, [], ◌∷◌, ◌++◌}
use Rattle.std.proofs.Math.Option.{Option, some}
use native.Mathlib.Omega.{arith}
use borrow.Author.Tests.{le-leb}
use Rattle.std.proofs.Math.ListN.{length}
use Rattle.errors.specs.Choice.{pick}
use Rattle.errors.specs.declared.Refusal.{Refusal}
use Rattle.errors.specs.declared.Refusal.TheVariants.{OverLong, BadArgument}
use Rattle.targets.specs.declared.Bitrate.{Bitrate}
use Rattle.protocol.specs.Starts.{data_limit}
use Rattle.chip_protocol.specs.Names.{longest_list_data, longest_reply, most_cards}
use Rattle.chip_protocol.specs.Field.{StatedReply, Card, kind_number, br_ty, is_bitrate_of, wupb, reply_to, least_list_data, protocol_fits, is_type2_card, crc_fits, is_stated, reply_limit}
use Rattle.chip_protocol.specs.Add.{Added as Outcome, added, refuses, wake_up_reply, first_replies, new_card, add_card, with_reply, add_reply_to, add_reply}
use Rattle.chip_protocol.specs.Chip.{with_field, card_in}
use Rattle.simulated_chip.specs.Counted.{list_from, length_from, from_last, from-same}
use Rattle.simulated_chip.specs.Memory.{card_size, sent_size, reply_size, card_replies, places, br_ty_place, reply_count_place, list_data_place, text_length, text_at_of, put_text, kind_at, bitrate_at, stated_at, stated_from, stored_card, cards_in, state_in}
use Rattle.simulated_chip.specs.Range.{cards_in_range, sent_in_range, replies_in_range, in_range}
use Rattle.simulated_chip.specs.RangeLaws.{card_range, text_range, in_range_lem}
use Rattle.simulated_chip.specs.ResponseLaws.{card-at}
use Rattle.simulated_chip.specs.Additions.{addition_in, CardAdmitted, ReplyAdmitted, put_card_of, first_count, first_sent, first_reply, AfterAddition, by_addition, refused_with, card_put, add_card_in, reply_put, add_reply_in}
use Rattle.simulated_chip.specs.AdmissionLaws.{card-admitted, reply-admitted}
use Rattle.simulated_chip.specs.PutLaws.{Within, within_none, within_wider, within_set, put_within, put-length, put_read, text_same}
use Rattle.simulated_chip.specs.CardSlots.{kind_read, kind-most, rate_read, card_within, kind-put, code_put, count-put, list_data_put, list_length-put}
use Rattle.simulated_chip.specs.SlotLaws.{Written, in_range_by, card-kept, replies-kept, cards_range, sent_range, replies_range}
use Rattle.chip_protocol.specs.declared.Kind.{Kind}
use Rattle.chip_protocol.specs.declared.Kind.TheVariants.{TypeA, TypeB, TypeF, Dep}
use Rattle.simulated_chip.specs.declared.chip.State.{State}

-- ---- what an addition that is taken says

card-added_is : (f g : List Card) (k : Kind) (r : Bitrate) (l w : List ℕ) → add_card f k r l w ≡ added g → (g ≡ f ++ (new_card k r l w ∷ [])) × (is_bitrate_of k r ≡ true)
unfolding add_card pick
card-added_is f g k r l w h = go (ltb (length f) most_cards) (is_bitrate_of k r) (leb (least_list_data k) (length l)) (protocol_fits k l) (leb (length l) longest_list_data) (leb (length (wake_up_reply k w)) longest_reply) refl h
  where
    go : (a b c d e i : Bool) → is_bitrate_of k r ≡ b
        → pick a (pick b (pick c (pick d (pick e (pick i (added (f ++ (new_card k r l w ∷ []))) (refuses OverLong)) (refuses OverLong)) (refuses BadArgument)) (refuses BadArgument)) (refuses BadArgument)) (refuses BadArgument) ≡ added g
        → (g ≡ f ++ (new_card k r l w ∷ [])) × (is_bitrate_of k r ≡ true)
    go true true true true true true x h = (cc, x)
    go true true true true true false x h = let q : ◌≡◌ {A = ℕ} 0 1 = cc in absurd (omega arith)
    go true true true true false i x h = let q : ◌≡◌ {A = ℕ} 0 1 = cc in absurd (omega arith)
    go true true true false e i x h = let q : ◌≡◌ {A = ℕ} 0 1 = cc in absurd (omega arith)
    go true true false d e i x h = let q : ◌≡◌ {A = ℕ} 0 1 = cc in absurd (omega arith)
    go true false c d e i x h = let q : ◌≡◌ {A = ℕ} 0 1 = cc in absurd (omega arith)
    go false b c d e i x h = let q : ◌≡◌ {A = ℕ} 0 1 = cc in absurd (omega arith)

reply-added_is : (f g : List Card) (c : Card) (bytes reply : List ℕ) → card_in f (length f - 1) ≡ some c → add_reply f bytes reply ≡ added g → g ≡ take (length f - 1) f ++ (with_reply c bytes reply ∷ [])
unfolding add_reply_to pick
reply-added_is f g c bytes reply last h =
    go (is_stated (reply_to c.replies bytes)) (crc_fits (is_type2_card c) reply) (leb (length reply) longest_reply) (leb (length bytes) data_limit) (ltb (length c.replies) (reply_limit c.kind))
    (ap (λ (o : Option Card). add_reply_to f o bytes reply) (sym last) ∙ h)
  where
    go : (a b d e i : Bool)
        → pick a (refuses BadArgument) (pick b (pick d (pick e (pick i (added (take (length f - 1) f ++ (with_reply c bytes reply ∷ []))) (refuses OverLong)) (refuses OverLong)) (refuses OverLong)) (refuses BadArgument)) ≡ added g
        → g ≡ take (length f - 1) f ++ (with_reply c bytes reply ∷ [])
    go true b d e i h = let q : ◌≡◌ {A = ℕ} 0 1 = cc in absurd (omega arith)
    go false true true true true h = cc
    go false true true true false h = let q : ◌≡◌ {A = ℕ} 0 1 = cc in absurd (omega arith)
    go false true true false i h = let q : ◌≡◌ {A = ℕ} 0 1 = cc in absurd (omega arith)
    go false true false e i h = let q : ◌≡◌ {A = ℕ} 0 1 = cc in absurd (omega arith)
    go false false d e i h = let q : ◌≡◌ {A = ℕ} 0 1 = cc in absurd (omega arith)

-- the last of a list changed
last-changed : (f f₁ : ℕ → Card) (x : Card) (count : ℕ) → 0 < count → ((i : ℕ) → i < count - 1 → f₁ i ≡ f i) → f₁ (count - 1) ≡ x
    → list_from f₁ count 0 ≡ take (length (list_from f count 0) - 1) (list_from f count 0) ++ (x ∷ [])
last-changed f f₁ x zero any same last = absurd (omega arith)
last-changed f f₁ x (suc n) any same last =
    let front : list_from f₁ n 0 ≡ list_from f n 0 = from-same f₁ f n 0 (λ i a b. same i (omega arith)) in
    let all : list_from f (suc n) 0 ≡ list_from f n 0 ++ (f (0 + n) ∷ []) = from_last f n 0 in
    let shorter : take (length (list_from f (suc n) 0) - 1) (list_from f (suc n) 0) ≡ list_from f n 0 =
    ap₂ (λ (k : ℕ) (y : List Card). take (k - 1) y) (length_from f (suc n) 0) all ∙ ap (λ (k : ℕ). take k (list_from f n 0 ++ (f (0 + n) ∷ []))) (one n) ∙ take_at (list_from f n 0) (f (0 + n) ∷ []) n (length_from f n 0) in
    from_last f₁ n 0
    ∙ ap₂ (λ (y : List Card) (z : Card). y ++ (z ∷ [])) (front ∙ sym shorter) (ap f₁ (before n) ∙ last)
  where
    one : (n : ℕ) → suc n - 1 ≡ n
    one n = omega arith

    before : (n : ℕ) → 0 + n ≡ suc n - 1
    before n = omega arith

-- ---- the meaning

abbrev pub field_after : List Card → Outcome → List Card
field_after f (added g) = g
field_after f (refuses e) = f

module _ (s : State) (cards sent replies : List ℕ) where
  -- the field after it, what it answers, and a chip of the same size that is in range
  pub record AddMeans (x : AfterAddition) (o : Outcome) : Type 0 where
    pub state : state_in x.state x.cards x.sent x.replies ≡ with_field (state_in s cards sent replies) (field_after (cards_in s.count cards sent replies) o)
    pub addition : x.addition ≡ addition_in o
    pub inside : in_range x.state x.cards x.sent x.replies ≡ true
    pub cards_size : length x.cards ≡ length cards
    pub sent_size : length x.sent ≡ length sent
    pub replies_size : length x.replies ≡ length replies

  module _ (cards-size : length cards ≡ most_cards * card_size) (sent-size : length sent ≡ places * sent_size) (replies-size : length replies ≡ places * reply_size)
      (ranged : in_range s cards sent replies ≡ true) where
    abbrev field : List Card
    field = cards_in s.count cards sent replies

    refused-means : (e : Refusal) → AddMeans (refused_with s cards sent replies e) (refuses e)
    refused-means e = record { state = refl; addition = refl; inside = ranged; cards_size = refl; sent_size = refl; replies_size = refl }

    range-of : (t : State) (c₁ t₁ r₁ : List ℕ) → t.count ≤ most_cards → t.found ≤ t.count → t.on ≤ 1 → cards_in_range c₁ ≡ true → sent_in_range t₁ ≡ true → replies_in_range r₁ ≡ true → in_range t c₁ t₁ r₁ ≡ true
    unfolding in_range pick
    range-of t c₁ t₁ r₁ a b d e f g = rw (le-leb t.count most_cards a, le-leb t.found t.count b, le-leb t.on 1 d, e, f) g

    module _ (k : Kind) (r : Bitrate) (l w : List ℕ) (admitted : CardAdmitted s.count k l w) (rated : is_bitrate_of k r ≡ true) where
      abbrev n : ℕ
      n = s.count

      abbrev m : ℕ
      m = card_replies * s.count

      abbrev c₁ : List ℕ
      c₁ = put_card_of (card_size * n) (kind_number k) (br_ty r) (first_count k) l cards

      few : n < most_cards
      few = admitted.few

      in-sent : (j : Kind) → Within (sent_size * m) (sent_size * m + sent_size) sent (first_sent j m sent)
      in-sent TypeA = within_none _ _ sent
      in-sent TypeB = let f = few in within_wider (sent_size * m) (sent_size * m + (length wupb + 2)) (sent_size * m) (sent_size * m + sent_size) sent _ (omega arith) (omega arith) (put_within sent wupb (sent_size * m) (omega arith))
      in-sent TypeF = within_none _ _ sent
      in-sent Dep = within_none _ _ sent

      in-replies : (j : Kind) → length (wake_up_reply j w) ≤ longest_reply → Within (reply_size * m) (reply_size * m + reply_size) replies (first_reply j m w replies)
      in-replies TypeA h = within_none _ _ replies
      in-replies TypeB h = let f = few in within_wider (reply_size * m) (reply_size * m + (length w + 2)) (reply_size * m) (reply_size * m + reply_size) replies _ (omega arith) (omega arith) (put_within replies w (reply_size * m) (omega arith))
      in-replies TypeF h = within_none _ _ replies
      in-replies Dep h = within_none _ _ replies

      room : card_size * n + card_size ≤ length cards
      room = let f = few in omega arith

      is-written : Written n m cards sent replies c₁ (first_sent k m sent) (first_reply k m w replies)
      is-written =
          record {
            in_cards = card_within cards l (card_size * n) (kind_number k) (br_ty r) (first_count k) room admitted.list_data;
            in_sent = in-sent k;
            in_replies = in-replies k admitted.wake_up;
          }

      first-stated : (j : Kind) → length (wake_up_reply j w) ≤ longest_reply → stated_from (first_count j) m (first_sent j m sent) (first_reply j m w replies) ≡ first_replies j w
      unfolding list_from
      first-stated TypeA h = refl
      first-stated TypeB h =
          let f = few in
          ap₂ (λ (x y : List ℕ). record { sent = x; reply = y } ∷ []) (put_read sent wupb (sent_size * m) (omega arith)) (put_read replies w (reply_size * m) (omega arith))
      first-stated TypeF h = refl
      first-stated Dep h = refl

      new-card : stored_card n c₁ (first_sent k m sent) (first_reply k m w replies) ≡ new_card k r l w
      new-card =
          let a = kind-put cards l (card_size * n) (kind_number k) (br_ty r) (first_count k) room admitted.list_data in
          let b = code_put cards l (card_size * n) (kind_number k) (br_ty r) (first_count k) room admitted.list_data in
          let d = count-put cards l (card_size * n) (kind_number k) (br_ty r) (first_count k) room admitted.list_data in
          let e = list_data_put cards l (card_size * n) (kind_number k) (br_ty r) (first_count k) room admitted.list_data in
          ap₂ (λ (x : Kind) (y : Bitrate). record { kind = x; bitrate = y; list_data = text_at_of (card_size * n + list_data_place) c₁; replies = stated_from (get_or c₁ (card_size * n + reply_count_place) 0) m (first_sent k m sent) (first_reply k m w replies) })
          (ap kind_at a ∙ kind_read k) (ap bitrate_at b ∙ (rate_read k r rated).read)
          ∙ ap₂ (λ (x : List ℕ) (y : List StatedReply). record { kind = k; bitrate = r; list_data = x; replies = y })
          e (ap (λ (i : ℕ). stated_from i m (first_sent k m sent) (first_reply k m w replies)) d ∙ first-stated k admitted.wake_up)

      put-field : cards_in (n + 1) c₁ (first_sent k m sent) (first_reply k m w replies) ≡ field ++ (new_card k r l w ∷ [])
      put-field =
          let x = in_range_lem s cards sent replies ranged in
          let f = few in
          let stored₁ : ℕ → Card = λ (i : ℕ). stored_card i c₁ (first_sent k m sent) (first_reply k m w replies) in
          ap (λ (j : ℕ). list_from stored₁ j 0) (add-one n)
          ∙ from_last stored₁ n 0
          ∙ ap₂ (λ (y : List Card) (z : Card). y ++ (z ∷ []))
          (from-same stored₁ (λ (i : ℕ). stored_card i cards sent replies) n 0 (λ i a b.
          card-kept n m cards sent replies c₁ (first_sent k m sent) (first_reply k m w replies) is-written cards-size sent-size replies-size x.numbers.cards_fit x.sent_fit x.replies_fit (omega arith) (omega arith) i (omega arith) (λ e. omega arith)))
          (ap stored₁ (none_before n) ∙ new-card)
        where
          none_before : (n : ℕ) → 0 + n ≡ n
          none_before n = omega arith

      first-sent-short : (j : Kind) → text_length (sent_size * m) (first_sent j m sent) ≤ data_limit
      first-sent-short TypeA = let f = few in text_range sent_size data_limit sent m (in_range_lem s cards sent replies ranged).sent_fit (omega arith)
      first-sent-short TypeB = let f = few in let e = put-length sent wupb (sent_size * m) (omega arith) in omega arith
      first-sent-short TypeF = let f = few in text_range sent_size data_limit sent m (in_range_lem s cards sent replies ranged).sent_fit (omega arith)
      first-sent-short Dep = let f = few in text_range sent_size data_limit sent m (in_range_lem s cards sent replies ranged).sent_fit (omega arith)

      first-reply-short : (j : Kind) → length (wake_up_reply j w) ≤ longest_reply → text_length (reply_size * m) (first_reply j m w replies) ≤ longest_reply
      first-reply-short TypeA h = let f = few in text_range reply_size longest_reply replies m (in_range_lem s cards sent replies ranged).replies_fit (omega arith)
      first-reply-short TypeB h = let f = few in let e = put-length replies w (reply_size * m) (omega arith) in omega arith
      first-reply-short TypeF h = let f = few in text_range reply_size longest_reply replies m (in_range_lem s cards sent replies ranged).replies_fit (omega arith)
      first-reply-short Dep h = let f = few in text_range reply_size longest_reply replies m (in_range_lem s cards sent replies ranged).replies_fit (omega arith)

      first-most : (j : Kind) → first_count j ≤ card_replies
      first-most TypeA = omega arith
      first-most TypeB = omega arith
      first-most TypeF = omega arith
      first-most Dep = omega arith

      put-means : AddMeans (card_put s cards sent replies k r l w) (added (field ++ (new_card k r l w ∷ [])))
      unfolding card_put
      put-means =
          let x = in_range_lem s cards sent replies ranged in
          let f = few in
          let a = kind-put cards l (card_size * n) (kind_number k) (br_ty r) (first_count k) room admitted.list_data in
          let b = code_put cards l (card_size * n) (kind_number k) (br_ty r) (first_count k) room admitted.list_data in
          let d = count-put cards l (card_size * n) (kind_number k) (br_ty r) (first_count k) room admitted.list_data in
          let e = list_length-put cards l (card_size * n) (kind_number k) (br_ty r) (first_count k) room admitted.list_data in
          let o = x.numbers.found in
          let z = is-written in
          record {
            state = ap (λ (g : List Card). with_field (state_in s cards sent replies) g) put-field;
            addition = refl;
            inside = range-of (record { count = n + 1; found = s.found; on = s.on }) c₁ (first_sent k m sent) (first_reply k m w replies) (omega arith) (omega arith) x.numbers.on
                (cards_range n m cards sent replies c₁ _ _ z cards-size sent-size replies-size x.numbers.cards_fit x.sent_fit x.replies_fit
                (in_range_by (card_size * n) c₁ (rw a (kind-most k)) (rw b (rate_read k r rated).most) (rw d (first-most k)) (rw e admitted.list_data)))
                (sent_range n m cards sent replies c₁ _ _ z cards-size sent-size replies-size x.numbers.cards_fit x.sent_fit x.replies_fit (first-sent-short k))
                (replies_range n m cards sent replies c₁ _ _ z cards-size sent-size replies-size x.numbers.cards_fit x.sent_fit x.replies_fit (first-reply-short k admitted.wake_up));
            cards_size = z.in_cards.size;
            sent_size = z.in_sent.size;
            replies_size = z.in_replies.size;
          }

    -- a card
    pub card_means : (k : Kind) (r : Bitrate) (l w : List ℕ) → AddMeans (add_card_in s cards sent replies k r l w) (add_card field k r l w)
    unfolding add_card_in pick
    card_means k r l w = rw ranged (go (add_card field k r l w) refl)
      where
        counted : length field ≡ s.count
        counted = length_from (λ (i : ℕ). stored_card i cards sent replies) s.count 0

        go : (o : Outcome) → add_card field k r l w ≡ o → AddMeans (by_addition (card_put s cards sent replies k r l w) (refused_with s cards sent replies) (addition_in o)) o
        go (added g) e =
            let i = card-added_is field g k r l w e in
            subst (λ (f : List Card). AddMeans (card_put s cards sent replies k r l w) (added f)) (sym i.0)
            (put-means k r l w (subst (λ (j : ℕ). CardAdmitted j k l w) counted (card-admitted field k r l w (ap addition_in e))) i.1)
        go (refuses x) e = refused-means x

    module _ (bytes reply : List ℕ) (admitted : ReplyAdmitted s.count cards bytes reply) where
      abbrev last : ℕ
      last = s.count - 1

      abbrev at : ℕ
      at = card_size * last + reply_count_place

      abbrev kept : ℕ
      kept = get_or cards at 0

      abbrev place : ℕ
      place = card_replies * last + kept

      abbrev d₁ : List ℕ
      d₁ = set cards at (kept + 1)

      abbrev t₁ : List ℕ
      t₁ = put_text (sent_size * place) bytes sent

      abbrev r₁ : List ℕ
      r₁ = put_text (reply_size * place) reply replies

      sent-room : sent_size * place + (length bytes + 2) ≤ length sent
      sent-room = let a = admitted.few in let b = admitted.some in let d = admitted.replies in let e = admitted.sent_short in omega arith

      replies-room : reply_size * place + (length reply + 2) ≤ length replies
      replies-room = let a = admitted.few in let b = admitted.some in let d = admitted.replies in let e = admitted.reply_short in omega arith

      reply-written : Written last place cards sent replies d₁ t₁ r₁
      reply-written =
          let e = admitted.sent_short in
          let f = admitted.reply_short in
          record {
            in_cards = within_wider at (at + 1) (card_size * last) (card_size * last + card_size) cards d₁ (omega arith) (omega arith) (within_set at (kept + 1) cards);
            in_sent = within_wider (sent_size * place) (sent_size * place + (length bytes + 2)) (sent_size * place) (sent_size * place + sent_size) sent t₁ (omega arith) (omega arith) (put_within sent bytes (sent_size * place) sent-room);
            in_replies = within_wider (reply_size * place) (reply_size * place + (length reply + 2)) (reply_size * place) (reply_size * place + reply_size) replies r₁ (omega arith) (omega arith) (put_within replies reply (reply_size * place) replies-room);
          }

      inside-cards : at < length cards
      inside-cards = let a = admitted.few in let b = admitted.some in omega arith

      stated-behind : stated_from (get_or d₁ at 0) (card_replies * last) t₁ r₁ ≡ stated_from kept (card_replies * last) sent replies ++ (record { sent = bytes; reply = reply } ∷ [])
      stated-behind =
          let x = in_range_lem s cards sent replies ranged in
          let a = admitted.few in
          let b = admitted.some in
          let d = admitted.replies in
          ap (λ (j : ℕ). stated_from j (card_replies * last) t₁ r₁) (get_or-set_same cards at (kept + 1) 0 inside-cards ∙ add-one kept)
          ∙ from_last (λ (j : ℕ). stated_at j t₁ r₁) kept (card_replies * last)
          ∙ ap₂ (λ (y : List StatedReply) (z : StatedReply). y ++ (z ∷ []))
          (replies-kept last place cards sent replies d₁ t₁ r₁ reply-written cards-size sent-size replies-size x.numbers.cards_fit x.sent_fit x.replies_fit kept (card_replies * last) (omega arith) (λ p i j e. omega arith))
          (ap₂ (λ (y z : List ℕ). record { sent = y; reply = z }) (put_read sent bytes (sent_size * place) sent-room) (put_read replies reply (reply_size * place) replies-room))

      changed-card : stored_card last d₁ t₁ r₁ ≡ with_reply (stored_card last cards sent replies) bytes reply
      changed-card =
          let x = in_range_lem s cards sent replies ranged in
          let a = admitted.few in
          let b = admitted.some in
          let c = (card_range cards last x.numbers.cards_fit (omega arith)).list_data in
          let w = within_set at (kept + 1) cards in
          ap₂ (λ (i j : ℕ). record { kind = kind_at i; bitrate = bitrate_at j; list_data = text_at_of (card_size * last + list_data_place) d₁; replies = stated_from (get_or d₁ at 0) (card_replies * last) t₁ r₁ })
          (w.below (card_size * last) (omega arith)) (w.below (card_size * last + br_ty_place) (omega arith))
          ∙ ap₂ (λ (i : List ℕ) (j : List StatedReply). record { kind = kind_at (get_or cards (card_size * last) 0); bitrate = bitrate_at (get_or cards (card_size * last + br_ty_place) 0); list_data = i; replies = j })
          (text_same (card_size * last + list_data_place) cards d₁ w.size (omega arith) (λ j e f. w.above j (omega arith))) stated-behind

      put-reply-field : cards_in s.count d₁ t₁ r₁ ≡ take (length field - 1) field ++ (with_reply (stored_card last cards sent replies) bytes reply ∷ [])
      put-reply-field =
          let x = in_range_lem s cards sent replies ranged in
          let a = admitted.few in
          let d = admitted.replies in
          last-changed (λ (i : ℕ). stored_card i cards sent replies) (λ (i : ℕ). stored_card i d₁ t₁ r₁) (with_reply (stored_card last cards sent replies) bytes reply) s.count admitted.some
          (λ i h. card-kept last place cards sent replies d₁ t₁ r₁ reply-written cards-size sent-size replies-size x.numbers.cards_fit x.sent_fit x.replies_fit (omega arith) (omega arith) i (omega arith) (λ e. omega arith))
          changed-card

      put-reply-means : AddMeans (reply_put s cards sent replies bytes reply) (added (take (length field - 1) field ++ (with_reply (stored_card last cards sent replies) bytes reply ∷ [])))
      unfolding reply_put
      put-reply-means =
          let x = in_range_lem s cards sent replies ranged in
          let a = admitted.few in
          let b = admitted.some in
          let d = admitted.replies in
          let z = reply-written in
          let w = within_set at (kept + 1) cards in
          let g = card_range cards last x.numbers.cards_fit (omega arith) in
          record {
            state = ap (λ (f : List Card). with_field (state_in s cards sent replies) f) put-reply-field;
            addition = refl;
            inside = range-of s d₁ t₁ r₁ x.numbers.count x.numbers.found x.numbers.on
                (cards_range last place cards sent replies d₁ t₁ r₁ z cards-size sent-size replies-size x.numbers.cards_fit x.sent_fit x.replies_fit
                (in_range_by (card_size * last) d₁
                (rw (w.below (card_size * last) (omega arith)) g.kind)
                (rw (w.below (card_size * last + br_ty_place) (omega arith)) g.br_ty)
                (rw (get_or-set_same cards at (kept + 1) 0 inside-cards) (omega arith))
                (rw (w.above (card_size * last + list_data_place) (omega arith), w.above (card_size * last + list_data_place + 1) (omega arith)) g.list_data)))
                (sent_range last place cards sent replies d₁ t₁ r₁ z cards-size sent-size replies-size x.numbers.cards_fit x.sent_fit x.replies_fit (rw (put-length sent bytes (sent_size * place) sent-room) admitted.sent_short))
                (replies_range last place cards sent replies d₁ t₁ r₁ z cards-size sent-size replies-size x.numbers.cards_fit x.sent_fit x.replies_fit (rw (put-length replies reply (reply_size * place) replies-room) admitted.reply_short));
            cards_size = z.in_cards.size;
            sent_size = z.in_sent.size;
            replies_size = z.in_replies.size;
          }

    -- a reply
    pub reply_means : (bytes reply : List ℕ) → AddMeans (add_reply_in s cards sent replies bytes reply) (add_reply field bytes reply)
    unfolding add_reply_in pick
    reply_means bytes reply = rw ranged (go (add_reply field bytes reply) refl)
      where
        none_before : (p : ℕ) → 0 + p ≡ p
        none_before p = omega arith

        go : (o : Outcome) → add_reply field bytes reply ≡ o → AddMeans (by_addition (reply_put s cards sent replies bytes reply) (refused_with s cards sent replies) (addition_in o)) o
        go (added g) e =
            let x = in_range_lem s cards sent replies ranged in
            let h = reply-admitted cards sent replies bytes reply s.count x.numbers.cards_fit x.numbers.count (ap addition_in e) in
            let f : card_in field (length field - 1) ≡ some (stored_card (s.count - 1) cards sent replies) =
            ap (λ (n : ℕ). card_in field (n - 1)) (length_from (λ (i : ℕ). stored_card i cards sent replies) s.count 0)
            ∙ card-at (λ (i : ℕ). stored_card i cards sent replies) s.count 0 (s.count - 1) (let b = h.some in omega arith)
            ∙ ap (λ (i : ℕ). some (stored_card i cards sent replies)) (none_before (s.count - 1)) in
            subst (λ (f : List Card). AddMeans (reply_put s cards sent replies bytes reply) (added f)) (sym (reply-added_is field g _ bytes reply f e))
            (put-reply-means bytes reply h)
        go (refuses x) e = refused-means x
