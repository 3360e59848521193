-- Laws of what is asked of a card or a reply that is added.
use Rattle.std.specs.Prelude.{◌≡◌, Ok, Err, Bool, eqb, ltb, length, take}
use Rattle.std.proofs.Math.Path.{refl, sym, ap, ap₂}
use Rattle.std.proofs.Common.{subst, ◌∙◌}
use Rattle.std.proofs.Math.Bool.{true, false}
use mathlib.Core.List.{List, [], ◌∷◌, ◌++◌}
use Rattle.std.proofs.Math.Option.{Option, none, some}
use Prim.Native.Nat.{ℕ, zero, suc, ◌+◌, ◌*◌, ◌-◌, ◌≤◌, ◌<◌}
use native.Mathlib.Omega.{arith}
use borrow.Author.Tests.{ltb-true, leb-true}
use Rattle.std.proofs.Math.Dec.{leb}
use Rattle.std.proofs.Math.ListN.{get_or}
use Rattle.errors.specs.Choice.{pick}
use Rattle.errors.specs.declared.Refusal.TheVariants.{OverLong, BadArgument}
use Rattle.targets.specs.TypeA.{is_type2}
use Rattle.targets.specs.declared.Bitrate.{Bitrate}
use Rattle.protocol.specs.Starts.{data_limit}
use Rattle.chip_protocol.specs.Names.{longest_list_data, longest_reply, most_cards}
use Rattle.chip_protocol.specs.Field.{Card, is_bitrate_of, reply_to, least_list_data, protocol_fits, sel_res_byte, is_type2_at, crc_fits, is_stated, reply_limit}
use Rattle.chip_protocol.specs.Add.{added, refuses, wake_up_reply, add_card, new_card, with_reply, add_reply_to, add_reply}
use Rattle.chip_protocol.specs.Chip.{card_in}
use Rattle.simulated_chip.specs.Counted.{list_from, length_from}
use Rattle.simulated_chip.specs.Memory.{card_size, card_replies, br_ty_place, reply_count_place, list_data_place, text_at_of, kind_at, bitrate_at, stored_card, cards_in, card_replies_in, field_in, stated_at, stated_from}
use Rattle.simulated_chip.specs.Range.{last_kind, last_br_ty, cards_in_range, chip_in_range}
use Rattle.simulated_chip.specs.RangeLaws.{card_range, ranges}
use Rattle.simulated_chip.specs.ResponseLaws.{card-at}
use Rattle.simulated_chip.specs.Additions.{Addition, addition_in, is_type2_in, limit_of_kind, lengths_addition, CardAdmitted, ReplyAdmitted}
use Rattle.simulated_chip.specs.declared.chip.Chip.{Chip}
use Rattle.chip_protocol.specs.declared.Kind.{Kind}

-- ---- a card that is taken

pub card-admitted : (f : List Card) (k : Kind) (r : Bitrate) (l w : List ℕ) → addition_in (add_card f k r l w) ≡ (Ok tt) → CardAdmitted (length f) k l w
unfolding add_card pick
card-admitted f k r l w h =
    go (ltb (length f) most_cards) (is_bitrate_of k r) (leb (least_list_data k) (length l)) (protocol_fits k l) (leb (length l) longest_list_data) (leb (length (wake_up_reply k w)) longest_reply) refl refl refl h
  where
    go : (a b c d e g : Bool) → ltb (length f) most_cards ≡ a → leb (length l) longest_list_data ≡ e → leb (length (wake_up_reply k w)) longest_reply ≡ g
        → addition_in (pick a (pick b (pick c (pick d (pick e (pick g (added (f ++ (new_card k r l w ∷ []))) (refuses OverLong)) (refuses OverLong)) (refuses BadArgument)) (refuses BadArgument)) (refuses BadArgument)) (refuses BadArgument)) ≡ (Ok tt)
        → CardAdmitted (length f) k l w
    go true true true true true true x y z h = record { few = ltb-true _ _ x; list_data = leb-true _ _ y; wake_up = leb-true _ _ z }
    go true true true true true false x y z h = let q : ◌≡◌ {A = ℕ} 0 1 = cc in absurd (omega arith)
    go true true true true false g x y z h = let q : ◌≡◌ {A = ℕ} 0 1 = cc in absurd (omega arith)
    go true true true false e g x y z h = let q : ◌≡◌ {A = ℕ} 0 1 = cc in absurd (omega arith)
    go true true false d e g x y z h = let q : ◌≡◌ {A = ℕ} 0 1 = cc in absurd (omega arith)
    go true false c d e g x y z h = let q : ◌≡◌ {A = ℕ} 0 1 = cc in absurd (omega arith)
    go false b c d e g x y z h = let q : ◌≡◌ {A = ℕ} 0 1 = cc in absurd (omega arith)

-- ---- what memory says of a card

type2_same : (n m : ℕ) (l : List ℕ) → n ≤ last_kind → m ≤ last_br_ty → is_type2_at (kind_at n) (bitrate_at m) l ≡ pick (eqb n 0) (pick (eqb m 0) (is_type2 (get_or l sel_res_byte 0)) false) false
unfolding kind_at bitrate_at pick
type2_same zero zero l h k = refl
type2_same zero (suc zero) l h k = refl
type2_same zero (suc (suc zero)) l h k = refl
type2_same zero (suc (suc (suc zero))) l h k = refl
type2_same zero (suc (suc (suc (suc m)))) l h k = absurd (omega arith)
type2_same (suc zero) m l h k = refl
type2_same (suc (suc zero)) m l h k = refl
type2_same (suc (suc (suc zero))) m l h k = refl
type2_same (suc (suc (suc (suc n)))) m l h k = absurd (omega arith)

limit-same : (n : ℕ) → n ≤ last_kind → reply_limit (kind_at n) ≡ limit_of_kind n
unfolding kind_at limit_of_kind pick
limit-same zero h = refl
limit-same (suc zero) h = refl
limit-same (suc (suc zero)) h = refl
limit-same (suc (suc (suc zero))) h = refl
limit-same (suc (suc (suc (suc n)))) h = absurd (omega arith)

-- ---- a reply that is taken

abbrev pub reply_addition : Bool → Bool → Addition → Addition
reply_addition stated crc x = pick stated (Err BadArgument) (pick crc x (Err BadArgument))

module _ (cards sent bytes reply : List ℕ) (count : ℕ) (in_range_lem : cards_in_range cards ≡ true) (few : count ≤ most_cards) (some-card : count ≡ 0 → ⊥) where
  abbrev at : ℕ
  at = card_size * (count - 1)

  abbrev kept : ℕ
  kept = get_or cards (at + reply_count_place) 0

  pub reply_addition_lem : (replies : List ℕ)
      → reply_addition (is_stated (reply_to (stated_from kept (card_replies * (count - 1)) sent replies) bytes)) (crc_fits (is_type2_in at cards) reply) (lengths_addition bytes reply kept (limit_of_kind (get_or cards at 0)))
      ≡ addition_in (add_reply (cards_in count cards sent replies) bytes reply)
  unfolding add_reply_to is_type2_in lengths_addition pick
  reply_addition_lem replies =
      let r = card_range cards (count - 1) in_range_lem (omega (arith, zero_or count some-card)) in
      let last : card_in (cards_in count cards sent replies) (length (cards_in count cards sent replies) - 1) ≡ some (stored_card (count - 1) cards sent replies)
      = ap (λ (n : ℕ). card_in (cards_in count cards sent replies) (n - 1)) (length_from (λ (i : ℕ). stored_card i cards sent replies) count 0)
      ∙ card-at (λ (i : ℕ). stored_card i cards sent replies) count 0 (count - 1) (omega (arith, zero_or count some-card))
      ∙ ap (λ (i : ℕ). some (stored_card i cards sent replies)) (none (count - 1)) in
      sym (ap (λ (o : Option Card). addition_in (add_reply_to (cards_in count cards sent replies) o bytes reply)) last
      ∙ rw (
        type2_same (get_or cards at 0) (get_or cards (at + br_ty_place) 0) (text_at_of (at + list_data_place) cards) r.kind r.br_ty,
        limit-same (get_or cards at 0) r.kind,
        length_from (λ (j : ℕ). stated_at j sent replies) kept (card_replies * (count - 1)),
      )
      (go (is_stated (reply_to (stated_from kept (card_replies * (count - 1)) sent replies) bytes)) (crc_fits (pick (eqb (get_or cards at 0) 0) (pick (eqb (get_or cards (at + br_ty_place) 0) 0) (is_type2 (get_or (text_at_of (at + list_data_place) cards) sel_res_byte 0)) false) false) reply) (leb (length reply) longest_reply) (leb (length bytes) data_limit) (ltb kept (limit_of_kind (get_or cards at 0)))))
    where
      zero_or : (n : ℕ) → (n ≡ 0 → ⊥) → 0 < n
      zero_or zero h = absurd (h refl)
      zero_or (suc n) h = omega arith

      none : (p : ℕ) → 0 + p ≡ p
      none p = omega arith

      go : (a b c d e : Bool)
          → addition_in (pick a (refuses BadArgument) (pick b (pick c (pick d (pick e (added (take (length (cards_in count cards sent replies) - 1) (cards_in count cards sent replies) ++ (with_reply (stored_card (count - 1) cards sent replies) bytes reply ∷ []))) (refuses OverLong)) (refuses OverLong)) (refuses OverLong)) (refuses BadArgument)))
          ≡ reply_addition a b (pick c (pick d (pick e (Ok tt) (Err OverLong)) (Err OverLong)) (Err OverLong))
      go true b c d e = refl
      go false true true true true = refl
      go false true true true false = refl
      go false true true false e = refl
      go false true false d e = refl
      go false false c d e = refl

pub admit_no_card : (cards sent replies bytes reply : List ℕ) (count : ℕ) → count ≡ 0 → Err BadArgument ≡ addition_in (add_reply (cards_in count cards sent replies) bytes reply)
unfolding add_reply_to list_from
admit_no_card cards sent replies bytes reply count h = rw h

module _ (c : Chip) (bytes reply : List ℕ) (ranged : chip_in_range c ≡ true) (p : ℕ) (is_last : c.state.count ≡ p + 1) where
  abbrev lengths_of : ℕ → Addition
  lengths_of k = lengths_addition bytes reply (get_or c.cards (card_size * k + reply_count_place) 0) (limit_of_kind (get_or c.cards (card_size * k) 0))

  abbrev outcome : Addition
  outcome = addition_in (add_reply (field_in c) bytes reply)

  by_tests : reply_addition (is_stated (reply_to (card_replies_in p c) bytes)) (crc_fits (is_type2_in (card_size * p) c.cards) reply) (lengths_of p) ≡ outcome
  by_tests =
      let x = ranges c ranged in
      subst (λ (k : ℕ). reply_addition (is_stated (reply_to (card_replies_in k c) bytes)) (crc_fits (is_type2_in (card_size * k) c.cards) reply) (lengths_of k) ≡ outcome)
      last (reply_addition_lem c.cards c.sent bytes reply c.state.count x.numbers.cards_fit x.numbers.count (λ e. omega arith) c.replies)
    where
      last : c.state.count - 1 ≡ p
      last = omega arith

  pub admit_stated : is_stated (reply_to (card_replies_in p c) bytes) ≡ true → Err BadArgument ≡ outcome
  unfolding pick
  admit_stated h = rw h at by_tests

  module _ (unstated : reply_to (card_replies_in p c) bytes ≡ none) (t : Bool) (crc : t ≡ crc_fits (is_type2_in (card_size * p) c.cards) reply) where
    pub admit_crc : t ≡ false → Err BadArgument ≡ outcome
    unfolding pick
    admit_crc h = rw (unstated, ← crc, h) at by_tests

    pub admit_reply_taken : t ≡ true → (n limit : ℕ) → n ≡ get_or c.cards (card_size * p + reply_count_place) 0 → limit ≡ limit_of_kind (get_or c.cards (card_size * p) 0)
        → (x : Addition) → x ≡ lengths_addition bytes reply n limit → x ≡ outcome
    unfolding pick
    admit_reply_taken h n limit p q x e = e ∙ ap₂ (λ (i j : ℕ). lengths_addition bytes reply i j) p q ∙ (rw (unstated, ← crc, h) at by_tests)

limit-most : (n : ℕ) → limit_of_kind n ≤ card_replies
unfolding limit_of_kind pick
limit-most n = go (eqb n 1)
  where
    go : (t : Bool) → pick t 9 8 ≤ 9
    go true = omega arith
    go false = omega arith

pub reply-admitted : (cards sent replies bytes reply : List ℕ) (count : ℕ) → cards_in_range cards ≡ true → count ≤ most_cards
    → addition_in (add_reply (cards_in count cards sent replies) bytes reply) ≡ (Ok tt) → ReplyAdmitted count cards bytes reply
unfolding lengths_addition pick
reply-admitted cards sent replies bytes reply zero r few h = let q : ◌≡◌ {A = Addition} (Err BadArgument) (Ok tt) = admit_no_card cards sent replies bytes reply 0 refl ∙ h in let z : ◌≡◌ {A = ℕ} 0 1 = cc in absurd (omega arith)
reply-admitted cards sent replies bytes reply (suc k) r few h =
    go (is_stated (reply_to (stated_from (get_or cards (card_size * (suc k - 1) + reply_count_place) 0) (card_replies * (suc k - 1)) sent replies) bytes)) (crc_fits (is_type2_in (card_size * (suc k - 1)) cards) reply) (leb (length reply) longest_reply) (leb (length bytes) data_limit) (ltb (get_or cards (card_size * (suc k - 1) + reply_count_place) 0) (limit_of_kind (get_or cards (card_size * (suc k - 1)) 0)))
    refl refl refl (reply_addition_lem cards sent bytes reply (suc k) r few (λ e. omega arith) replies ∙ h)
  where
    go : (a b c d e : Bool) → leb (length reply) longest_reply ≡ c → leb (length bytes) data_limit ≡ d → ltb (get_or cards (card_size * (suc k - 1) + reply_count_place) 0) (limit_of_kind (get_or cards (card_size * (suc k - 1)) 0)) ≡ e
        → reply_addition a b (pick c (pick d (pick e (Ok tt) (Err OverLong)) (Err OverLong)) (Err OverLong)) ≡ (Ok tt) → ReplyAdmitted (suc k) cards bytes reply
    go true b c d e x y z h = let q : ◌≡◌ {A = ℕ} 0 1 = cc in absurd (omega arith)
    go false true true true true x y z h =
        record {
          some = omega arith;
          few = few;
          replies = let m = limit-most (get_or cards (card_size * (suc k - 1)) 0) in let n = ltb-true (get_or cards (card_size * (suc k - 1) + reply_count_place) 0) (limit_of_kind (get_or cards (card_size * (suc k - 1)) 0)) z in omega arith;
          sent_short = leb-true _ _ y;
          reply_short = leb-true _ _ x;
        }
    go false true true true false x y z h = let q : ◌≡◌ {A = ℕ} 0 1 = cc in absurd (omega arith)
    go false true true false e x y z h = let q : ◌≡◌ {A = ℕ} 0 1 = cc in absurd (omega arith)
    go false true false d e x y z h = let q : ◌≡◌ {A = ℕ} 0 1 = cc in absurd (omega arith)
    go false false c d e x y z h = let q : ◌≡◌ {A = ℕ} 0 1 = cc in absurd (omega arith)

pub card_taken : (cards sent replies : List ℕ) (count : ℕ) (k : Kind) (r : Bitrate) (l w : List ℕ) (x : Addition) → ((f : List Card) → length f ≡ count → x ≡ addition_in (add_card f k r l w)) → x ≡ (Ok tt)
    → CardAdmitted count k l w
card_taken cards sent replies count k r l w x h e =
    let f : List Card = cards_in count cards sent replies in
    let n : length f ≡ count = length_from (λ (i : ℕ). stored_card i cards sent replies) count 0 in
    subst (λ (m : ℕ). CardAdmitted m k l w) n (card-admitted f k r l w (sym (h f n) ∙ e))
