-- A card is added exactly where the field with it is allowed; 4 is given exactly where an argument is bad, so before 3. AllowedReplies.antt has the same of a reply.
use Rattle.std.specs.Prelude.{◌≡◌, Bool, List, [], ◌∷◌, ◌++◌, ◌↔◌, ◌⊎◌, ℕ, ◌≤◌, ◌<◌, length}
use Rattle.std.proofs.Math.Path.{refl}
use Rattle.std.proofs.Common.{ap, length-append}
use Rattle.std.proofs.Math.Bool.{true, false}
use Rattle.std.proofs.Math.Logic.{inl, inr}
use native.Mathlib.Omega.{arith}
use borrow.Author.Tests.{leb-true, ltb-true, lt-ltb, le-leb}
use Rattle.std.proofs.Math.Dec.{leb, ltb}
use Rattle.errors.specs.Choice.{pick, same_self}
use Rattle.errors.specs.declared.Refusal.{Refusal}
use Rattle.errors.specs.Refusals.{numbered}
use Rattle.errors.specs.declared.Refusal.TheVariants.{OverLong, BadArgument}
use Rattle.framing.specs.Lists.{Bytes}
use Rattle.targets.specs.declared.Bitrate.{Bitrate}
use Rattle.chip_protocol.specs.Names.{longest_list_data, longest_reply, most_cards}
use Rattle.chip_protocol.specs.Field.{Card, is_bitrate_of, wupb, reply_to, least_list_data, protocol_fits, is_type2_at, RepliesFit, wakes_up, reply_limit, RepliesAllowed, CardAllowed, CardsAllowed, FieldAllowed}
use Rattle.chip_protocol.specs.Add.{Added, added, refuses, wake_up_reply, first_replies, new_card, add_card}
use Rattle.chip_protocol.specs.declared.Kind.{Kind}
use Rattle.chip_protocol.specs.declared.Kind.TheVariants.{TypeA, TypeB, TypeF, Dep}

-- ---- the answers told apart

abbrev pub number : Added → ℕ
number (added f) = 0
number (refuses r) = (numbered r).number

pub not_four : (g : List Card) → refuses BadArgument ≡ added g → ⊥
not_four g e = omega (arith, ap number e)

pub not_three : (g : List Card) → refuses OverLong ≡ added g → ⊥
not_three g e = omega (arith, ap number e)

-- what is found behind the last test of 4: added, or 3
abbrev pub Later : Added → Type 0
Later a = a ≡ refuses BadArgument → ⊥

pub later-added : (g : List Card) → Later (added g)
later-added g e = omega (arith, ap number e)

pub later_three : Later (refuses OverLong)
later_three e = omega (arith, ap number e)

pub later-pick : (t : Bool) (a : Added) → Later a → Later (pick t a (refuses OverLong))
unfolding pick
later-pick true a h = h
later-pick false a h = later_three

-- ---- a card

module _ (f : List Card) (k : Kind) (r : Bitrate) (l w : List ℕ) where
  abbrev field_then : List Card
  field_then = f ++ (new_card k r l w ∷ [])

  -- the arguments that 4 asks for
  pub record CardArgument : Type 0 where
    pub few : length f < most_cards
    pub bitrate : is_bitrate_of k r ≡ true
    pub long : least_list_data k ≤ length l
    pub protocol : protocol_fits k l ≡ true

  record Tests : Type 0 where
    pub argument : CardArgument
    pub short : length l ≤ longest_list_data
    pub brief : length (wake_up_reply k w) ≤ longest_reply

  abbrev tested : (a b c d e h : Bool) → Added
  tested a b c d e h =
      pick a (pick b (pick c (pick d (pick e (pick h (added field_then) (refuses OverLong)) (refuses OverLong)) (refuses BadArgument)) (refuses BadArgument)) (refuses BadArgument)) (refuses BadArgument)

  -- it is refused, or the card stands behind the others
  pub card_outcomes : ((e : Refusal) × (add_card f k r l w ≡ refuses e)) ⊎ (add_card f k r l w ≡ added (f ++ (new_card k r l w ∷ [])))
  unfolding add_card pick
  card_outcomes = go (ltb (length f) most_cards) (is_bitrate_of k r) (leb (least_list_data k) (length l)) (protocol_fits k l) (leb (length l) longest_list_data) (leb (length (wake_up_reply k w)) longest_reply)
    where
      go : (a b c d e h : Bool) → ((x : Refusal) × (tested a b c d e h ≡ refuses x)) ⊎ (tested a b c d e h ≡ added field_then)
      go true true true true true true = inr refl
      go true true true true true false = inl (OverLong, refl)
      go true true true true false h = inl (OverLong, refl)
      go true true true false e h = inl (BadArgument, refl)
      go true true false d e h = inl (BadArgument, refl)
      go true false c d e h = inl (BadArgument, refl)
      go false b c d e h = inl (BadArgument, refl)

  tests-pass : add_card f k r l w ≡ added field_then → Tests
  unfolding add_card pick
  tests-pass = go (ltb (length f) most_cards) (is_bitrate_of k r) (leb (least_list_data k) (length l)) (protocol_fits k l) (leb (length l) longest_list_data) (leb (length (wake_up_reply k w)) longest_reply)
      refl refl refl refl refl refl
    where
      go : (a b c d e h : Bool) → ltb (length f) most_cards ≡ a → is_bitrate_of k r ≡ b → leb (least_list_data k) (length l) ≡ c → protocol_fits k l ≡ d → leb (length l) longest_list_data ≡ e
          → leb (length (wake_up_reply k w)) longest_reply ≡ h → tested a b c d e h ≡ added field_then → Tests
      go true true true true true true p q u v x y z =
          record {
            argument = record { few = ltb-true (length f) most_cards p; bitrate = q; long = leb-true (least_list_data k) (length l) u; protocol = v };
            short = leb-true (length l) longest_list_data x;
            brief = leb-true (length (wake_up_reply k w)) longest_reply y;
          }
      go true true true true true false p q u v x y z = absurd (not_three field_then z)
      go true true true true false h p q u v x y z = absurd (not_three field_then z)
      go true true true false e h p q u v x y z = absurd (not_four field_then z)
      go true true false d e h p q u v x y z = absurd (not_four field_then z)
      go true false c d e h p q u v x y z = absurd (not_four field_then z)
      go false b c d e h p q u v x y z = absurd (not_four field_then z)

  passed : Tests → add_card f k r l w ≡ added field_then
  unfolding add_card pick
  passed t =
      rw (
        lt-ltb (length f) most_cards t.argument.few,
        t.argument.bitrate,
        le-leb (least_list_data k) (length l) t.argument.long,
        t.argument.protocol,
        le-leb (length l) longest_list_data t.short,
        le-leb (length (wake_up_reply k w)) longest_reply t.brief,
      )
      refl

  pub four_exactly : (add_card f k r l w ≡ refuses BadArgument) ↔ (CardArgument → ⊥)
  unfolding add_card pick
  four_exactly = (there, back)
    where
      there : add_card f k r l w ≡ refuses BadArgument → CardArgument → ⊥
      there e t =
          later-pick (leb (length l) longest_list_data) (pick (leb (length (wake_up_reply k w)) longest_reply) (added field_then) (refuses OverLong))
          (later-pick (leb (length (wake_up_reply k w)) longest_reply) (added field_then) (later-added field_then))
          (rw (lt-ltb (length f) most_cards t.few, t.bitrate, le-leb (least_list_data k) (length l) t.long, t.protocol) at e)

      go : (a b c d : Bool) (z : Added) → ltb (length f) most_cards ≡ a → is_bitrate_of k r ≡ b → leb (least_list_data k) (length l) ≡ c → protocol_fits k l ≡ d → (CardArgument → ⊥)
          → pick a (pick b (pick c (pick d z (refuses BadArgument)) (refuses BadArgument)) (refuses BadArgument)) (refuses BadArgument) ≡ refuses BadArgument
      go true true true true z p q u v n =
          absurd (n record { few = ltb-true (length f) most_cards p; bitrate = q; long = leb-true (least_list_data k) (length l) u; protocol = v })
      go true true true false z p q u v n = refl
      go true true false d z p q u v n = refl
      go true false c d z p q u v n = refl
      go false b c d z p q u v n = refl

      back : (CardArgument → ⊥) → add_card f k r l w ≡ refuses BadArgument
      back n =
          go (ltb (length f) most_cards) (is_bitrate_of k r) (leb (least_list_data k) (length l)) (protocol_fits k l)
          (pick (leb (length l) longest_list_data) (pick (leb (length (wake_up_reply k w)) longest_reply) (added field_then) (refuses OverLong)) (refuses OverLong)) refl refl refl refl n

  -- ---- the card

  new-wakes : (j : Kind) → wakes_up j (first_replies j w) ≡ true
  unfolding reply_to pick
  new-wakes TypeA = refl
  new-wakes TypeB = rw (same_self wupb)
  new-wakes TypeF = refl
  new-wakes Dep = refl

  new-replies : (j : Kind) → Bytes w → length (wake_up_reply j w) ≤ longest_reply → RepliesFit (is_type2_at j r l) (first_replies j w)
  new-replies TypeA b h = tt
  new-replies TypeB b h = (record { bytes = b; short = h; crc = refl }, tt)
  new-replies TypeF b h = tt
  new-replies Dep b h = tt

  new-few : (j : Kind) → length (first_replies j w) ≤ reply_limit j
  new-few TypeA = omega arith
  new-few TypeB = omega arith
  new-few TypeF = omega arith
  new-few Dep = omega arith

  new-allowed : (j : Kind) → RepliesAllowed (first_replies j w)
  unfolding reply_to
  new-allowed TypeA = tt
  new-allowed TypeB = (omega arith, refl, tt)
  new-allowed TypeF = tt
  new-allowed Dep = tt

  brief-of : (j : Kind) → RepliesFit (is_type2_at j r l) (first_replies j w) → length (wake_up_reply j w) ≤ longest_reply
  brief-of TypeA h = omega arith
  brief-of TypeB h = h.0.short
  brief-of TypeF h = omega arith
  brief-of Dep h = omega arith

pub cards_append : (f : List Card) (c : Card) → CardsAllowed f → CardAllowed c → CardsAllowed (f ++ (c ∷ []))
cards_append [] c h k = (k, tt)
cards_append (d ∷ ds) c h k = (h.0, cards_append ds c h.1 k)

pub last-allowed : (f : List Card) (c : Card) → CardsAllowed (f ++ (c ∷ [])) → CardAllowed c
last-allowed [] c h = h.0
last-allowed (d ∷ ds) c h = last-allowed ds c h.1

pub before-allowed : (f : List Card) (c : Card) → CardsAllowed (f ++ (c ∷ [])) → CardsAllowed f
before-allowed [] c h = tt
before-allowed (d ∷ ds) c h = (h.0, before-allowed ds c h.1)

module _ (f : List Card) (k : Kind) (r : Bitrate) (l w : List ℕ) (allowed : FieldAllowed f) (data-bytes : Bytes l) (reply_bytes_lem : Bytes w) where
  -- a card is added exactly where the field with it is allowed
  pub card_exactly : (add_card f k r l w ≡ added (f ++ (new_card k r l w ∷ []))) ↔ FieldAllowed (f ++ (new_card k r l w ∷ []))
  card_exactly = (there, back)
    where
      there : add_card f k r l w ≡ added (f ++ (new_card k r l w ∷ [])) → FieldAllowed (f ++ (new_card k r l w ∷ []))
      there e =
          let t = tests-pass f k r l w e in (
            omega (arith, length-append f (new_card k r l w ∷ []), t.argument.few),
            cards_append f (new_card k r l w) allowed.1
                record {
                  fits =
                      record {
                        bytes = data-bytes;
                        long = t.argument.long;
                        short = t.short;
                        protocol = t.argument.protocol;
                        wakes = new-wakes f k r l w k;
                        replies = new-replies f k r l w k reply_bytes_lem t.brief;
                      };
                  bitrate = t.argument.bitrate;
                  few = new-few f k r l w k;
                  replies = new-allowed f k r l w k;
                },
          )

      back : FieldAllowed (f ++ (new_card k r l w ∷ [])) → add_card f k r l w ≡ added (f ++ (new_card k r l w ∷ []))
      back h =
          let c = last-allowed f (new_card k r l w) h.1 in
          passed f k r l w
          record {
            argument = record { few = omega (arith, length-append f (new_card k r l w ∷ []), h.0); bitrate = c.bitrate; long = c.fits.long; protocol = c.fits.protocol };
            short = c.fits.short;
            brief = brief-of f k r l w k c.fits.replies;
          }
