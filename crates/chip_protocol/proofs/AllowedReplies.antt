-- A reply is added to the card added last exactly where the field with it is allowed; 4 is given exactly where there is another reply to the same bytes, or
-- the CRC_A of a Type 2 card's is missing.
use Rattle.std.specs.Prelude.{◌≡◌, Bool, ◌↔◌, ◌⊎◌, ℕ, ◌-◌, ◌≤◌, ◌<◌, length, take}
use Rattle.std.proofs.Math.Path.{refl, subst}
use Rattle.std.proofs.Common.{sym, ap, ◌∙◌, arith, length-append}
use Rattle.std.proofs.Math.Bool.{true, false}
use Rattle.std.proofs.lemmas.Bool.{false≢true}
use mathlib.Core.List.{List, [], ◌∷◌, ◌++◌}
use Rattle.std.proofs.Math.Logic.{inl, inr}
use Rattle.std.proofs.Math.Option.{none, some}
use borrow.Author.Tests.{leb-true, ltb-true, lt-ltb, le-leb}
use Rattle.std.proofs.Math.Dec.{leb, ltb}
use Rattle.std.proofs.Math.Seq.{take-append_seam}
use Rattle.errors.specs.Choice.{pick, same, same_self, same_not}
use Rattle.errors.specs.declared.Refusal.{Refusal}
use Rattle.errors.specs.declared.Refusal.TheVariants.{OverLong, BadArgument}
use Rattle.framing.specs.Lists.{Bytes}
use Rattle.protocol.specs.Starts.{data_limit}
use Rattle.chip_protocol.specs.Names.{longest_reply}
use Rattle.chip_protocol.specs.Field.{StatedReply, Card, wupb, reply_to, is_type2_card, crc_fits, ReplyFits, RepliesFit, is_stated, wakes_up, FieldFits, reply_limit, RepliesAllowed, CardsAllowed, FieldAllowed}
use Rattle.chip_protocol.specs.Chip.{card_in}
use Rattle.chip_protocol.specs.Add.{Added, added, refuses, with_reply, add_reply_to, add_reply}
use Rattle.chip_protocol.specs.declared.Kind.{Kind}
use Rattle.chip_protocol.specs.declared.Kind.TheVariants.{TypeA, TypeB, TypeF, Dep}
use Rattle.chip_protocol.specs.Allowed.{not_four, not_three, later-added, later-pick, cards_append, last-allowed, before-allowed}
use Rattle.chip_protocol.specs.AllowedReplies.{stated}

-- ---- stated replies

same_sym : (s t : List ℕ) → same s t ≡ false → same t s ≡ false
same_sym s t h = same_not t s (λ e. false≢true (sym h ∙ subst (λ u. same s u ≡ true) (sym e) (same_self s)))

module _ (sent reply : List ℕ) where
  -- the replies with one more
  abbrev with_one : List StatedReply → List StatedReply
  with_one xs = xs ++ (stated sent reply ∷ [])

  still-stated : (xs : List StatedReply) (bytes : List ℕ) → is_stated (reply_to xs bytes) ≡ true → is_stated (reply_to (with_one xs) bytes) ≡ true
  unfolding reply_to pick
  still-stated [] bytes h = absurd (false≢true h)
  still-stated (x ∷ xs) bytes h = go (same x.sent bytes) h (still-stated xs bytes)
    where
      go : (t : Bool) → is_stated (pick t (some x.reply) (reply_to xs bytes)) ≡ true → (is_stated (reply_to xs bytes) ≡ true → is_stated (reply_to (with_one xs) bytes) ≡ true)
          → is_stated (pick t (some x.reply) (reply_to (with_one xs) bytes)) ≡ true
      go true h again = refl
      go false h again = again h

  still-wakes : (k : Kind) (xs : List StatedReply) → wakes_up k xs ≡ true → wakes_up k (with_one xs) ≡ true
  still-wakes TypeA xs h = refl
  still-wakes TypeB xs h = still-stated xs wupb h
  still-wakes TypeF xs h = refl
  still-wakes Dep xs h = refl

  replies-append : (t : Bool) (xs : List StatedReply) → RepliesFit t xs → ReplyFits t reply → RepliesFit t (with_one xs)
  replies-append t [] h k = (k, tt)
  replies-append t (x ∷ xs) h k = (h.0, replies-append t xs h.1 k)

  pub last_fits : (t : Bool) (xs : List StatedReply) → RepliesFit t (with_one xs) → ReplyFits t reply
  last_fits t [] h = h.0
  last_fits t (x ∷ xs) h = last_fits t xs h.1

  -- bytes are stated by the replies with one more exactly where they are by the replies, or are those of the one more
  one_more : (xs : List StatedReply) (bytes : List ℕ) → (is_stated (reply_to (with_one xs) bytes) ≡ false) ↔ ((is_stated (reply_to xs bytes) ≡ false) × (same sent bytes ≡ false))
  unfolding reply_to pick
  one_more [] bytes = go (same sent bytes)
    where
      go : (t : Bool) → (is_stated (pick t (some reply) none) ≡ false) ↔ ((false ≡ false) × (t ≡ false))
      go true = (λ e. absurd (false≢true (sym e)), λ h. absurd (false≢true (sym h.1)))
      go false = (λ e. (refl, refl), λ h. refl)
  one_more (x ∷ xs) bytes = go (same x.sent bytes) (one_more xs bytes)
    where
      go : (t : Bool) → (is_stated (reply_to (with_one xs) bytes) ≡ false) ↔ ((is_stated (reply_to xs bytes) ≡ false) × (same sent bytes ≡ false))
          → (is_stated (pick t (some x.reply) (reply_to (with_one xs) bytes)) ≡ false) ↔ ((is_stated (pick t (some x.reply) (reply_to xs bytes)) ≡ false) × (same sent bytes ≡ false))
      go true h = (λ e. absurd (false≢true (sym e)), λ k. absurd (false≢true (sym k.0)))
      go false h = h

  not-head : (x : StatedReply) (xs : List StatedReply) → is_stated (reply_to (x ∷ xs) sent) ≡ false → (same x.sent sent ≡ false) × (is_stated (reply_to xs sent) ≡ false)
  unfolding reply_to pick
  not-head x xs h = go (same x.sent sent) h
    where
      go : (t : Bool) → is_stated (pick t (some x.reply) (reply_to xs sent)) ≡ false → (t ≡ false) × (is_stated (reply_to xs sent) ≡ false)
      go true e = absurd (false≢true (sym e))
      go false e = (refl, e)

  in_head : (x : StatedReply) (xs : List StatedReply) → same x.sent sent ≡ false → is_stated (reply_to xs sent) ≡ false → is_stated (reply_to (x ∷ xs) sent) ≡ false
  unfolding reply_to pick
  in_head x xs h k = rw h k

  allowed-append : (xs : List StatedReply) → RepliesAllowed xs → length sent ≤ data_limit → is_stated (reply_to xs sent) ≡ false → RepliesAllowed (with_one xs)
  unfolding reply_to
  allowed-append [] h k n = (k, refl, tt)
  allowed-append (x ∷ xs) h k n =
      let m = not-head x xs n in
      (h.0, (one_more xs x.sent).1 (h.1, same_sym x.sent sent m.0), allowed-append xs h.2 k m.1)

  pub allowed-last : (xs : List StatedReply) → RepliesAllowed (with_one xs) → (length sent ≤ data_limit) × (is_stated (reply_to xs sent) ≡ false)
  unfolding reply_to
  allowed-last [] h = (h.0, refl)
  allowed-last (x ∷ xs) h =
      let again = allowed-last xs h.2 in
      (again.0, in_head x xs (same_sym sent x.sent ((one_more xs x.sent).0 h.1).1) again.1)

-- ---- the card added last

last-place : (f : List Card) (c : Card) → length (f ++ (c ∷ [])) - 1 ≡ length f
last-place f c = omega (arith, length-append f (c ∷ []))

card-behind : (f : List Card) (c : Card) → card_in (f ++ (c ∷ [])) (length f) ≡ some c
card-behind [] c = refl
card-behind (d ∷ ds) c = card-behind ds c

last-card : (f : List Card) (c : Card) → card_in (f ++ (c ∷ [])) (length (f ++ (c ∷ [])) - 1) ≡ some c
last-card f c = ap (card_in (f ++ (c ∷ []))) (last-place f c) ∙ card-behind f c

before_last : (f : List Card) (c : Card) → take (length (f ++ (c ∷ [])) - 1) (f ++ (c ∷ [])) ≡ f
before_last f c = ap (λ n. take n (f ++ (c ∷ []))) (last-place f c) ∙ take-append_seam f (c ∷ [])

module _ (f : List Card) (c : Card) (sent reply : List ℕ) where
  -- c is the card added last
  abbrev field_with : List Card
  field_with = f ++ (with_reply c sent reply ∷ [])

  -- the arguments that 4 asks for
  pub record ReplyArgument : Type 0 where
    pub fresh : is_stated (reply_to c.replies sent) ≡ false
    pub crc : crc_fits (is_type2_card c) reply ≡ true

  record Tests : Type 0 where
    pub argument : ReplyArgument
    pub short : length reply ≤ longest_reply
    pub sendable : length sent ≤ data_limit
    pub few : length c.replies < reply_limit c.kind

  abbrev tested : (a b d e h : Bool) → Added
  tested a b d e h =
      pick a (refuses BadArgument) (pick b (pick d (pick e (pick h (added field_with) (refuses OverLong)) (refuses OverLong)) (refuses OverLong)) (refuses BadArgument))

  as-tested : add_reply (f ++ (c ∷ [])) sent reply
      ≡ tested (is_stated (reply_to c.replies sent)) (crc_fits (is_type2_card c) reply) (leb (length reply) longest_reply) (leb (length sent) data_limit)
      (ltb (length c.replies) (reply_limit c.kind))
  unfolding add_reply_to
  as-tested = rw (last-card f c, before_last f c)

  -- it is refused, or the card added last has it behind its others
  pub reply_outcomes : ((e : Refusal) × (add_reply (f ++ (c ∷ [])) sent reply ≡ refuses e)) ⊎ (add_reply (f ++ (c ∷ [])) sent reply ≡ added (f ++ (with_reply c sent reply ∷ [])))
  unfolding pick
  reply_outcomes =
      subst (λ (x : Added). ((e : Refusal) × (x ≡ refuses e)) ⊎ (x ≡ added field_with)) (sym as-tested)
      (go (is_stated (reply_to c.replies sent)) (crc_fits (is_type2_card c) reply) (leb (length reply) longest_reply) (leb (length sent) data_limit) (ltb (length c.replies) (reply_limit c.kind)))
    where
      go : (a b d e h : Bool) → ((x : Refusal) × (tested a b d e h ≡ refuses x)) ⊎ (tested a b d e h ≡ added field_with)
      go true b d e h = inl (BadArgument, refl)
      go false true true true true = inr refl
      go false true true true false = inl (OverLong, refl)
      go false true true false h = inl (OverLong, refl)
      go false true false e h = inl (OverLong, refl)
      go false false d e h = inl (BadArgument, refl)

  tests-pass : add_reply (f ++ (c ∷ [])) sent reply ≡ added field_with → Tests
  unfolding pick
  tests-pass z =
      go (is_stated (reply_to c.replies sent)) (crc_fits (is_type2_card c) reply) (leb (length reply) longest_reply) (leb (length sent) data_limit) (ltb (length c.replies) (reply_limit c.kind))
      refl refl refl refl refl (sym as-tested ∙ z)
    where
      go : (a b d e h : Bool) → is_stated (reply_to c.replies sent) ≡ a → crc_fits (is_type2_card c) reply ≡ b → leb (length reply) longest_reply ≡ d → leb (length sent) data_limit ≡ e
          → ltb (length c.replies) (reply_limit c.kind) ≡ h → tested a b d e h ≡ added field_with → Tests
      go true b d e h p q u v x y = absurd (not_four field_with y)
      go false true true true true p q u v x y =
          record {
            argument = record { fresh = p; crc = q };
            short = leb-true (length reply) longest_reply u;
            sendable = leb-true (length sent) data_limit v;
            few = ltb-true (length c.replies) (reply_limit c.kind) x;
          }
      go false true true true false p q u v x y = absurd (not_three field_with y)
      go false true true false h p q u v x y = absurd (not_three field_with y)
      go false true false e h p q u v x y = absurd (not_three field_with y)
      go false false d e h p q u v x y = absurd (not_four field_with y)

  passed : Tests → add_reply (f ++ (c ∷ [])) sent reply ≡ added field_with
  unfolding pick
  passed t =
      as-tested
      ∙ rw (
        t.argument.fresh,
        t.argument.crc,
        le-leb (length reply) longest_reply t.short,
        le-leb (length sent) data_limit t.sendable,
        lt-ltb (length c.replies) (reply_limit c.kind) t.few,
      )
      refl

  pub four_exactly : (add_reply (f ++ (c ∷ [])) sent reply ≡ refuses BadArgument) ↔ (ReplyArgument → ⊥)
  unfolding pick
  four_exactly = (there, back)
    where
      there : add_reply (f ++ (c ∷ [])) sent reply ≡ refuses BadArgument → ReplyArgument → ⊥
      there e t =
          later-pick (leb (length reply) longest_reply) _
          (later-pick (leb (length sent) data_limit) _ (later-pick (ltb (length c.replies) (reply_limit c.kind)) (added field_with) (later-added field_with)))
          (rw (t.fresh, t.crc) at (sym as-tested ∙ e))

      go : (a b : Bool) (z : Added) → is_stated (reply_to c.replies sent) ≡ a → crc_fits (is_type2_card c) reply ≡ b → (ReplyArgument → ⊥)
          → pick a (refuses BadArgument) (pick b z (refuses BadArgument)) ≡ refuses BadArgument
      go true b z p q n = refl
      go false true z p q n = absurd (n record { fresh = p; crc = q })
      go false false z p q n = refl

      back : (ReplyArgument → ⊥) → add_reply (f ++ (c ∷ [])) sent reply ≡ refuses BadArgument
      back n =
          as-tested
          ∙ go (is_stated (reply_to c.replies sent)) (crc_fits (is_type2_card c) reply)
          (pick (leb (length reply) longest_reply) (pick (leb (length sent) data_limit) (pick (ltb (length c.replies) (reply_limit c.kind)) (added field_with) (refuses OverLong)) (refuses OverLong)) (refuses OverLong))
          refl refl n

  module _ (allowed : FieldAllowed (f ++ (c ∷ []))) (bytes : Bytes reply) where
    same_length : length field_with ≡ length (f ++ (c ∷ []))
    same_length = length-append f (with_reply c sent reply ∷ []) ∙ sym (length-append f (c ∷ []))

    -- a reply is added exactly where the field with it is allowed
    pub reply_exactly : (add_reply (f ++ (c ∷ [])) sent reply ≡ added field_with) ↔ FieldAllowed field_with
    reply_exactly = (there, back)
      where
        there : add_reply (f ++ (c ∷ [])) sent reply ≡ added field_with → FieldAllowed field_with
        there e =
            let t = tests-pass e in
            let h = last-allowed f c allowed.1 in (
              omega (arith, same_length, allowed.0),
              cards_append f (with_reply c sent reply) (before-allowed f c allowed.1)
                  record {
                    fits =
                        record {
                          bytes = h.fits.bytes;
                          long = h.fits.long;
                          short = h.fits.short;
                          protocol = h.fits.protocol;
                          wakes = still-wakes sent reply c.kind c.replies h.fits.wakes;
                          replies = replies-append sent reply (is_type2_card c) c.replies h.fits.replies record { bytes = bytes; short = t.short; crc = t.argument.crc };
                        };
                    bitrate = h.bitrate;
                    few = omega (arith, length-append c.replies (stated sent reply ∷ []), t.few);
                    replies = allowed-append sent reply c.replies h.replies t.sendable t.argument.fresh;
                  },
            )

        back : FieldAllowed field_with → add_reply (f ++ (c ∷ [])) sent reply ≡ added field_with
        back g =
            let h = last-allowed f (with_reply c sent reply) g.1 in
            let r = last_fits sent reply (is_type2_card c) c.replies h.fits.replies in
            let a = allowed-last sent reply c.replies h.replies in
            passed
            record {
              argument = record { fresh = a.1; crc = r.crc };
              short = r.short;
              sendable = a.0;
              few = omega (arith, length-append c.replies (stated sent reply ∷ []), h.few);
            }

-- without a card there is none that it could be added to
pub no_card : (sent reply : List ℕ) → add_reply [] sent reply ≡ refuses BadArgument
unfolding add_reply_to
no_card sent reply = refl

-- ---- a field that is allowed fits

pub allowed-fits : (f : List Card) → CardsAllowed f → FieldFits f
allowed-fits [] h = tt
allowed-fits (c ∷ cs) h = (h.0.fits, allowed-fits cs h.1)
