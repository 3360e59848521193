-- Laws of memory with a card or a reply more.
use Rattle.std.specs.Prelude.{◌≡◌, Ok, Err, Bool, true, false, ℕ, ◌+◌, ◌*◌, ◌-◌, get_or, set}
use Rattle.std.proofs.Math.Path.{ap, ap₂}
use Rattle.std.proofs.Common.{◌∙◌}
use mathlib.Core.List.{List}
use Rattle.errors.specs.Choice.{pick}
use Rattle.errors.specs.declared.Refusal.{Refusal}
use Rattle.errors.specs.declared.Refusal.TheVariants.{OutOfTurn}
use Rattle.targets.specs.declared.Bitrate.{Bitrate}
use Rattle.chip_protocol.specs.Field.{kind_number, br_ty}
use Rattle.chip_protocol.specs.Add.{add_card, add_reply}
use Rattle.simulated_chip.specs.Memory.{card_size, sent_size, reply_size, card_replies, reply_count_place, put_text, field_in}
use Rattle.simulated_chip.specs.Range.{chip_in_range}
use Rattle.simulated_chip.specs.Additions.{Addition, addition_in, put_card_of, first_count, first_sent, first_reply, after_addition, after_with, by_addition, refused_with, card_put, add_card_in, reply_put, add_reply_in, added_by, chip_added, add_card_of, add_reply_of}
use Rattle.chip_protocol.specs.declared.Kind.{Kind}
use Rattle.simulated_chip.specs.declared.chip.State.{State}
use Rattle.simulated_chip.specs.declared.chip.Chip.{Chip}

module _ (s : State) (cards sent replies : List ℕ) where
  pub card-put : (k : Kind) (r : Bitrate) (l w : List ℕ) (kind code n : ℕ) (c₁ t₁ r₁ : List ℕ) → kind ≡ kind_number k → code ≡ br_ty r
      → (n ≡ first_count k) × (t₁ ≡ first_sent k (card_replies * s.count) sent) × (r₁ ≡ first_reply k (card_replies * s.count) w replies)
      → c₁ ≡ put_card_of (card_size * s.count) kind code n l cards
      → after_addition (record { count = s.count + 1; found = s.found; on = s.on }) c₁ t₁ r₁ (Ok tt) ≡ card_put s cards sent replies k r l w
  unfolding card_put
  card-put k r l w kind code n c₁ t₁ r₁ p q f e =
      ap₂ (λ (x y : List ℕ). after_addition (record { count = s.count + 1; found = s.found; on = s.on }) c₁ x y (Ok tt)) f.1 f.2
      ∙ ap (λ (x : List ℕ). after_addition (record { count = s.count + 1; found = s.found; on = s.on }) x (first_sent k (card_replies * s.count) sent) (first_reply k (card_replies * s.count) w replies) (Ok tt))
      (e ∙ ap₂ (λ (i j : ℕ). put_card_of (card_size * s.count) i j n l cards) p q ∙ ap (λ (i : ℕ). put_card_of (card_size * s.count) (kind_number k) (br_ty r) i l cards) f.0)

  pub reply-put : (bytes reply : List ℕ) (n place : ℕ) (t₁ r₁ : List ℕ) → n ≡ get_or cards (card_size * (s.count - 1) + reply_count_place) 0
      → t₁ ≡ put_text (sent_size * (card_replies * (s.count - 1) + n)) bytes sent → r₁ ≡ put_text (reply_size * (card_replies * (s.count - 1) + n)) reply replies
      → after_addition s (set cards (card_size * (s.count - 1) + reply_count_place) (get_or cards (card_size * (s.count - 1) + reply_count_place) 0 + 1)) t₁ r₁ (Ok tt) ≡ reply_put s cards sent replies bytes reply
  unfolding reply_put
  reply-put bytes reply n place t₁ r₁ c p q =
      ap₂ (λ (x y : List ℕ). after_addition s (set cards (card_size * (s.count - 1) + reply_count_place) (get_or cards (card_size * (s.count - 1) + reply_count_place) 0 + 1)) x y (Ok tt))
      (p ∙ ap (λ (k : ℕ). put_text (sent_size * (card_replies * (s.count - 1) + k)) bytes sent) c)
      (q ∙ ap (λ (k : ℕ). put_text (reply_size * (card_replies * (s.count - 1) + k)) reply replies) c)

-- ---- by the tests

module _ (c : Chip) (k : Kind) (r : Bitrate) (l w : List ℕ) where
  pub card_out_of_range : (t : Bool) → t ≡ chip_in_range c → t ≡ false → added_by c (Err OutOfTurn) ≡ add_card_of c k r l w
  unfolding add_card_of add_card_in pick
  card_out_of_range t e h = rw (← e, h)

  module _ (t : Bool) (is : t ≡ chip_in_range c) (ranged : t ≡ true) (x : Addition) (admitted : x ≡ addition_in (add_card (field_in c) k r l w)) where
    by-card : chip_added (by_addition (card_put c.state c.cards c.sent c.replies k r l w) (refused_with c.state c.cards c.sent c.replies) x) ≡ add_card_of c k r l w
    unfolding add_card_of add_card_in pick
    by-card = rw (← is, ranged, ← admitted)

    pub card-added : (d : Chip) (u : Unit {0}) → x ≡ Ok u → after_with d (Ok tt) ≡ card_put c.state c.cards c.sent c.replies k r l w → added_by d (Ok tt) ≡ add_card_of c k r l w
    card-added d u e q = ap chip_added q ∙ (rw e at by-card)

    pub card_refused : (e : Refusal) (y : Addition) → x ≡ Err e → y ≡ Err e → added_by c y ≡ add_card_of c k r l w
    card_refused e y h q = ap (added_by c) q ∙ (rw h at by-card)

module _ (c : Chip) (bytes reply : List ℕ) where
  pub reply_out_of_range : chip_in_range c ≡ false → added_by c (Err OutOfTurn) ≡ add_reply_of c bytes reply
  unfolding add_reply_of add_reply_in pick
  reply_out_of_range h = rw h

  module _ (ranged : chip_in_range c ≡ true) (x : Addition) (admitted : x ≡ addition_in (add_reply (field_in c) bytes reply)) where
    by-reply : chip_added (by_addition (reply_put c.state c.cards c.sent c.replies bytes reply) (refused_with c.state c.cards c.sent c.replies) x) ≡ add_reply_of c bytes reply
    unfolding add_reply_of add_reply_in pick
    by-reply = rw (ranged, ← admitted)

    pub reply-added : (d : Chip) (u : Unit {0}) → x ≡ Ok u → after_with d (Ok tt) ≡ reply_put c.state c.cards c.sent c.replies bytes reply → added_by d (Ok tt) ≡ add_reply_of c bytes reply
    reply-added d u e q = ap chip_added q ∙ (rw e at by-reply)

    pub reply_refused : (e : Refusal) (y : Addition) → x ≡ Err e → y ≡ Err e → added_by c y ≡ add_reply_of c bytes reply
    reply_refused e y h q = ap (added_by c) q ∙ (rw h at by-reply)
