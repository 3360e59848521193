-- A chip that the code's own functions filled: from its start, after any cards, replies and steps, whether taken or refused, its memory is in range and its field allowed. So N10's sentences
-- are of it, as a chip of ChipCode.antt.
use Rattle.std.specs.Prelude.{◌≡◌, refl, Bool, true, false, List, [], ◌∷◌, ◌++◌, ◌⊎◌, ℕ, ◌*◌, eqb, ltb, length}
use Rattle.std.proofs.Common.{sym, ap, ◌∙◌, subst, inl, inr, arith, ltb-false}
use Rattle.std.proofs.Math.Option.{none}
use Rattle.errors.specs.Choice.{pick}
use Rattle.errors.specs.declared.Refusal.{Refusal}
use Rattle.errors.specs.declared.Refusal.TheVariants.{BadArgument}
use Rattle.framing.specs.Lists.{Bytes}
use Rattle.targets.specs.declared.Bitrate.{Bitrate}
use Rattle.protocol.specs.Calls.{reset_mode_code, rf_configuration_code, in_list_passive_target_code, in_jump_for_dep_code}
use Rattle.chip_protocol.specs.Names.{longest_packet, most_cards}
use Rattle.chip_protocol.specs.Packets.{Received, received, no_command, received_in}
use Rattle.chip_protocol.specs.Field.{Card, FieldFits, FieldAllowed}
use Rattle.chip_protocol.specs.Chip.{ChipState, with_found_of, listed_place, partner_place, field_on_after, state_after, step_for, chip_step}
use Rattle.chip_protocol.specs.Add.{Added as Outcome, added, refuses, new_card, add_card, with_reply, add_reply}
use Rattle.chip_protocol.specs.Allowed.{card_outcomes, card_exactly}
use Rattle.chip_protocol.proofs.AllowedReplies.{reply_outcomes, reply_exactly, no_card, allowed-fits}
use Rattle.chip_protocol.proofs.Fits.{by_pick}
use Rattle.chip_protocol.specs.declared.Kind.{Kind}
use Rattle.simulated_chip.specs.Memory.{card_size, sent_size, reply_size, places, chip_state}
use Rattle.simulated_chip.specs.Range.{in_range}
use Rattle.simulated_chip.specs.Additions.{add_card_of, add_reply_of}
use Rattle.simulated_chip.specs.AddMeaning.{field_after, card_means, reply_means}
use Rattle.simulated_chip.specs.FreshMeaning.{fresh_in_range, fresh_means, zeros-length}
use Rattle.simulated_chip.specs.Steps.{fresh_chip_memory, step_in, step_of}
use Rattle.simulated_chip.specs.StepMeaning.{step_means}
use Rattle.simulated_chip.specs.declared.chip.Chip.{Chip as Memory}
use Rattle.chip_channel.specs.ChipCode.{CodeState}

-- ---- what is done with a chip

pub data Operation : Type 0 where
  adds_card : Kind → Bitrate → (list_data wake_up : List ℕ) → Operation
  adds_reply : (bytes reply : List ℕ) → Operation
  steps : (written buffer : List ℕ) → Operation

-- what is added is bytes; a step takes anything, and any buffer
abbrev pub Given : Operation → Type 0
Given (adds_card k r l w) = Bytes l × Bytes w
Given (adds_reply bytes reply) = Bytes reply
Given (steps written buffer) = Unit {0}

abbrev pub AllGiven : List Operation → Type 0
AllGiven [] = Unit {0}
AllGiven (o ∷ os) = Given o × AllGiven os

-- by the code's functions
abbrev pub after : Memory → Operation → Memory
after c (adds_card k r l w) = (add_card_of c k r l w).chip
after c (adds_reply bytes reply) = (add_reply_of c bytes reply).chip
after c (steps written buffer) = (step_of c written buffer).step.chip

abbrev pub after_all : Memory → List Operation → Memory
after_all c [] = c
after_all c (o ∷ os) = after_all (after c o) os

-- ---- the field after an addition, taken or refused

card_keeps : (f : List Card) (k : Kind) (r : Bitrate) (l w : List ℕ) → FieldAllowed f → Bytes l → Bytes w → FieldAllowed (field_after f (add_card f k r l w))
card_keeps f k r l w h bl bw = go (card_outcomes f k r l w)
  where
    go : ((e : Refusal) × (add_card f k r l w ≡ refuses e)) ⊎ (add_card f k r l w ≡ added (f ++ (new_card k r l w ∷ []))) → FieldAllowed (field_after f (add_card f k r l w))
    go (inl x) = subst (λ (o : Outcome). FieldAllowed (field_after f o)) (sym x.1) h
    go (inr x) = subst (λ (o : Outcome). FieldAllowed (field_after f o)) (sym x) ((card_exactly f k r l w h bl bw).0 x)

record Ended (f : List Card) : Type 0 where
  pub before : List Card
  pub last : Card
  pub whole : f ≡ before ++ (last ∷ [])

ended : (f : List Card) → (f ≡ []) ⊎ Ended f
ended [] = inl refl
ended (c ∷ cs) = go (ended cs)
  where
    go : (cs ≡ []) ⊎ Ended cs → (c ∷ cs ≡ []) ⊎ Ended (c ∷ cs)
    go (inl e) = inr record { before = []; last = c; whole = ap (λ (l : List Card). c ∷ l) e }
    go (inr e) = inr record { before = c ∷ e.before; last = e.last; whole = ap (λ (l : List Card). c ∷ l) e.whole }

reply_keeps : (f : List Card) (bytes r : List ℕ) → FieldAllowed f → Bytes r → FieldAllowed (field_after f (add_reply f bytes r))
reply_keeps f bytes r h b = go (ended f)
  where
    by-refusal : (e : Refusal) → add_reply f bytes r ≡ refuses e → FieldAllowed (field_after f (add_reply f bytes r))
    by-refusal e p = subst (λ (o : Outcome). FieldAllowed (field_after f o)) (sym p) h

    with-last : (x : Ended f) → ((e : Refusal) × (add_reply (x.before ++ (x.last ∷ [])) bytes r ≡ refuses e)) ⊎ (add_reply (x.before ++ (x.last ∷ [])) bytes r ≡ added (x.before ++ (with_reply x.last bytes r ∷ [])))
        → FieldAllowed (field_after f (add_reply f bytes r))
    with-last x (inl y) = by-refusal y.0 (ap (λ (g : List Card). add_reply g bytes r) x.whole ∙ y.1)
    with-last x (inr y) =
        subst (λ (o : Outcome). FieldAllowed (field_after f o)) (sym (ap (λ (g : List Card). add_reply g bytes r) x.whole ∙ y))
        ((reply_exactly x.before x.last bytes r (subst FieldAllowed x.whole h) b).0 y)

    go : (f ≡ []) ⊎ Ended f → FieldAllowed (field_after f (add_reply f bytes r))
    go (inl e) = by-refusal BadArgument (ap (λ (g : List Card). add_reply g bytes r) e ∙ no_card bytes r)
    go (inr x) = with-last x (reply_outcomes x.before x.last bytes r)

-- ---- a step leaves the field

field-after : (s : ChipState) (code : ℕ) (bytes : List ℕ) → (state_after s code bytes).field ≡ s.field
unfolding state_after
field-after s code bytes =
    let P : ChipState → Type 0 = λ (t : ChipState). t.field ≡ s.field in
    by_pick P (eqb code reset_mode_code) (with_found_of s none false) _ refl
    (by_pick P (eqb code rf_configuration_code) (with_found_of s s.found (field_on_after s.is_rf_field_on bytes)) _ refl
    (by_pick P (eqb code in_list_passive_target_code) (with_found_of s (listed_place s.field bytes) true) _ refl
    (by_pick P (eqb code in_jump_for_dep_code) (with_found_of s (partner_place s.field bytes) true) s refl refl)))

field_stays : (s : ChipState) (written : List ℕ) → (chip_step s written).state.field ≡ s.field
unfolding chip_step
field_stays s written = go (received_in written)
  where
    go : (x : Received) → (step_for s x).state.field ≡ s.field
    go (received code bytes) = field-after s code bytes
    go no_command = refl

-- ---- the chip after each

pub record Filled (c : Memory) : Type 0 where
  pub range : in_range c.state c.cards c.sent c.replies ≡ true
  pub cards_size : length c.cards ≡ most_cards * card_size
  pub sent_bytes : length c.sent ≡ places * sent_size
  pub reply_bytes : length c.replies ≡ places * reply_size
  pub allowed : FieldAllowed (chip_state c).field

-- a short buffer is refused, and changes nothing
filled_step : (c : Memory) (written buffer : List ℕ) → Filled c → Filled (after c (steps written buffer))
unfolding step_of step_in pick
filled_step c written buffer h = go (ltb (length buffer) longest_packet) refl
  where
    go : (t : Bool) → ltb (length buffer) longest_packet ≡ t → Filled (after c (steps written buffer))
    go true e = rw e h
    go false e =
        let m = step_means c.state c.cards c.sent c.replies h.range written buffer (ltb-false (length buffer) longest_packet e) in
        record {
          range = m.inside;
          cards_size = h.cards_size;
          sent_bytes = h.sent_bytes;
          reply_bytes = h.reply_bytes;
          allowed = subst FieldAllowed (sym (ap (λ (s : ChipState). s.field) m.state ∙ field_stays (chip_state c) written)) h.allowed;
        }

filled_after : (c : Memory) (o : Operation) → Filled c → Given o → Filled (after c o)
unfolding add_card_of add_reply_of step_of
filled_after c (adds_card k r l w) h g =
    let m = card_means c.state c.cards c.sent c.replies h.cards_size h.sent_bytes h.reply_bytes h.range k r l w in
    record {
      range = m.inside;
      cards_size = m.cards_size ∙ h.cards_size;
      sent_bytes = m.sent_size ∙ h.sent_bytes;
      reply_bytes = m.replies_size ∙ h.reply_bytes;
      allowed = subst FieldAllowed (sym (ap (λ (s : ChipState). s.field) m.state)) (card_keeps (chip_state c).field k r l w h.allowed g.0 g.1);
    }
filled_after c (adds_reply bytes reply) h g =
    let m = reply_means c.state c.cards c.sent c.replies h.cards_size h.sent_bytes h.reply_bytes h.range bytes reply in
    record {
      range = m.inside;
      cards_size = m.cards_size ∙ h.cards_size;
      sent_bytes = m.sent_size ∙ h.sent_bytes;
      reply_bytes = m.replies_size ∙ h.reply_bytes;
      allowed = subst FieldAllowed (sym (ap (λ (s : ChipState). s.field) m.state)) (reply_keeps (chip_state c).field bytes reply h.allowed g);
    }
filled_after c (steps written buffer) h g = filled_step c written buffer h

fresh_filled : Filled fresh_chip_memory
fresh_filled =
    record {
      range = fresh_in_range;
      cards_size = zeros-length (most_cards * card_size);
      sent_bytes = zeros-length (places * sent_size);
      reply_bytes = zeros-length (places * reply_size);
      allowed = subst FieldAllowed (sym (ap (λ (s : ChipState). s.field) fresh_means)) (omega arith, tt);
    }

pub filled : (os : List Operation) (c : Memory) → Filled c → AllGiven os → Filled (after_all c os)
filled [] c h g = h
filled (o ∷ os) c h g = filled os (after c o) (filled_after c o h g.0) g.1

-- from the start: a chip of ChipCode.antt, whose field fits
pub record FromFresh (os : List Operation) : Type 0 where
  pub chip : CodeState
  pub is : chip.memory ≡ after_all fresh_chip_memory os
  pub fits : FieldFits (chip_state chip.memory).field

pub from-fresh : (os : List Operation) → AllGiven os → FromFresh os
from-fresh os g =
    let h = filled os fresh_chip_memory fresh_filled g in
    record { chip = record { memory = after_all fresh_chip_memory os; range = h.range }; is = refl; fits = allowed-fits (chip_state (after_all fresh_chip_memory os)).field h.allowed.1 }
