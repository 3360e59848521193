-- What a step on the memory means: the step of the definitions' chip, and a chip that stays in range.
use Rattle.std.specs.Prelude.{◌≡◌, Some, None, Ok, Err, refl, Bool, eqb, length, take, drop, get_or}
use Rattle.std.proofs.Math.Path.{sym, ap}
use Rattle.std.proofs.Common.{ap₂, ◌∙◌, arith}
use Rattle.std.proofs.Math.Bool.{true, false}
use mathlib.Core.List.{List, [], ◌∷◌}
use Rattle.std.proofs.Math.Option.{Option, none, some}
use Prim.Native.Nat.{ℕ, zero, suc, ◌+◌, ◌≤◌}
use borrow.Author.Tests.{le-ltb, le-leb}
use Rattle.std.proofs.Math.Seq.{take-append_seam}
use Rattle.errors.specs.Choice.{pick}
use Rattle.framing.specs.Frames.{ack}
use Rattle.protocol.specs.Calls.{reset_mode_code, rf_configuration_code, in_list_passive_target_code, in_jump_for_dep_code}
use Rattle.chip_protocol.specs.Names.{longest_packet, most_cards, br_ty_offset, initiator_offset, type_a_initiator, type_b_initiator, type_f_initiator}
use Rattle.chip_protocol.specs.Packets.{Received, received, no_command, received_in, response_packet}
use Rattle.chip_protocol.specs.Field.{Card, is_at}
use Rattle.chip_protocol.specs.Chip.{ChipState, with_found_of, first_from, searched, listed_place, partner_place, response_to, field_on_after, state_after, step_for, chip_step}
use Rattle.simulated_chip.specs.Counted.{length_from}
use Rattle.simulated_chip.specs.Memory.{stored_card, place_in, place_number, bit, state_in, numbers_of}
use Rattle.simulated_chip.specs.Range.{in_range}
use Rattle.simulated_chip.specs.RangeLaws.{in_range_lem}
use Rattle.simulated_chip.specs.Steps.{Answer, AfterStep, command_step, received_step, step_in}
use Rattle.chip_protocol.specs.declared.Kind.{Kind}
use Rattle.chip_protocol.specs.declared.Kind.TheVariants.{TypeA, TypeB, TypeF, Dep}
use Rattle.simulated_chip.specs.declared.chip.State.{State}

-- the packets that an answer stands for, with the buffer beside it
abbrev pub packets_in : Answer → List ℕ → List (List ℕ)
packets_in (Ok None) b = []
packets_in (Ok (Some n)) b = ack ∷ take n b ∷ []
packets_in (Err e) b = []

-- ---- places that a search finds

first_within : (k : Kind) (code n : ℕ) (f : List Card) → place_number (first_from n k code f) ≤ n + length f
unfolding first_from pick
first_within k code n [] = omega arith
first_within k code n (c ∷ cs) = go (is_at k code c) (first_within k code (suc n) cs)
  where
    go : (t : Bool) → place_number (first_from (suc n) k code cs) ≤ suc n + length cs → place_number (pick t (some n) (first_from (suc n) k code cs)) ≤ n + suc (length cs)
    go true h = omega arith
    go false h = omega arith

either_way : {X : Type 0} (P : X → Type 0) (t : Bool) (x y : X) → P x → P y → P (pick t x y)
unfolding pick
either_way P true x y h k = h
either_way P false x y h k = k

listed_within : (f : List Card) (bytes : List ℕ) → place_number (listed_place f bytes) ≤ length f
unfolding searched
listed_within f bytes =
    let code : ℕ = get_or bytes br_ty_offset 0 in
    let n : ℕ = length (drop initiator_offset bytes) in
    let P : Option ℕ → Type 0 = λ (o : Option ℕ). place_number o ≤ length f in
    either_way P (eqb n type_a_initiator) _ _ (omega (arith, first_within TypeA code 0 f))
    (either_way P (eqb n type_b_initiator) _ _ (omega (arith, first_within TypeB code 0 f))
    (either_way P (eqb n type_f_initiator) _ _ (omega (arith, first_within TypeF code 0 f)) (omega arith)))

-- ---- the numbers of a state are read back

place-number : (o : Option ℕ) → place_in (place_number o) ≡ o
place-number none = refl
place-number (some n) = refl

bit-number : (t : Bool) → eqb (bit t) 1 ≡ t
bit-number true = refl
bit-number false = refl

bit-most : (t : Bool) → bit t ≤ 1
bit-most true = omega arith
bit-most false = omega arith

number-place : (n : ℕ) → place_number (place_in n) ≡ n
number-place zero = refl
number-place (suc n) = refl

module _ (s : State) (cards sent replies : List ℕ) (ranged : in_range s cards sent replies ≡ true) where
  abbrev before : ChipState
  before = state_in s cards sent replies

  -- a state whose numbers are read back, and are in range
  pub record Kept (x : ChipState) : Type 0 where
    pub read : state_in (numbers_of s.count x) cards sent replies ≡ x
    pub found : place_number x.found ≤ s.count

  kept_with_lem : (o : Option ℕ) (on : Bool) → place_number o ≤ s.count → Kept (with_found_of before o on)
  kept_with_lem o on h =
      record {
        read = ap₂ (λ (p : Option ℕ) (t : Bool). with_found_of before p t) (place-number o) (bit-number on);
        found = h;
      }

  kept-before : Kept before
  kept-before =
      record {
        read = ap₂ (λ (p : Option ℕ) (t : Bool). with_found_of before p t) (place-number (place_in s.found)) (bit-number (eqb s.on 1));
        found = rw (number-place s.found) (in_range_lem s cards sent replies ranged).numbers.found;
      }

  pub kept-after : (code : ℕ) (bytes : List ℕ) → Kept (state_after before code bytes)
  unfolding state_after
  kept-after code bytes =
      let n = length_from (λ (i : ℕ). stored_card i cards sent replies) s.count 0 in
      either_way Kept (eqb code reset_mode_code) _ _ (kept_with_lem none false (omega arith))
      (either_way Kept (eqb code rf_configuration_code) _ _ (kept_with_lem (place_in s.found) (field_on_after (eqb s.on 1) bytes) kept-before.found)
      (either_way Kept (eqb code in_list_passive_target_code) _ _ (kept_with_lem (listed_place before.field bytes) true (omega (arith, listed_within before.field bytes)))
      (either_way Kept (eqb code in_jump_for_dep_code) _ _ (kept_with_lem (partner_place before.field bytes) true (omega (arith, first_within Dep (get_or bytes br_ty_offset 0) 0 before.field))) kept-before)))

  range-kept : (x : ChipState) → place_number x.found ≤ s.count → in_range (numbers_of s.count x) cards sent replies ≡ true
  unfolding in_range pick
  range-kept x h =
      let r = in_range_lem s cards sent replies ranged in
      rw (
        le-leb s.count most_cards r.numbers.count,
        le-leb (place_number x.found) s.count h,
        le-leb (bit x.is_rf_field_on) 1 (bit-most x.is_rf_field_on),
        r.numbers.cards_fit,
        r.sent_fit,
      )
      r.replies_fit

  -- the chip after a step, what it sends, and that it is in range again
  pub record Means (x : AfterStep) (written : List ℕ) : Type 0 where
    pub state : state_in x.state cards sent replies ≡ (chip_step before written).state
    pub packets : packets_in x.answer x.buffer ≡ (chip_step before written).packets
    pub inside : in_range x.state cards sent replies ≡ true

  pub step_means : (written b : List ℕ) → longest_packet ≤ length b → Means (step_in s cards sent replies written b) written
  unfolding step_in chip_step command_step pick
  step_means written b room = rw (le-ltb (length b) longest_packet room, ranged) (go (received_in written) refl)
    where
      go : (x : Received) → received_in written ≡ x → Means (received_step s cards sent replies x b) written
      go (received code bytes) e =
          let k = kept-after code bytes in
          let p : List ℕ = response_packet code (response_to before code bytes) in
          record {
            state = k.read ∙ sym (ap (λ (x : Received). (step_for before x).state) e);
            packets = ap (λ (l : List ℕ). ack ∷ l ∷ []) (take-append_seam p (drop (length p) b)) ∙ sym (ap (λ (x : Received). (step_for before x).packets) e);
            inside = range-kept (state_after before code bytes) k.found;
          }
      go no_command e =
          record {
            state = sym (ap (λ (x : Received). (step_for before x).state) e);
            packets = sym (ap (λ (x : Received). (step_for before x).packets) e);
            inside = ranged;
          }
