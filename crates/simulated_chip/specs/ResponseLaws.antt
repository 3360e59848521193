-- Laws of responses that are put.
use Rattle.std.specs.Prelude.{◌≡◌, refl, Bool, List, [], ◌∷◌, ◌++◌, map, ℕ, zero, suc, ◌+◌, ◌*◌, ◌/◌, ◌-◌, ◌≤◌, ◌<◌, length, drop, get_or, set}
use Rattle.std.proofs.Common.{sym, subst, ap, ap₂, ◌∙◌, append_assoc, append-nil, arith, length-append, length-drop, take_at, take-suc-set, drop-cons, add-one}
use Rattle.std.proofs.Math.Option.{Option, none, some}
use Rattle.std.proofs.Math.ListN.{take}
use Rattle.std.proofs.Math.Seq.{take-length, append_snoc}
use borrow.Rule.Slice.PartMut.{put_mid}
use Rattle.framing.specs.Copied.{copied}
use Rattle.protocol.specs.Arguments.{words_in}
use Rattle.protocol.specs.Names.{target_number, timeout_status}
use Rattle.chip_protocol.specs.Names.{success_status}
use Rattle.simulated_chip.specs.Counted.{list_from}
use Rattle.chip_protocol.specs.Packets.{responds}
use Rattle.chip_protocol.specs.Field.{Card, reply_to}
use Rattle.chip_protocol.specs.Chip.{card_in, card_at, exchanged, exchanged_with, register_value_of}
use Rattle.simulated_chip.specs.Memory.{card_size, list_data_place, text_at_of, stored_card, field_in, card_replies_in, place_in}
use Rattle.simulated_chip.specs.Responses.{ResponseSize, Puts, listed_or}
use Rattle.simulated_chip.specs.declared.chip.Chip.{Chip}

-- two lists put one behind the other
pub put_two : (head rest out out₁ part : List ℕ) → length head + length rest ≤ length out → out₁ ≡ take (length head) head ++ drop (length head) out
    → part ≡ take (length rest) rest ++ drop (length rest) (take (length out₁ - length head) (drop (length head) out₁))
    → take (length head + length rest) (put_mid (length head) (length out₁ - length head) out₁ part) ≡ head ++ rest
put_two head rest out out₁ part room e p =
    let whole : out₁ ≡ head ++ drop (length head) out = e ∙ ap (λ (l : List ℕ). l ++ drop (length head) out) (take-length head) in
    let long : length out₁ ≡ length out = ap length whole ∙ length-append head (drop (length head) out) ∙ rw (length-drop (length head) out) (omega arith) in
    let front : take (length head) out₁ ≡ head = ap (take (length head)) whole ∙ take_at head (drop (length head) out) (length head) refl in
    let both : length (head ++ rest) ≡ length head + length rest = length-append head rest in
    ap (take (length head + length rest)) (copied out₁ rest (length head) (omega arith) part p
    ∙ ap (λ (l : List ℕ). l ++ (rest ++ drop (length head + length rest) out₁)) front
    ∙ sym (append_assoc head rest (drop (length head + length rest) out₁)))
    ∙ take_at (head ++ rest) (drop (length head + length rest) out₁) (length head + length rest) both

-- ---- registers

words_next : (b : List ℕ) (n : ℕ) → n + 1 < length b → words_in (drop n b) ≡ (256 * get_or b n 0 + get_or b (n + 1) 0) ∷ words_in (drop (n + 2) b)
words_next b n h = ap words_in (drop-cons b n 0 (omega arith) ∙ ap (λ (l : List ℕ). get_or b n 0 ∷ l) (drop-cons b (suc n) 0 (omega arith)))
    ∙ ap₂ (λ (i j : ℕ). (256 * get_or b n 0 + get_or b i 0) ∷ words_in (drop j b)) (one n) (two n)
  where
    one : (n : ℕ) → suc n ≡ n + 1
    one n = omega arith

    two : (n : ℕ) → suc (suc n) ≡ n + 2
    two n = omega arith

words_end : (b : List ℕ) → length b < 2 → words_in b ≡ []
words_end [] h = refl
words_end (x ∷ []) h = refl
words_end (x ∷ y ∷ b) h = absurd (omega arith)

module _ (on : Bool) (b : List ℕ) where
  -- i registers are read, and what is left
  abbrev pub read_so_far : ℕ → List ℕ → List ℕ
  read_so_far i out = take i out ++ map (register_value_of on) (words_in (drop (2 * i) b))

  pub registers_turn : (i v : ℕ) (out : List ℕ) → i < length b / 2 → i < length out → v ≡ register_value_of on (256 * get_or b (2 * i) 0 + get_or b (2 * i + 1) 0)
      → read_so_far (i + 1) (set out i v) ≡ read_so_far i out
  registers_turn i v out h k e =
      ap₂ (λ (l : List ℕ) (n : ℕ). l ++ map (register_value_of on) (words_in (drop n b))) (ap (λ (n : ℕ). take n (set out i v)) (add-one i) ∙ take-suc-set out i v k) next
      ∙ append_snoc (take i out) v (map (register_value_of on) (words_in (drop (2 * i + 2) b)))
      ∙ ap (λ (x : ℕ). take i out ++ x ∷ map (register_value_of on) (words_in (drop (2 * i + 2) b))) e
      ∙ sym (ap (λ (l : List ℕ). take i out ++ map (register_value_of on) l) (words_next b (2 * i) (omega arith)))
    where
      next : 2 * (i + 1) ≡ 2 * i + 2
      next = omega arith

  pub registers-end : (i : ℕ) (out : List ℕ) → length b / 2 ≤ i → read_so_far i out ≡ take i out
  registers-end i out h =
      ap (λ (l : List ℕ). take i out ++ map (register_value_of on) l) (words_end (drop (2 * i) b) (rw (length-drop (2 * i) b) (omega arith))) ∙ append-nil (take i out)

-- ---- a card's list data

pub card-at : (f : ℕ → Card) (n i k : ℕ) → k < n → card_in (list_from f n i) k ≡ some (f (i + k))
unfolding list_from
card-at f zero i k h = absurd (omega arith)
card-at f (suc n) i zero h = ap (λ (j : ℕ). some (f j)) (none i)
  where
    none : (i : ℕ) → i ≡ i + 0
    none i = omega arith
card-at f (suc n) i (suc k) h = card-at f n (suc i) k (omega arith) ∙ ap (λ (j : ℕ). some (f j)) (next i k)
  where
    next : (i k : ℕ) → suc i + k ≡ i + suc k
    next i k = omega arith

-- the place found, in the number behind it
pub place_before : (found p : ℕ) → found ≡ p + 1 → place_in found ≡ some p
place_before zero p h = absurd (omega arith)
place_before (suc n) p h = ap (λ (k : ℕ). some k) same
  where
    same : n ≡ p
    same = omega arith

module _ (c : Chip) where
  stored : (p : ℕ) → p < c.state.count → card_at (field_in c) (some p) ≡ some (stored_card p c.cards c.sent c.replies)
  stored p h = card-at (λ (i : ℕ). stored_card i c.cards c.sent c.replies) c.state.count 0 p h ∙ ap (λ (i : ℕ). some (stored_card i c.cards c.sent c.replies)) (none_before p)
    where
      none_before : (p : ℕ) → 0 + p ≡ p
      none_before p = omega arith

  module _ (r : ResponseSize) (out : List ℕ) where
    pub listed_present : (absent present p : ℕ) (text : List ℕ) → p < c.state.count → text ≡ text_at_of (card_size * p + list_data_place) c.cards
        → Puts r out (responds ((present ∷ target_number ∷ []) ++ text)) → Puts r out (responds (listed_or absent present (card_at (field_in c) (some p))))
    listed_present absent present p text few t e = rw (stored p few) (rw t at e)

    -- a reply of the card found
    module _ (found p : ℕ) (bytes : List ℕ) (is_found : found ≡ p + 1) (few : p < c.state.count) where
      from-card : (o : Option (List ℕ)) → reply_to (card_replies_in p c) bytes ≡ o → Puts r out (responds (exchanged o)) → Puts r out (responds (exchanged_with (card_at (field_in c) (place_in found)) bytes))
      from-card o h e = rw (place_before found p is_found, stored p few) (subst (λ (x : Option (List ℕ)). Puts r out (responds (exchanged x))) (sym h) e)

      pub not_stated : reply_to (card_replies_in p c) bytes ≡ none → Puts r out (responds ((timeout_status ∷ []) ++ [])) → Puts r out (responds (exchanged_with (card_at (field_in c) (place_in found)) bytes))
      not_stated h e = from-card none h e

      pub stated : (text : List ℕ) → reply_to (card_replies_in p c) bytes ≡ some text → Puts r out (responds ((success_status ∷ []) ++ text)) → Puts r out (responds (exchanged_with (card_at (field_in c) (place_in found)) bytes))
      stated text h e = from-card (some text) h e
