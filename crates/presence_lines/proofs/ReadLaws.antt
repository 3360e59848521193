-- Laws of what a line says, word by word.
use mathlib.Core.Path.{◌≡◌, refl, sym, ap, ◌∙◌}
use mathlib.Core.Bool.{Bool, true, false, false≢true}
use mathlib.Core.List.{List, [], ◌∷◌, ◌++◌, append_assoc, append-nil}
use Prim.Native.Nat.{ℕ, suc, ◌+◌, ◌-◌, ◌/◌, ◌≤◌, ◌<◌}
use native.Mathlib.Nat.{zero-add}
use native.Mathlib.Numerals.{add-one}
use native.Mathlib.Omega.{arith}
use borrow.Author.Tests.{le-ltb, lt-leb, le-leb}
use lib.ListN.{length, take, drop, get_or, replicate, length-drop, drop_of_length-le}
use lib.Seq.{drop-cons, take-length, take_all, take_at}
use Rattle.octets.specs.Bytes.{index_of, slice}
use Rattle.std.specs.Prelude.{Some, Result, Ok, Err}
use Rattle.errors.specs.Choice.{pick, same}
use Rattle.errors.specs.Refusals.{returned}
use Rattle.errors.specs.declared.Refusal.{Refusal}
use Rattle.targets.specs.Bitrates.{ascii}
use Rattle.bench.specs.Hex.{is_hex_of, pairs_of, read_of}
use Rattle.bench.specs.HexLaws.{read_count, read_into, not_read}
use Rattle.bench.specs.TextLaws.{none_put, both_appended, then_put, both-put}
use Rattle.bench.specs.Texts.{over, placed, put_at, Appends}
use Rattle.bench.specs.WordLaws.{words_behind, next_word}
use Rattle.bench.specs.Words.{ahead, words_of_lem}
use Rattle.presence_lines.specs.Lines.{kinds, bitrates, place_among, before_colon, behind_colon, kind_named_of, bitrate_of, identifier_of, is_identifier, is_card, record_with, identified, record_of_word, are_cards, records_of_words, colon}
use Rattle.presence_lines.specs.Readings.{PutsRecord, ReadSoFar}
use Rattle.presence_list.specs.Names.{identifier_limit, last_card_kind, last_bitrate}
use Rattle.framing.specs.Build.{left}

-- the place of a word among others
module _ (w : List ℕ) (ws : List (List ℕ)) (i : ℕ) (rest : place_among w ws ≡ i + place_among w (drop i ws)) where
  here : i < length ws → place_among w (drop i ws) ≡ pick (same (get_or ws i []) w) 0 (suc (place_among w (drop (suc i) ws)))
  unfolding place_among
  here h = rw (drop-cons ws i [] h)

  pub place_found : (x : List ℕ) (t : Bool) → i < length ws → x ≡ get_or ws i [] → t ≡ same x w → t ≡ true → i ≡ place_among w ws
  unfolding pick
  place_found x t h e f g =
      let z : place_among w (drop i ws) ≡ 0 = here h ∙ rw (← e, ← f, g) in
      omega (arith, rest, z)

  pub place-next : (x : List ℕ) (t : Bool) → i < length ws → x ≡ get_or ws i [] → t ≡ same x w → t ≡ false → place_among w ws ≡ i + 1 + place_among w (drop (i + 1) ws)
  unfolding pick
  place-next x t h e f g =
      let z : place_among w (drop i ws) ≡ suc (place_among w (drop (i + 1) ws)) = here h ∙ rw (← e, ← f, g, add-one) in
      omega (arith, rest, z)

  pub place_end : length ws ≤ i → i ≤ length ws → place_among w ws ≡ length ws
  unfolding place_among
  place_end h k = let z : place_among w (drop i ws) ≡ 0 = rw (drop_of_length-le ws {i = i} h) in omega (arith, rest, z)

pub place-begin : (w : List ℕ) (ws : List (List ℕ)) → place_among w ws ≡ 0 + place_among w (drop 0 ws)
place-begin w ws = omega arith

-- the first colon of a word
module _ (w : List ℕ) (n : ℕ) (found : n ≡ 0 + index_of colon (slice 0 (length w) w)) where
  at-colon : n ≡ index_of colon w
  unfolding slice
  at-colon = found ∙ rw (zero-add, take-length w)

  pub before_is : take n w ≡ before_colon w
  unfolding before_colon
  before_is = rw (← at-colon)

  pub behind_is : n < length w → take (length w - (n + 1)) (drop (n + 1) w) ≡ behind_colon w
  unfolding behind_colon
  behind_is h = rw (← at-colon) (take_all (length w - (n + 1)) (drop (n + 1) w) (rw (length-drop (n + 1) w) (omega arith)))

  pub before_all : length w ≤ n → w ≡ before_colon w
  unfolding before_colon
  before_all h = rw (← at-colon) (sym (take_all n w h))

  pub behind_none : length w ≤ n → [] ≡ behind_colon w
  unfolding behind_colon
  behind_none h = rw (← at-colon, drop_of_length-le w {i = n + 1} (omega arith))

-- a record, and that of an identifier
pub record_done : (kind n rate : ℕ) (p z o o₁ o₂ o₃ o₄ : List ℕ) (at r₁ r₂ r₃ r₄ : ℕ) → placed r₁ o₁ ≡ put_at at (kind ∷ []) o → placed r₂ o₂ ≡ put_at r₁ p o₁ → placed r₃ o₃ ≡ put_at r₂ z o₂
    → placed r₄ o₄ ≡ put_at r₃ (n ∷ rate ∷ 0 ∷ []) o₃ → z ≡ take (identifier_limit - length p) (replicate identifier_limit 0) → Appends at (record_with kind p n rate) o r₄ o₄
unfolding record_with
record_done kind n rate p z o o₁ o₂ o₃ o₄ at r₁ r₂ r₃ r₄ e f g h is =
    rw (← is) (then_put _ _ _ _ _ _ _ _ (then_put _ _ _ _ _ _ _ _ (both-put _ _ _ _ _ _ _ _ e f) g) h)

module _ (kind rate at r : ℕ) (w b o : List ℕ) where
  module _ (z part : List ℕ) (q : Result ℕ Refusal) (known : left (returned q) part ≡ read_of w z) (few : length w / 2 ≤ identifier_limit) (room : length z ≡ identifier_limit) where
    enough : length w / 2 ≤ length z
    enough = omega arith

    pub identified_read : (k n : ℕ) (p : List ℕ) → q ≡ Ok k → p ≡ take k part → n ≡ length w / 2 → Appends at (record_with kind p n rate) b r o → Appends at (identified kind w rate) b r o
    unfolding identified pick over
    identified_read k n p e is size d =
        let filled : part ≡ pairs_of w ++ drop (length (pairs_of w)) z = read_into w z part q enough known k e ∙ ap (λ (j : ℕ). pairs_of w ++ drop j z) (zero-add (length (pairs_of w))) in
        let count : k ≡ length (pairs_of w) = read_count w z part q enough known k e in
        let all : p ≡ pairs_of w = is ∙ rw (filled, count) (take_at (pairs_of w) (drop (length (pairs_of w)) z) (length (pairs_of w)) refl) in
        rw (le-ltb identifier_limit (length w / 2) few) (rw (all, size) at d)

    pub identified_not : (e : Refusal) → q ≡ Err e → is_hex_of w ≡ true → Appends at (identified kind w rate) b at b
    identified_not e g h = absurd (false≢true (sym (not_read w z part q enough known e g) ∙ h))

-- how many names there are
kinds_are : length (words_of_lem (ascii "A T1 B F DEP")) ≡ suc last_card_kind
unfolding words_of_lem ahead pick
kinds_are = refl

bitrates_are : length (words_of_lem (ascii "106A 212F 424F 106B 212B 424B 848B")) ≡ suc last_bitrate
unfolding words_of_lem ahead pick
bitrates_are = refl

-- a card, by its parts
module _ (w p rest u q : List ℕ) (p-is : p ≡ before_colon w) (rest-is : rest ≡ behind_colon w) (u-is : u ≡ before_colon rest) (q-is : q ≡ behind_colon rest) where
  kind-at : place_among p (words_of_lem (ascii "A T1 B F DEP")) ≡ kind_named_of w
  unfolding kinds
  kind-at = ap (λ (x : List ℕ). place_among x kinds) p-is

  rate-at : place_among q (words_of_lem (ascii "106A 212F 424F 106B 212B 424B 848B")) ≡ bitrate_of w
  unfolding bitrates
  rate-at = ap (λ (x : List ℕ). place_among x bitrates) (q-is ∙ ap behind_colon rest-is)

  identifier-is : u ≡ identifier_of w
  identifier-is = u-is ∙ ap before_colon rest-is

  pub no_kind : place_among p (words_of_lem (ascii "A T1 B F DEP")) ≡ length (words_of_lem (ascii "A T1 B F DEP")) → is_card w ≡ false
  unfolding is_card pick
  no_kind h = rw (lt-leb (kind_named_of w) last_card_kind (omega (arith, kind-at, kinds_are, h)))

  module _ (k : ℕ) (kind : (k ≡ place_among p (words_of_lem (ascii "A T1 B F DEP"))) × (k < length (words_of_lem (ascii "A T1 B F DEP")))) where
    kind-is : k ≡ kind_named_of w
    kind-is = kind.0 ∙ kind-at

    pub few_kinds : k ≤ last_card_kind
    few_kinds = omega (arith, kind.1, kinds_are)

    pub no_rate : place_among q (words_of_lem (ascii "106A 212F 424F 106B 212B 424B 848B")) ≡ length (words_of_lem (ascii "106A 212F 424F 106B 212B 424B 848B")) → is_card w ≡ false
    unfolding is_card pick
    no_rate h = rw (le-leb (kind_named_of w) last_card_kind (omega (arith, kind-is, few_kinds)), lt-leb (bitrate_of w) last_bitrate (omega (arith, rate-at, bitrates_are, h)))

    module _ (m : ℕ) (rate : (m ≡ place_among q (words_of_lem (ascii "106A 212F 424F 106B 212B 424B 848B"))) × (m < length (words_of_lem (ascii "106A 212F 424F 106B 212B 424B 848B")))) where
      rate-is : m ≡ bitrate_of w
      rate-is = rate.0 ∙ rate-at

      pub few_rates : m ≤ last_bitrate
      few_rates = omega (arith, rate.1, bitrates_are)

      module _ (t : Bool) (test : t ≡ is_identifier u) where
        card-is : is_card w ≡ t
        unfolding is_card pick
        card-is =
            rw (le-leb (kind_named_of w) last_card_kind (omega (arith, kind-is, few_kinds)), le-leb (bitrate_of w) last_bitrate (omega (arith, rate-is, few_rates)))
            (ap is_identifier (sym identifier-is) ∙ sym test)

        pub card-put : (at r : ℕ) (b o : List ℕ) → t ≡ true → Appends at (identified k u m) b r o → (is_card w ≡ true) × Appends at (record_of_word w) b r o
        unfolding record_of_word
        card-put at r b o h d = (card-is ∙ h, rw (kind-is, rate-is, identifier-is) at d)

-- the cards of a line, one behind the other
pub filled_none : (ws : List (List ℕ)) (b : List ℕ) → ReadSoFar ws ws b 0 b
filled_none ws b = record { done = []; split = refl; cards = refl; put = none_put b 0 }

module _ (all : List (List ℕ)) (l b o : List ℕ) (at n : ℕ) (filled : ReadSoFar all (words_behind (drop at l)) b n o) where
  pub filled_all : length l ≤ at → (are_cards all ≡ true) × Appends 0 (records_of_words all) b n o
  unfolding words_behind are_cards records_of_words
  filled_all h =
      let z : words_behind (drop at l) ≡ [] = ap words_behind (drop_of_length-le l {i = at} h) in
      let is : records_of_words all ≡ filled.done = filled.split ∙ ap (λ (x : List (List ℕ)). filled.done ++ records_of_words x) z ∙ append-nil filled.done in
      (filled.cards ∙ ap are_cards z, rw (← is) at filled.put)

  module _ (end : ℕ) (w : List ℕ) (inside : at < length l) (found : end ≡ at + 1 + index_of 32 (slice (at + 1) (length l) l)) (w-is : w ≡ take (end - (at + 1)) (drop (at + 1) l)) where
    words_are : words_behind (drop at l) ≡ w ∷ words_behind (drop end l)
    unfolding words_behind
    words_are =
        ap words_behind (drop-cons l at 0 inside) ∙ ap (λ (j : ℕ). words_of_lem (drop j l)) (sym (add-one at)) ∙ next_word l (at + 1) end (omega arith) found
        ∙ ap (λ (x : List ℕ). x ∷ words_behind (drop end l)) (sym w-is)

    pub filled_not : is_card w ≡ false → are_cards all ≡ false
    unfolding are_cards pick
    filled_not not = filled.cards ∙ ap are_cards words_are ∙ rw not

    pub filled_more : (o' : List ℕ) (m : ℕ) → PutsRecord (Some m) (is_card w) n (record_of_word w) o o' → ReadSoFar all (words_behind (drop end l)) b m o'
    unfolding are_cards records_of_words pick
    filled_more o' m here =
        let is : is_card w ≡ true = here.0 in
        record {
          done = filled.done ++ record_of_word w;
          split = filled.split ∙ ap (λ (x : List (List ℕ)). filled.done ++ records_of_words x) words_are ∙ sym (append_assoc filled.done (record_of_word w) (records_of_words (words_behind (drop end l))));
          cards = filled.cards ∙ ap are_cards words_are ∙ rw is;
          put = both_appended _ _ _ _ _ _ _ _ filled.put here.1;
        }
