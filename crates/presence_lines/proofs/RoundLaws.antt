-- Laws of a line that says a round: its words, and room for its records.
use mathlib.Core.Path.{◌≡◌, refl, sym, ap, ◌∙◌}
use mathlib.Core.Bool.{Bool, true, false, false≢true}
use mathlib.Core.List.{List, [], ◌∷◌, ◌++◌}
use Rattle.std.specs.Prelude.{Option, Some, None}
use Prim.Native.Nat.{ℕ, suc, ◌+◌, ◌-◌, ◌*◌, ◌/◌, ◌≤◌, ◌<◌}
use native.Mathlib.Nat.{zero-add}
use native.Mathlib.Numerals.{add-one}
use native.Mathlib.Omega.{arith}
use borrow.Author.Tests.{ltb-false, leb-true}
use lib.Dec.{eqb, ltb, leb}
use lib.ListN.{length, take, drop, replicate, length-append, length-take, length-drop, drop_of_length-le}
use lib.Seq.{drop-cons, take_at}
use Rattle.octets.specs.Bytes.{index_of, slice}
use Rattle.errors.specs.Choice.{pick, same, same_is}
use Rattle.targets.specs.Bitrates.{ascii}
use Rattle.bench.specs.Hex.{is_hex_of, pairs_of}
use Rattle.bench.specs.HexLaws.{length_pairs}
use Rattle.bench.specs.Numbers.{number_of}
use Rattle.bench.specs.TextLaws.{at-start}
use Rattle.bench.specs.Texts.{over, Placed}
use Rattle.bench.specs.WordLaws.{words_behind, words_behind_lem, next_word}
use Rattle.bench.specs.Words.{ahead, words_of_lem}
use Rattle.presence_lines.specs.Lines.{line_limit, records_room, kinds, bitrates, place_among, before_colon, behind_colon, kind_named_of, bitrate_of, identifier_of, is_card, record_with, over_length, identified, record_of_word, are_cards, records_of_words, Said, said, said_round, said_of, colon}
use Rattle.presence_lines.specs.Readings.{PutsRecord}
use Rattle.presence_list.specs.Names.{record_size, identifier_limit, last_card_kind, last_bitrate}

-- ---- a card has 8 bytes or more

Long : ℕ → List (List ℕ) → Type 0
Long k [] = Unit {0}
Long k (x ∷ xs) = (k ≤ length x) × Long k xs

place_long : (k : ℕ) (w : List ℕ) (xs : List (List ℕ)) → Long k xs → place_among w xs < length xs → k ≤ length w
unfolding Long place_among pick
place_long k w [] l h = absurd (omega arith)
place_long k w (x ∷ xs) l h = go (place_long k w xs l.1) (same x w) refl h
  where
    go : (place_among w xs < length xs → k ≤ length w) → (t : Bool) → same x w ≡ t → pick t 0 (suc (place_among w xs)) < suc (length xs) → k ≤ length w
    go later true e g = omega (arith, ap length (same_is x w e), l.0)
    go later false e g = later (omega arith)

kind_long : (w : List ℕ) → place_among w kinds ≤ last_card_kind → 1 ≤ length w
unfolding Long kinds words_of_lem ahead pick
kind_long w h = place_long 1 w kinds (omega arith, (omega arith, (omega arith, (omega arith, (omega arith, tt))))) (omega arith)

bitrate_long : (w : List ℕ) → place_among w bitrates ≤ last_bitrate → 4 ≤ length w
unfolding Long bitrates words_of_lem ahead pick
bitrate_long w h = place_long 4 w bitrates (omega arith, (omega arith, (omega arith, (omega arith, (omega arith, (omega arith, (omega arith, tt))))))) (omega arith)

hex_long : (w : List ℕ) → is_hex_of w ≡ true → 1 ≤ length w
unfolding is_hex_of same pick
hex_long [] h = absurd (false≢true h)
hex_long (x ∷ w) h = omega arith

card_long : (w : List ℕ) → is_card w ≡ true → 8 ≤ length w
unfolding is_card before_colon behind_colon pick
card_long w h = go (leb (kind_named_of w) last_card_kind) (leb (bitrate_of w) last_bitrate) (is_hex_of (identifier_of w)) refl refl refl h
  where
    go : (t u v : Bool) → leb (kind_named_of w) last_card_kind ≡ t → leb (bitrate_of w) last_bitrate ≡ u → is_hex_of (identifier_of w) ≡ v → pick t (pick u (pick v (leb (length (identifier_of w) / 2) 1024) false) false) false ≡ true → 8 ≤ length w
    go true true true e f g i =
        let k : ℕ = index_of colon w in
        let r : List ℕ = drop (index_of colon w + 1) w in
        let j : ℕ = index_of colon (drop (index_of colon w + 1) w) in
        omega (
          arith,
          kind_long (before_colon w) (leb-true (kind_named_of w) last_card_kind e),
          bitrate_long (behind_colon (behind_colon w)) (leb-true (bitrate_of w) last_bitrate f),
          hex_long (identifier_of w) g,
          length-take k w,
          length-drop (k + 1) w,
          length-take j r,
          length-drop (j + 1) r,
        )
    go true true false e f g i = absurd (false≢true i)
    go true false v e f g i = absurd (false≢true i)
    go false u v e f g i = absurd (false≢true i)

-- ---- room for the records

with_short : (kind n rate : ℕ) (p : List ℕ) → length p ≤ identifier_limit → length (record_with kind p n rate) ≤ record_size
unfolding record_with
with_short kind n rate p h =
    let zeros : List ℕ = take (identifier_limit - length p) (replicate identifier_limit 0) in
    omega (arith, length-append ((kind ∷ []) ++ p ++ zeros) (n ∷ rate ∷ 0 ∷ []), length-append ((kind ∷ []) ++ p) zeros, length-append (kind ∷ []) p, length-take {A = ℕ} (identifier_limit - length p) (replicate identifier_limit 0))

record_short : (w : List ℕ) → length (record_of_word w) ≤ record_size
unfolding record_of_word identified pick
record_short w = go (identifier_of w)
  where
    go : (u : List ℕ) → length (identified (kind_named_of w) u (bitrate_of w)) ≤ record_size
    go u = by_length (ltb identifier_limit (length u / 2)) refl
      where
        by_length : (t : Bool) → ltb identifier_limit (length u / 2) ≡ t → length (pick t (record_with (kind_named_of w) [] over_length (bitrate_of w)) (record_with (kind_named_of w) (pairs_of u) (length u / 2) (bitrate_of w))) ≤ record_size
        by_length true e = with_short (kind_named_of w) over_length (bitrate_of w) [] (omega arith)
        by_length false e = with_short (kind_named_of w) (length u / 2) (bitrate_of w) (pairs_of u) (omega (arith, length_pairs u, ltb-false identifier_limit (length u / 2) e))

-- the bytes of some words, with one more for each
total : List (List ℕ) → ℕ
total [] = 0
total (w ∷ ws) = suc (length w) + total ws

total-ahead : (b : ℕ) (w : List ℕ) (ws : List (List ℕ)) → total (ahead b (w ∷ ws)) ≡ suc (total (w ∷ ws))
unfolding total ahead
total-ahead b w ws = omega arith

total_words : (l : List ℕ) → total (words_of_lem l) ≡ suc (length l)
unfolding total words_of_lem ahead pick
total_words [] = refl
total_words (b ∷ l) = go (eqb b 32) (total_words l) (words_behind_lem l)
  where
    go : (t : Bool) → total (words_of_lem l) ≡ suc (length l) → words_of_lem l ≡ take (index_of 32 l) l ∷ words_behind (drop (index_of 32 l) l) → total (pick t ([] ∷ words_of_lem l) (ahead b (words_of_lem l))) ≡ suc (suc (length l))
    go true h e = omega (arith, h)
    go false h e = ap (λ (x : List (List ℕ)). total (ahead b x)) e ∙ total-ahead b (take (index_of 32 l) l) (words_behind (drop (index_of 32 l) l)) ∙ ap suc (sym (ap total e) ∙ h)

total-behind : (l : List ℕ) → total (words_behind l) ≤ length l
unfolding words_behind total
total-behind [] = omega arith
total-behind (b ∷ l) = omega (arith, total_words l)

records_short : (ws : List (List ℕ)) → are_cards ws ≡ true → 9 * length (records_of_words ws) ≤ record_size * total ws
unfolding are_cards records_of_words total pick
records_short [] h = omega arith
records_short (w ∷ ws) h = go (records_short ws) (is_card w) refl h
  where
    go : (are_cards ws ≡ true → 9 * length (records_of_words ws) ≤ record_size * total ws) → (t : Bool) → is_card w ≡ t → pick t (are_cards ws) false ≡ true → 9 * length (record_of_word w ++ records_of_words ws) ≤ record_size * (suc (length w) + total ws)
    go later true e g = omega (arith, length-append (record_of_word w) (records_of_words ws), record_short w, card_long w e, later g)
    go later false e g = absurd (false≢true g)

room : (l : List ℕ) (at : ℕ) → length l ≤ line_limit → are_cards (words_behind (drop at l)) ≡ true → length (records_of_words (words_behind (drop at l))) ≤ records_room
room l at h e = omega (arith, records_short (words_behind (drop at l)) e, total-behind (drop at l), length-drop at l)

-- ---- the words of a line

module _ (l : List ℕ) (end : ℕ) (found : end ≡ 0 + index_of 32 (slice 0 (length l) l)) where
  first-are : words_of_lem l ≡ take end l ∷ words_behind (drop end l)
  first-are = let size : end - 0 ≡ end = omega arith in next_word l 0 end (omega arith) found ∙ ap (λ (k : ℕ). take k l ∷ words_behind (drop end l)) size

  pub one_word : length l ≤ end → ◌≡◌ {A = Option Said} None (said_of (words_of_lem l))
  unfolding said_of words_behind
  one_word h = rw (first-are, drop_of_length-le l {i = end} h)

  module _ (inside : end < length l) (second : ℕ) (again : second ≡ end + 1 + index_of 32 (slice (end + 1) (length l) l)) where
    words_are : words_of_lem l ≡ take end l ∷ take (second - (end + 1)) (drop (end + 1) l) ∷ words_behind (drop second l)
    unfolding words_behind
    words_are =
        first-are
        ∙ ap (λ (x : List (List ℕ)). take end l ∷ x) (ap words_behind (drop-cons l end 0 inside) ∙ ap (λ (j : ℕ). words_of_lem (drop j l)) (sym (add-one end)) ∙ next_word l (end + 1) second (omega arith) again)

    module _ (t : Bool) (test : t ≡ same (ascii "round") (take end l)) where
      pub another_word : t ≡ false → ◌≡◌ {A = Option Said} None (said_of (words_of_lem l))
      unfolding said_of pick
      another_word h = rw (words_are, ← test, h)

      module _ (w : List ℕ) (n : Option ℕ) (yes : t ≡ true) (w-is : w ≡ take (second - (end + 1)) (drop (end + 1) l)) (number : n ≡ number_of w) where
        said-is : said_of (words_of_lem l) ≡ said_round n (words_behind (drop second l))
        unfolding said_of pick
        said-is = rw (words_are, ← test, yes, ← w-is, ← number)

      module _ (w : List ℕ) (yes : t ≡ true) (w-is : w ≡ take (second - (end + 1)) (drop (end + 1) l)) where
        pub no_number : ◌≡◌ {A = Option ℕ} None (number_of w) → ◌≡◌ {A = Option Said} None (said_of (words_of_lem l))
        unfolding said_round
        no_number h = sym (said-is w None yes w-is h)

        module _ (k : ℕ) (number : ◌≡◌ {A = Option ℕ} (Some k) (number_of w)) where
          cards-are : said_of (words_of_lem l) ≡ pick (are_cards (words_behind (drop second l))) (Some (said k (records_of_words (words_behind (drop second l))))) None
          unfolding said_round
          cards-are = said-is w (Some k) yes w-is number

          pub no_cards : are_cards (words_behind (drop second l)) ≡ false → ◌≡◌ {A = Option Said} None (said_of (words_of_lem l))
          unfolding pick
          no_cards not = sym (cards-are ∙ ap (λ (x : Bool). pick x (Some (said k (records_of_words (words_behind (drop second l))))) None) not)

          pub round_said : (m : ℕ) (b o : List ℕ) → PutsRecord (Some m) (are_cards (words_behind (drop second l))) 0 (records_of_words (words_behind (drop second l))) b o
              → length l ≤ line_limit → records_room ≤ length b → (◌≡◌ {A = Option Said} (Some (said k (take m o))) (said_of (words_of_lem l))) × (m ≤ records_room)
          unfolding pick over
          round_said m b o put short large =
              let ws : List (List ℕ) = words_behind (drop second l) in
              let cards : are_cards (words_behind (drop second l)) ≡ true = put.0 in
              let fits : length (records_of_words ws) ≤ records_room = room l second short cards in
              let placed = at-start (records_of_words ws) b o m put.1 (omega arith) in
              let size : m ≡ length (records_of_words ws) = ap (λ (x : Placed). x.next) placed ∙ zero-add (length (records_of_words ws)) in
              let filled : o ≡ over 0 (records_of_words ws) b = ap (λ (x : Placed). x.buffer) placed in
              let here : take m o ≡ records_of_words ws = ap (take m) filled ∙ take_at (records_of_words ws) (drop (0 + length (records_of_words ws)) b) m (sym size) in
              (sym (cards-are ∙ ap (λ (x : Bool). pick x (Some (said k (records_of_words ws))) None) cards ∙ ap (λ (x : List ℕ). Some (said k x)) (sym here)), omega arith)
