-- Laws of an answer: the tests of a line, its HEX, what the chip does with it, and the text with its line feed.
use mathlib.Core.Path.{◌≡◌, refl, sym, ap, ◌∙◌}
use mathlib.Core.Bool.{Bool, true, false}
use mathlib.Core.List.{List, [], ◌∷◌, ◌++◌}
use Prim.Native.Nat.{ℕ, ◌+◌, ◌-◌, ◌/◌, ◌≤◌, ◌<◌}
use native.Mathlib.Nat.{zero-add}
use native.Mathlib.Omega.{arith}
use borrow.Author.Tests.{lt-ltb, le-ltb}
use lib.ListN.{length, take, drop, get_or, length-append, length-drop}
use lib.Seq.{take_at}
use Rattle.std.specs.Prelude.{Option, Some, None, Result, Ok, Err}
use Rattle.errors.specs.Refusals.{returned}
use Rattle.errors.specs.Choice.{pick, same}
use Rattle.errors.specs.declared.Refusal.{Refusal}
use Rattle.errors.specs.declared.Refusal.TheVariants.{BadArgument}
use Rattle.framing.specs.Build.{left}
use Rattle.targets.specs.Bitrates.{ascii}
use Rattle.targets.specs.declared.Bitrate.{Bitrate}
use Rattle.bench.specs.Hex.{dash, is_hex_of, pairs_of, read_of}
use Rattle.bench.specs.HexLaws.{was_read, read_count, read_into, not_read}
use Rattle.bench.specs.Lines.{feed}
use Rattle.bench.specs.TextLaws.{both_appended, at-start}
use Rattle.bench.specs.Texts.{over, Placed, Appends}
use Rattle.bench.specs.WordLaws.{words_from, words_are}
use Rattle.bench.specs.Words.{words_of_lem}
use Rattle.bench.specs.declared.lines.Line.{Line}
use Rattle.bench.specs.declared.lines.Line.TheVariants.{Text, OverLong, End}
use Rattle.chip_protocol.specs.Names.{longest_packet}
use Rattle.simulated_chip.specs.Steps.{Answer, left_by, zeros, step_of}
use Rattle.simulated_chip.specs.Additions.{Addition, added_by, add_card_of, add_reply_of}
use Rattle.chip_protocol.specs.declared.Kind.{Kind}
use Rattle.chip_protocol.specs.declared.Kind.TheVariants.{TypeA, TypeF, Dep}
use Rattle.simulated_chip.specs.Memory.{fresh_numbers}
use Rattle.simulated_chip.specs.declared.chip.State.{State}
use Rattle.simulated_chip.specs.declared.chip.Chip.{Chip}
use Rattle.chip_lines.specs.ChipLines.{line_limit, bytes_room, ChipLine, fresh, card, reply, frame, unreadable, bitrate_named_of, kind_named_of, card_line_of, one_word, two_words, three_words, four_words, five_words, on_words, chip_line_of}
use Rattle.chip_lines.specs.Lines.{text_limit, answer_room, LineAnswer, refused_text, addition_text, sent_text, answer_to, after_line, printed, line_reply}
use Rattle.chip_lines.specs.Readings.{Prints, Answers}

-- ---- a test that decides the line
module _ (t : Bool) (x y : ChipLine) (c d : Chip) (n : ℕ) (o o' : List ℕ) where
  pub answer_true : t ≡ true → Answers (answer_to c x) d n o o' → Answers (answer_to c (pick t x y)) d n o o'
  unfolding pick
  answer_true h e = rw h e

  pub answer_false : t ≡ false → Answers (answer_to c y) d n o o' → Answers (answer_to c (pick t x y)) d n o o'
  unfolding pick
  answer_false h e = rw h e

-- ---- a line that cannot be read, and a fresh chip
module _ (c : Chip) (o o' : List ℕ) (n : ℕ) where
  pub unread_answers : Prints (refused_text BadArgument) n o o' → Answers (answer_to c unreadable) c n o o'
  unread_answers e = record { chip = refl; text = e }

  pub fresh_answers : (s : State) → s ≡ fresh_numbers → Prints (ascii "ok") n o o' → Answers (answer_to c fresh) (record c { state = s }) n o o'
  fresh_answers s h e = record { chip = ap (λ (x : State). record c { state = x }) h; text = e }

-- ---- what the chip does
module _ (c d : Chip) (n : ℕ) (o o' : List ℕ) where
  module _ (a : Addition) where
    pub card_answers : (k : Kind) (rate : Bitrate) (l w u p q : List ℕ) → added_by d a ≡ add_card_of c k rate l w → Prints (addition_text a) n o o'
        → rate ≡ bitrate_named_of u → l ≡ p → w ≡ q → Answers (answer_to c (card k (bitrate_named_of u) p q)) d n o o'
    card_answers k rate l w u p q h e f g x = rw (← f, ← g, ← x, ← h) (record { chip = refl; text = e })

    pub reply_answers : (v r p q : List ℕ) → added_by d a ≡ add_reply_of c v r → Prints (addition_text a) n o o' → v ≡ p → r ≡ q → Answers (answer_to c (reply p q)) d n o o'
    reply_answers v r p q h e g x = rw (← g, ← x, ← h) (record { chip = refl; text = e })

  pub step_answers : (a : Answer) (w b b' p : List ℕ) → left_by d a b' ≡ step_of c w b → b ≡ zeros longest_packet → Prints (sent_text a b') n o o' → w ≡ p → Answers (answer_to c (frame p)) d n o o'
  step_answers a w b b' p h z e g = rw (← g, ← z, ← h) (record { chip = refl; text = e })

-- ---- a word that is HEX
module _ (w b o : List ℕ) (r : Result ℕ Refusal) (known : left (returned r) o ≡ read_of w b) (room : length b ≡ bytes_room) (short : length w ≤ line_limit) where
  enough : length w / 2 ≤ length b
  enough = omega arith

  pub not_hex : (e : Refusal) → r ≡ Err e → is_hex_of w ≡ false
  not_hex e q = not_read w b o r enough known e q

  module _ (k : ℕ) (q : r ≡ Ok k) where
    pub is_hex : is_hex_of w ≡ true
    is_hex = was_read w b o r enough known k q

    pub hex_bytes : (p : List ℕ) → p ≡ take k o → p ≡ pairs_of w
    unfolding over
    hex_bytes p is =
        let filled : o ≡ pairs_of w ++ drop (0 + length (pairs_of w)) b = read_into w b o r enough known k q in
        is ∙ ap (take k) filled ∙ take_at (pairs_of w) (drop (0 + length (pairs_of w)) b) k (sym (read_count w b o r enough known k q))

-- ---- the words of a line, by their number

module _ (c d : Chip) (ws : List (List ℕ)) (n : ℕ) (counted : n ≡ length ws) (m : ℕ) (b z : List ℕ) where
  pub one_is : n ≡ 1 → (u : List ℕ) → u ≡ get_or ws 0 [] → Answers (answer_to c (one_word u)) d m b z → Answers (answer_to c (on_words ws)) d m b z
  unfolding on_words words_from
  one_is h u p e = rw (words_are ws n counted 1 h) (rw p at e)

  pub two_are : n ≡ 2 → (u v : List ℕ) → u ≡ get_or ws 0 [] → v ≡ get_or ws 1 [] → Answers (answer_to c (two_words u v)) d m b z → Answers (answer_to c (on_words ws)) d m b z
  unfolding on_words words_from
  two_are h u v p q e = rw (words_are ws n counted 2 h) (rw (p, q) at e)

  pub three_are : n ≡ 3 → (u v w : List ℕ) → u ≡ get_or ws 0 [] → v ≡ get_or ws 1 [] → w ≡ get_or ws 2 [] → Answers (answer_to c (three_words u v w)) d m b z → Answers (answer_to c (on_words ws)) d m b z
  unfolding on_words words_from
  three_are h u v w p q s e = rw (words_are ws n counted 3 h) (rw (p, q, s) at e)

  pub four_are : n ≡ 4 → (u v w y : List ℕ) → u ≡ get_or ws 0 [] → v ≡ get_or ws 1 [] → w ≡ get_or ws 2 [] → y ≡ get_or ws 3 [] → Answers (answer_to c (four_words u v w y)) d m b z → Answers (answer_to c (on_words ws)) d m b z
  unfolding on_words words_from
  four_are h u v w y p q s t e = rw (words_are ws n counted 4 h) (rw (p, q, s, t) at e)

  pub five_are : n ≡ 5 → (u v w y x : List ℕ) → u ≡ get_or ws 0 [] → v ≡ get_or ws 1 [] → w ≡ get_or ws 2 [] → y ≡ get_or ws 3 [] → x ≡ get_or ws 4 [] → Answers (answer_to c (five_words u v w y x)) d m b z
      → Answers (answer_to c (on_words ws)) d m b z
  unfolding on_words words_from
  five_are h u v w y x p q s t r e = rw (words_are ws n counted 5 h) (rw (p, q, s, t, r) at e)

  pub others_are : (n ≡ 1 → ⊥) → (n ≡ 2 → ⊥) → (n ≡ 3 → ⊥) → (n ≡ 4 → ⊥) → (n ≡ 5 → ⊥) → Answers (answer_to c unreadable) d m b z → Answers (answer_to c (on_words ws)) d m b z
  unfolding on_words
  others_are one two three four five e = go ws (λ k. one (counted ∙ k)) (λ k. two (counted ∙ k)) (λ k. three (counted ∙ k)) (λ k. four (counted ∙ k)) (λ k. five (counted ∙ k))
    where
      go : (l : List (List ℕ)) → (length l ≡ 1 → ⊥) → (length l ≡ 2 → ⊥) → (length l ≡ 3 → ⊥) → (length l ≡ 4 → ⊥) → (length l ≡ 5 → ⊥) → Answers (answer_to c (on_words l)) d m b z
      go [] a f g h i = e
      go (u ∷ []) a f g h i = absurd (a refl)
      go (u ∷ v ∷ []) a f g h i = absurd (f refl)
      go (u ∷ v ∷ w ∷ []) a f g h i = absurd (g refl)
      go (u ∷ v ∷ w ∷ y ∷ []) a f g h i = absurd (h refl)
      go (u ∷ v ∷ w ∷ y ∷ x ∷ []) a f g h i = absurd (i refl)
      go (u ∷ v ∷ w ∷ y ∷ x ∷ p ∷ l) a f g h i = e

-- ---- a card's line of four words, by its kind

module _ (name kind rate w : List ℕ) (r : Option Kind) (named : r ≡ kind_named_of kind) (is_card : same (ascii "card") name ≡ true) where
  pub four_named : (k : Kind) → r ≡ Some k → four_words name kind rate w ≡ card_line_of k rate w dash
  unfolding four_words kind_named_of pick
  four_named k h = rw is_card (go (same (ascii "A") kind) (same (ascii "F") kind) (same (ascii "DEP") kind) (sym named ∙ h))
    where
      go : (a f d : Bool) → pick a (Some TypeA) (pick f (Some TypeF) (pick d (Some Dep) None)) ≡ Some k
          → pick a (card_line_of TypeA rate w dash) (pick f (card_line_of TypeF rate w dash) (pick d (card_line_of Dep rate w dash) unreadable)) ≡ card_line_of k rate w dash
      go true f d e = ap (λ (x : Kind). card_line_of x rate w dash) (cc)
      go false true d e = ap (λ (x : Kind). card_line_of x rate w dash) (cc)
      go false false true e = ap (λ (x : Kind). card_line_of x rate w dash) (cc)
      go false false false e = absurd (cc)

  pub four_unnamed : r ≡ None → four_words name kind rate w ≡ unreadable
  unfolding four_words kind_named_of pick
  four_unnamed h = rw is_card (go (same (ascii "A") kind) (same (ascii "F") kind) (same (ascii "DEP") kind) (sym named ∙ h))
    where
      go : (a f d : Bool) → pick a (Some TypeA) (pick f (Some TypeF) (pick d (Some Dep) None)) ≡ None
          → pick a (card_line_of TypeA rate w dash) (pick f (card_line_of TypeF rate w dash) (pick d (card_line_of Dep rate w dash) unreadable)) ≡ unreadable
      go true f d e = absurd (cc)
      go false true d e = absurd (cc)
      go false false true e = absurd (cc)
      go false false false e = refl

-- ---- a line of the limit's length at most
module _ (c d : Chip) (line : List ℕ) (n : ℕ) (o o' : List ℕ) where
  pub answer_long : line_limit < length line → Answers (answer_to c unreadable) d n o o' → Answers (answer_to c (chip_line_of line)) d n o o'
  unfolding chip_line_of pick
  answer_long h e = rw (lt-ltb line_limit (length line) h) e

  pub answer_words : length line ≤ line_limit → Answers (answer_to c (on_words (words_of_lem line))) d n o o' → Answers (answer_to c (chip_line_of line)) d n o o'
  unfolding chip_line_of pick
  answer_words h e = rw (le-ltb line_limit (length line) h) e

-- ---- the text with its line feed
module _ (a : LineAnswer) (c : Chip) (m r : ℕ) (o o₁ o₂ : List ℕ) where
  pub printed-done : length o ≡ answer_room → Answers a c m o o₁ → Appends m (feed ∷ []) o₁ r o₂ → after_line c r o₂ ≡ printed a o
  unfolding printed
  printed-done room d e =
      let short : length a.text ≤ text_limit = d.text.short in
      let placed = at-start (a.text ++ (feed ∷ [])) o o₂ r (both_appended _ _ _ _ _ _ _ _ d.text.put e) (omega (arith, length-append a.text (feed ∷ []))) in
      ap (λ (y : Chip). after_line y r o₂) d.chip ∙ ap (λ (y : Placed). after_line a.chip y.next y.buffer) placed
      ∙ ap (λ (k : ℕ). after_line a.chip k (over 0 (a.text ++ (feed ∷ [])) o)) (zero-add (length (a.text ++ (feed ∷ []))))

-- the buffer keeps its length
long_over : (t b : List ℕ) → length (over 0 t b) ≡ length t + (length b - length t)
unfolding over
long_over t b = simp (length-append, length-drop) (omega arith)

text_room : (t : List ℕ) (m r : ℕ) (o o₁ o₂ : List ℕ) → Prints t m o o₁ → Appends m (feed ∷ []) o₁ r o₂ → length o ≡ answer_room → length o₂ ≡ answer_room
text_room t m r o o₁ o₂ d e room =
    let short : length t ≤ text_limit = d.short in
    let placed = at-start (t ++ (feed ∷ [])) o o₂ r (both_appended _ _ _ _ _ _ _ _ d.put e) (omega (arith, length-append t (feed ∷ []))) in
    ap (λ (y : Placed). length y.buffer) placed ∙ omega (arith, long_over (t ++ (feed ∷ [])) o, length-append t (feed ∷ []))

pub printed_room : (a : LineAnswer) (c : Chip) (m r : ℕ) (o o₁ o₂ : List ℕ) → Answers a c m o o₁ → Appends m (feed ∷ []) o₁ r o₂ → length o ≡ answer_room → length o₂ ≡ answer_room
printed_room a c m r o o₁ o₂ d e room = text_room a.text m r o o₁ o₂ d.text e room

pub refused_room : (m r : ℕ) (o o₁ o₂ : List ℕ) → Prints (refused_text BadArgument) m o o₁ → Appends m (feed ∷ []) o₁ r o₂ → length o ≡ answer_room → length o₂ ≡ answer_room
refused_room m r o o₁ o₂ d e room = text_room (refused_text BadArgument) m r o o₁ o₂ d e room

module _ (c d : Chip) (t : Line) (line o o₁ o₂ : List ℕ) (m r : ℕ) (room : length o ≡ answer_room) (fed : Appends m (feed ∷ []) o₁ r o₂) where
  pub reply_text : (n : ℕ) (p : List ℕ) → t ≡ Text n → p ≡ take n line → Answers (answer_to c (chip_line_of p)) d m o o₁ → after_line d r o₂ ≡ line_reply c t line o
  unfolding line_reply
  reply_text n p h q e = rw (h, ← q) (printed-done _ d m r o o₁ o₂ room e fed)

  pub reply_long : t ≡ OverLong → Prints (refused_text BadArgument) m o o₁ → after_line c r o₂ ≡ line_reply c t line o
  unfolding line_reply
  reply_long h e = rw h (printed-done _ c m r o o₁ o₂ room (unread_answers c o o₁ m e) fed)

pub reply-end : (c : Chip) (t : Line) (line o : List ℕ) → t ≡ End → after_line c 0 o ≡ line_reply c t line o
unfolding line_reply
reply-end c t line o h = rw h
