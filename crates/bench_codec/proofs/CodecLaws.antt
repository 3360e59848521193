-- Laws of the words of a line: their number, the bytes of a word, and the setting of a word.
use mathlib.Core.Path.{◌≡◌, refl, sym, ap, ◌∙◌}
use mathlib.Core.Bool.{true, false}
use mathlib.Core.List.{List, [], ◌∷◌, ◌++◌}
use Prim.Native.Nat.{ℕ, ◌/◌, ◌≤◌}
use native.Mathlib.Nat.{zero-add}
use native.Mathlib.Omega.{arith}
use lib.ListN.{length, take, drop, get_or, length-take}
use Rattle.std.specs.Prelude.{Option, Some, None, Result, Ok, Err}
use Rattle.errors.specs.Choice.{pick}
use Rattle.errors.specs.Refusals.{returned}
use Rattle.errors.specs.declared.Refusal.{Refusal}
use Rattle.framing.specs.declared.FrameFormat.{FrameFormat}
use Rattle.bench.specs.Hex.{is_hex_of, pairs_of, read_of}
use Rattle.bench.specs.HexLaws.{length_pairs, was_read, read_count, read_into, not_read}
use Rattle.bench.specs.Texts.{over, Appends}
use Rattle.bench.specs.WordLaws.{words_from, words_are}
use Rattle.bench_codec.specs.Codec.{line_limit, bytes_room, frame_room, unreadable, setting_named, on_bytes, on_format, on_setting, two_words, three_words, four_words, five_words, on_words}
use Rattle.bench_codec.proofs.FrameLaws.{whole_text, whole_fits, whole_part}
use Rattle.framing.specs.Build.{left}

-- the bytes of a word
module _ (w b o : List ℕ) (r : Result ℕ Refusal) (known : left (returned r) o ≡ read_of w b) (short : length w ≤ line_limit) (room : length b ≡ frame_room) where
  enough : length w / 2 ≤ length b
  enough = omega arith

  pub not_hex : (e : Refusal) → r ≡ Err e → is_hex_of w ≡ false
  not_hex e q = not_read w b o r enough known e q

  pub read_refused : (e : Refusal) (y out z : List ℕ) (m : ℕ) → r ≡ Err e → Appends 0 unreadable out m z → Appends 0 (pick (is_hex_of w) y unreadable) out m z
  unfolding pick
  read_refused e y out z m q d = rw (not_read w b o r enough known e q) d

  module _ (n : ℕ) (q : r ≡ Ok n) where
    pub hex : is_hex_of w ≡ true
    hex = was_read w b o r enough known n q

    counted : n ≡ length (pairs_of w)
    counted = read_count w b o r enough known n q

    filled : o ≡ pairs_of w ++ drop (length (pairs_of w)) b
    unfolding over
    filled = read_into w b o r enough known n q ∙ ap (λ k. pairs_of w ++ drop k b) (zero-add (length (pairs_of w)))

    fits : length (pairs_of w) ≤ length b
    fits = omega (arith, length_pairs w)

    pub bytes : take n o ≡ pairs_of w
    bytes = whole_text (pairs_of w) b o n counted filled fits

    pub read_fits : n ≤ length o
    read_fits = whole_fits (pairs_of w) b o n counted filled fits

    pub read_part : n ≡ length (take n o)
    read_part = whole_part (pairs_of w) b o n counted filled fits

    pub read_short : length (take n o) ≤ bytes_room
    read_short = omega (arith, counted, length_pairs w, length-take n o)

    module _ (out z : List ℕ) (m : ℕ) where
      pub read_bytes_lem : (name : List ℕ) → Appends 0 (on_bytes name (take n o)) out m z → Appends 0 (pick (is_hex_of w) (on_bytes name (pairs_of w)) unreadable) out m z
      unfolding pick
      read_bytes_lem name e = rw hex (rw bytes at e)

      pub read_format : (name : List ℕ) (f : FrameFormat) → Appends 0 (on_format name f (take n o)) out m z → Appends 0 (pick (is_hex_of w) (on_format name f (pairs_of w)) unreadable) out m z
      unfolding pick
      read_format name f e = rw hex (rw bytes at e)

-- the setting of a word
module _ (v name w b z : List ℕ) (m : ℕ) (s : Option FrameFormat) (known : s ≡ setting_named v) where
  pub no_setting : s ≡ None → Appends 0 unreadable b m z → Appends 0 (on_setting (setting_named v) name w) b m z
  unfolding on_setting
  no_setting q e = rw (sym known ∙ q) e

  pub some_setting : (f : FrameFormat) → s ≡ Some f → Appends 0 (pick (is_hex_of w) (on_format name f (pairs_of w)) unreadable) b m z → Appends 0 (on_setting (setting_named v) name w) b m z
  unfolding on_setting
  some_setting f q e = rw (sym known ∙ q) e

-- the words of a line, by their number
module _ (ws : List (List ℕ)) (n : ℕ) (counted : n ≡ length ws) (b z : List ℕ) (m : ℕ) where
  pub two_are : n ≡ 2 → (u v : List ℕ) → u ≡ get_or ws 0 [] → v ≡ get_or ws 1 [] → Appends 0 (two_words u v) b m z → Appends 0 (on_words ws) b m z
  unfolding on_words words_from
  two_are h u v p q e = rw (words_are ws n counted 2 h) (rw (p, q) at e)

  pub three_are : n ≡ 3 → (u v w : List ℕ) → u ≡ get_or ws 0 [] → v ≡ get_or ws 1 [] → w ≡ get_or ws 2 [] → Appends 0 (three_words u v w) b m z → Appends 0 (on_words ws) b m z
  unfolding on_words words_from
  three_are h u v w p q s e = rw (words_are ws n counted 3 h) (rw (p, q, s) at e)

  pub four_are : n ≡ 4 → (u v w y : List ℕ) → u ≡ get_or ws 0 [] → v ≡ get_or ws 1 [] → w ≡ get_or ws 2 [] → y ≡ get_or ws 3 [] → Appends 0 (four_words u v w y) b m z → Appends 0 (on_words ws) b m z
  unfolding on_words words_from
  four_are h u v w y p q s t e = rw (words_are ws n counted 4 h) (rw (p, q, s, t) at e)

  pub five_are : n ≡ 5 → (u v w y x : List ℕ) → u ≡ get_or ws 0 [] → v ≡ get_or ws 1 [] → w ≡ get_or ws 2 [] → y ≡ get_or ws 3 [] → x ≡ get_or ws 4 [] → Appends 0 (five_words u v w y x) b m z
      → Appends 0 (on_words ws) b m z
  unfolding on_words words_from
  five_are h u v w y x p q s t r e = rw (words_are ws n counted 5 h) (rw (p, q, s, t, r) at e)

  pub others_are : (n ≡ 2 → ⊥) → (n ≡ 3 → ⊥) → (n ≡ 4 → ⊥) → (n ≡ 5 → ⊥) → Appends 0 unreadable b m z → Appends 0 (on_words ws) b m z
  unfolding on_words
  others_are h g f d e = go ws (λ k. h (counted ∙ k)) (λ k. g (counted ∙ k)) (λ k. f (counted ∙ k)) (λ k. d (counted ∙ k))
    where
      go : (l : List (List ℕ)) → (length l ≡ 2 → ⊥) → (length l ≡ 3 → ⊥) → (length l ≡ 4 → ⊥) → (length l ≡ 5 → ⊥) → Appends 0 (on_words l) b m z
      go [] i j k m = e
      go (a ∷ []) i j k m = e
      go (a ∷ c ∷ []) i j k m = absurd (i refl)
      go (a ∷ c ∷ d ∷ []) i j k m = absurd (j refl)
      go (a ∷ c ∷ d ∷ f ∷ []) i j k m = absurd (k refl)
      go (a ∷ c ∷ d ∷ f ∷ g ∷ []) i j k m = absurd (m refl)
      go (a ∷ c ∷ d ∷ f ∷ g ∷ o ∷ l) i j k m = e
