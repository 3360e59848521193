-- The words of a line are no longer together than the line, so that there is room for the bytes of each.
use mathlib.Core.Path.{◌≡◌, refl, sym, ap, ap₂, ◌∙◌}
use mathlib.Core.Bool.{Bool, true, false}
use mathlib.Core.List.{List, [], ◌∷◌}
use mathlib.Core.Option.{some}
use Rattle.std.specs.Prelude.{Some, replicate}
use Prim.Native.Nat.{ℕ, zero, suc, ◌+◌, ◌≤◌, ◌<◌}
use native.Mathlib.Numerals.{add-one}
use native.Mathlib.Omega.{arith}
use lib.Dec.{eqb}
use lib.ListN.{length, get_or, drop, drop_of_length-le}
use lib.Seq.{drop-cons}
use Rattle.errors.specs.Choice.{pick}
use Rattle.bench.specs.Words.{ahead, words_of_lem}
use Rattle.bench_input.specs.Arguments.{Arguments, Read, word_at, line_limit, bytes_room}
use Rattle.bench_input.specs.Letters.{argument, arguments_of, no_numbers, no_arguments}
use Rattle.bench_input.specs.Readings.{end_at, EndsFor, taken_in, TakenWithin, Takes}
use Rattle.bench_input.specs.declared.letters.Taken.{Taken}
use Rattle.bench_input.proofs.EndLaws.{drop_more}

unfoldable pub total_length : List (List ℕ) → ℕ
total_length [] = 0
total_length (w ∷ ws) = length w + total_length ws

total-ahead : (b : ℕ) (ws : List (List ℕ)) → total_length (ahead b ws) ≤ suc (total_length ws)
unfolding ahead total_length
total-ahead b [] = omega arith
total-ahead b (w ∷ ws) = omega arith

pub total_words : (l : List ℕ) → total_length (words_of_lem l) ≤ length l
unfolding words_of_lem pick total_length
total_words [] = omega arith
total_words (b ∷ l) = go (total_words l) (eqb b 32)
  where
    go : total_length (words_of_lem l) ≤ length l → (t : Bool) → total_length (pick t ([] ∷ words_of_lem l) (ahead b (words_of_lem l))) ≤ suc (length l)
    go h true = omega arith
    go h false = omega (arith, total-ahead b (words_of_lem l))

pub total-at : (ws : List (List ℕ)) (k : ℕ) → length (get_or ws k []) + total_length (drop (suc k) ws) ≤ total_length (drop k ws)
unfolding total_length
total-at [] zero = omega arith
total-at [] (suc k) = omega arith
total-at (w ∷ ws) zero = omega arith
total-at (w ∷ ws) (suc k) = total-at ws k

-- The words behind the name, of which k are read: what was taken stands in o, and b is as it was behind it.
pub record LettersBegun (l letters b o : List ℕ) (t : Taken) (k : ℕ) : Type 0 where
  pub held : EndsFor t.count t.ends
  pub says : arguments_of letters (drop 1 (words_of_lem l)) no_arguments ≡ arguments_of (drop k letters) (drop (k + 1) (words_of_lem l)) (taken_in o t)
  pub room : end_at t.ends 3 + total_length (drop (k + 1) (words_of_lem l)) ≤ length l
  pub behind : drop (end_at t.ends 3) o ≡ drop (end_at t.ends 3) b
  pub size : length o ≡ bytes_room

abbrev nothing : Taken
nothing = record { numbers = no_numbers; count = 0; ends = replicate 4 0 }

pub begin : (l letters b : List ℕ) → length b ≡ bytes_room → LettersBegun l letters b b nothing 0
begin l letters b h = record { held = (refl, refl, refl, refl); says = refl; room = omega (arith, total_words l, total-at (words_of_lem l) 0); behind = refl; size = h }

module _ (l letters b o : List ℕ) (t : Taken) (k : ℕ) (i : LettersBegun l letters b o t k) (words : length letters + 1 ≡ length (words_of_lem l)) where
  -- nothing is left
  pub all_read : length letters ≤ k → some (taken_in o t) ≡ arguments_of letters (drop 1 (words_of_lem l)) no_arguments
  unfolding arguments_of
  all_read h = sym (i.says ∙ rw (drop_of_length-le letters {i = k} h, drop_of_length-le (words_of_lem l) {i = k + 1} (omega arith)))

  module _ (more : k < length letters) where
    pub next_fits : length l ≤ line_limit → end_at t.ends 3 + length (word_at l (k + 1)) ≤ length o
    next_fits h = omega (arith, i.room, i.size, total-at (words_of_lem l) (k + 1))

    next_word : (a : Arguments) → arguments_of (drop k letters) (drop (k + 1) (words_of_lem l)) a
        ≡ argument (get_or letters k 0) (word_at l (k + 1)) a (λ z. arguments_of (drop (k + 1) letters) (drop (k + 1 + 1) (words_of_lem l)) z)
    unfolding arguments_of
    next_word a =
        ap₂ (λ ls ws. arguments_of ls ws a)
        (drop-cons letters k 0 more ∙ ap (λ n. get_or letters k 0 ∷ drop n letters) (sym (add-one k)))
        (drop-cons (words_of_lem l) (k + 1) [] (omega arith) ∙ ap (λ n. word_at l (k + 1) ∷ drop n (words_of_lem l)) (sym (add-one (k + 1))))

    abbrev later : Arguments → Read
    later z = arguments_of (drop (k + 1) letters) (drop (k + 1 + 1) (words_of_lem l)) z

    pub next_begun : (o' : List ℕ) (u : Taken) → Takes (get_or letters k 0) (word_at l (k + 1)) t o o' (Some u) → length o' ≡ length o → LettersBegun l letters b o' u (k + 1)
    next_begun o' u read same =
        let g : TakenWithin (end_at t.ends 3) (length (word_at l (k + 1))) o o' (Some u) = read.in_order_of in
        record {
          held = g.0;
          says = i.says ∙ next_word (taken_in o t) ∙ sym (read.says later);
          room = omega (arith, i.room, total-at (words_of_lem l) (k + 1), ap (λ n. total_length (drop n (words_of_lem l))) (add-one (k + 1)));
          behind = g.3 ∙ drop_more (end_at t.ends 3) (end_at u.ends 3) b o g.1 i.behind;
          size = same ∙ i.size;
        }
