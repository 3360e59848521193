-- Laws of what is printed: each text behind the one before it, and that all fit.
use mathlib.Core.Path.{◌≡◌, sym, ap, ◌∙◌}
use mathlib.Core.Bool.{Bool, true, false}
use mathlib.Core.List.{List, [], ◌∷◌, ◌++◌, append_assoc, append-nil}
use Prim.Native.Nat.{ℕ, zero, suc, ◌+◌, ◌*◌, ◌≤◌, ◌<◌}
use native.Mathlib.Numerals.{add-one}
use native.Mathlib.Omega.{arith}
use lib.ListN.{length, take, drop, get_or, length-append, length-take}
use lib.Seq.{take-suc, take_all}
use Rattle.errors.specs.Choice.{pick}
use Rattle.errors.specs.Refusals.{round_numbered}
use Rattle.errors.specs.declared.Numbered.{Numbered}
use Rattle.errors.specs.declared.RoundRefusal.{RoundRefusal}
use Rattle.targets.specs.Bitrates.{ascii}
use Rattle.bench.specs.DecimalLaws.{decimal_short}
use Rattle.bench.specs.Hex.{hex_of}
use Rattle.bench.specs.HexLaws.{hex_short}
use Rattle.bench.specs.TextLaws.{appended, none_put, both_appended, then_put, both-put}
use Rattle.bench.specs.Texts.{placed, put_at, decimal_of, Appends}
use Rattle.bench.specs.Words.{ahead, words_of_lem}
use Rattle.presence_list.specs.Names.{identifier_limit, length_offset, bitrate_offset, card_limit}
use Rattle.presence_list.specs.Memory.{length_in}
use Rattle.presence_lines.specs.Lines.{kinds, bitrates, card_text, rate_text, cards_text, lists_text, refused_text}

module _ (e : List ℕ) where
  pub card-done : (w p q o o₁ o₂ o₃ o₄ : List ℕ) (at r₁ r₂ r₃ r₄ : ℕ) → placed r₁ o₁ ≡ put_at at (ascii " ") o → placed r₂ o₂ ≡ put_at r₁ w o₁ → placed r₃ o₃ ≡ put_at r₂ (ascii ":") o₂
      → placed r₄ o₄ ≡ put_at r₃ (hex_of q) o₃ → w ≡ get_or (words_of_lem (ascii "A T1 B F DEP")) (get_or e 0 0) [] → q ≡ take (get_or e length_offset 0) p → p ≡ take identifier_limit (drop 1 e)
      → Appends at (card_text e) o r₄ o₄
  unfolding card_text kinds
  card-done w p q o o₁ o₂ o₃ o₄ at r₁ r₂ r₃ r₄ e₁ f g h kind part all =
      let is : q ≡ take (length_in e) (take identifier_limit (drop 1 e)) = part ∙ ap (take (length_in e)) all in
      rw (← kind, ← is) (then_put _ _ _ _ _ _ _ _ (then_put _ _ _ _ _ _ _ _ (both-put _ _ _ _ _ _ _ _ e₁ f) g) h)

  pub bitrate_shown : (t : Bool) (w o o₁ o₂ : List ℕ) (at r₁ r₂ : ℕ) → t ≡ true → placed r₁ o₁ ≡ put_at at (ascii ":") o → placed r₂ o₂ ≡ put_at r₁ w o₁
      → w ≡ get_or (words_of_lem (ascii "106A 212F 424F 106B 212B 424B 848B")) (get_or e bitrate_offset 0) [] → Appends at (rate_text t e) o r₂ o₂
  unfolding rate_text bitrates pick
  bitrate_shown t w o o₁ o₂ at r₁ r₂ h e₁ f is = rw (h, ← is) (both-put _ _ _ _ _ _ _ _ e₁ f)

-- the cards of a list, one behind the other
cards_more : (t : Bool) (es : List (List ℕ)) (e : List ℕ) → cards_text t (es ++ (e ∷ [])) ≡ cards_text t es ++ card_text e ++ rate_text t e
unfolding cards_text
cards_more t [] e = append-nil (card_text e ++ rate_text t e)
cards_more t (x ∷ es) e =
    ap (λ (l : List ℕ). card_text x ++ rate_text t x ++ l) (cards_more t es e)
    ∙ sym (append_assoc (card_text x ++ rate_text t x) (cards_text t es ++ card_text e) (rate_text t e))
    ∙ ap (λ (l : List ℕ). l ++ rate_text t e) (sym (append_assoc (card_text x ++ rate_text t x) (cards_text t es) (card_text e)))

pub cards_none : (t : Bool) (es : List (List ℕ)) (o : List ℕ) (at : ℕ) → Appends at (cards_text t (take 0 es)) o at o
unfolding cards_text
cards_none t es o at = none_put o at

pub cards_turn : (t : Bool) (i : ℕ) (es : List (List ℕ)) (o o₁ o₂ o₃ : List ℕ) (at r₁ r₂ r₃ : ℕ) → i < length es → Appends at (cards_text t (take i es)) o r₁ o₁
    → Appends r₁ (card_text (get_or es i [])) o₁ r₂ o₂ → Appends r₂ (rate_text t (get_or es i [])) o₂ r₃ o₃ → Appends at (cards_text t (take (i + 1) es)) o r₃ o₃
cards_turn t i es o o₁ o₂ o₃ at r₁ r₂ r₃ h before card rate =
    let more : take (i + 1) es ≡ take i es ++ (get_or es i [] ∷ []) = ap (λ (k : ℕ). take k es) (add-one i) ∙ take-suc es i [] h in
    rw (more, cards_more t (take i es) (get_or es i [])) (both_appended _ _ _ _ _ _ _ _ (both_appended _ _ _ _ _ _ _ _ before card) rate)

pub cards_all : (t : Bool) (i : ℕ) (es : List (List ℕ)) (o o₁ : List ℕ) (at r : ℕ) → length es ≤ i → Appends at (cards_text t (take i es)) o r o₁ → Appends at (cards_text t es) o r o₁
cards_all t i es o o₁ at r h e = rw (take_all i es h) at e

pub lists_done : (came left present : List (List ℕ)) (o o₁ o₂ o₃ o₄ o₅ o₆ : List ℕ) (r₁ r₂ r₃ r₄ r₅ r₆ : ℕ) → placed r₁ o₁ ≡ put_at 0 (ascii "arrived") o → Appends r₁ (cards_text false came) o₁ r₂ o₂
    → placed r₃ o₃ ≡ put_at r₂ (ascii " departed") o₂ → Appends r₃ (cards_text false left) o₃ r₄ o₄ → placed r₅ o₅ ≡ put_at r₄ (ascii " present") o₄ → Appends r₅ (cards_text true present) o₅ r₆ o₆
    → Appends 0 (lists_text came left present) o r₆ o₆
unfolding lists_text
lists_done came left present o o₁ o₂ o₃ o₄ o₅ o₆ r₁ r₂ r₃ r₄ r₅ r₆ a b c d e f =
    let one = both_appended _ _ _ _ _ _ _ _ (appended _ _ _ _ _ a) b in
    let two = both_appended _ _ _ _ _ _ _ _ (then_put _ _ _ _ _ _ _ _ one c) d in
    both_appended _ _ _ _ _ _ _ _ (then_put _ _ _ _ _ _ _ _ two e) f

pub refused_done : (e : RoundRefusal) (n : Numbered) (o o₁ o₂ : List ℕ) (r₁ r₂ : ℕ) → n ≡ round_numbered e → placed r₁ o₁ ≡ put_at 0 (ascii "refused ") o → placed r₂ o₂ ≡ put_at r₁ (decimal_of n.number) o₁
    → Appends 0 (refused_text e) o r₂ o₂
unfolding refused_text
refused_done e n o o₁ o₂ r₁ r₂ is a b = rw (← is) (both-put _ _ _ _ _ _ _ _ a b)

-- ---- room for a text

kind_short : (k : ℕ) → length (get_or kinds k []) ≤ 3
unfolding kinds words_of_lem ahead pick
kind_short zero = omega arith
kind_short (suc zero) = omega arith
kind_short (suc (suc zero)) = omega arith
kind_short (suc (suc (suc zero))) = omega arith
kind_short (suc (suc (suc (suc zero)))) = omega arith
kind_short (suc (suc (suc (suc (suc k))))) = omega arith

bitrate_short : (k : ℕ) → length (get_or bitrates k []) ≤ 4
unfolding bitrates words_of_lem ahead pick
bitrate_short zero = omega arith
bitrate_short (suc zero) = omega arith
bitrate_short (suc (suc zero)) = omega arith
bitrate_short (suc (suc (suc zero))) = omega arith
bitrate_short (suc (suc (suc (suc zero)))) = omega arith
bitrate_short (suc (suc (suc (suc (suc zero))))) = omega arith
bitrate_short (suc (suc (suc (suc (suc (suc zero)))))) = omega arith
bitrate_short (suc (suc (suc (suc (suc (suc (suc k))))))) = omega arith

card_short : (e : List ℕ) → length (card_text e) ≤ 38
unfolding card_text
card_short e =
    let p : List ℕ = take (length_in e) (take identifier_limit (drop 1 e)) in
    let w : List ℕ = get_or kinds (get_or e 0 0) [] in
    omega (arith, length-append (ascii " " ++ w ++ ascii ":") (hex_of p), length-append (ascii " " ++ w) (ascii ":"), length-append (ascii " ") w, kind_short (get_or e 0 0), hex_short p, length-take (length_in e) (take identifier_limit (drop 1 e)), length-take identifier_limit (drop 1 e))

shown_short : (e : List ℕ) → length (rate_text true e) ≤ 5
unfolding rate_text pick
shown_short e = omega (arith, length-append (ascii ":") (get_or bitrates (get_or e bitrate_offset 0) []), bitrate_short (get_or e bitrate_offset 0))

hidden_short : (e : List ℕ) → length (rate_text false e) ≤ 0
unfolding rate_text pick
hidden_short e = omega arith

cards_short : (es : List (List ℕ)) → length (cards_text false es) ≤ 38 * length es
unfolding cards_text
cards_short [] = omega arith
cards_short (e ∷ es) = omega (arith, cards_short es, length-append (card_text e ++ rate_text false e) (cards_text false es), length-append (card_text e) (rate_text false e), card_short e, hidden_short e)

present_short : (es : List (List ℕ)) → length (cards_text true es) ≤ 43 * length es
unfolding cards_text
present_short [] = omega arith
present_short (e ∷ es) = omega (arith, present_short es, length-append (card_text e ++ rate_text true e) (cards_text true es), length-append (card_text e) (rate_text true e), card_short e, shown_short e)

pub lists_short : (came left present : List (List ℕ)) → length came ≤ card_limit → length left ≤ card_limit → length present ≤ card_limit → length (lists_text came left present) ≤ 8000
unfolding lists_text
lists_short came left present a b c =
    omega (
      arith,
      length-append (ascii "arrived" ++ cards_text false came ++ ascii " departed" ++ cards_text false left ++ ascii " present") (cards_text true present),
      length-append (ascii "arrived" ++ cards_text false came ++ ascii " departed" ++ cards_text false left) (ascii " present"),
      length-append (ascii "arrived" ++ cards_text false came ++ ascii " departed") (cards_text false left),
      length-append (ascii "arrived" ++ cards_text false came) (ascii " departed"),
      length-append (ascii "arrived") (cards_text false came),
      cards_short came,
      cards_short left,
      present_short present,
    )

pub refused_short : (e : RoundRefusal) → length (refused_text e) ≤ 28
unfolding refused_text
refused_short e = omega (arith, length-append (ascii "refused ") (decimal_of (round_numbered e).number), decimal_short (round_numbered e).number)
