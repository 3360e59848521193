-- What is printed for a line, case by case.
use mathlib.Core.Path.{◌≡◌, refl, sym, ap, ap₂, ◌∙◌}
use mathlib.Core.Bool.{Bool, true, false, false≢true}
use mathlib.Core.List.{List, [], ◌∷◌, ◌++◌}
use Rattle.std.specs.Prelude.{Option, None, Some}
use Prim.Native.Nat.{ℕ, ◌+◌, ◌≤◌, ◌<◌}
use native.Mathlib.Nat.{zero-add}
use native.Mathlib.Omega.{arith}
use borrow.Author.Tests.{eq-eqb, ne_eqb, lt-ltb, ltb-false}
use lib.Dec.{ltb}
use lib.ListN.{length, get_or, take, drop, length-append, length-drop}
use Rattle.errors.specs.Choice.{pick}
use Rattle.errors.specs.Refusals.{Returned, answered, refused, numbered}
use Rattle.errors.specs.declared.Numbered.{Numbered}
use Rattle.errors.specs.declared.Refusal.{Refusal}
use Rattle.errors.specs.declared.Refusal.TheVariants.{OverLong, BadArgument}
use Rattle.framing.specs.Build.{Left, left}
use Rattle.targets.specs.Bitrates.{ascii}
use Rattle.bench.specs.DecimalLaws.{decimal_short}
use Rattle.bench.specs.Lines.{feed}
use Rattle.bench.specs.Numbers.{number_of}
use Rattle.bench.specs.TextLaws.{both-put, appended, at-start}
use Rattle.bench.specs.Texts.{over, placed, placed_at, put_at, decimal_of, Appends}
use Rattle.bench.specs.Words.{words_of_lem}
use Rattle.bench.specs.declared.lines.Line.{Line}
use Rattle.bench.specs.declared.lines.Line.TheVariants.{Text, OverLong as LongLine, End}
use Rattle.slowest_call.specs.Kinds.{Kind, kinds}
use Rattle.slowest_call.specs.Tables.{kind_in}
use Rattle.std.specs.Prelude.{Result, Ok, Err}
use Rattle.errors.specs.Refusals.{returned}
use Rattle.slowest_call.specs.Texts.{script_text, kind_named_of, kind_count, kind_at, idle_limit, script_limit, script_room, script_of, refused_text, text_by, answer_text, line_text}
use Rattle.slowest_call.proofs.ScriptLaws.{script_short}

-- ---- a text at the buffer's start, and its length

-- text t of at most the limit at the start of b: r is its length, o the buffer then
abbrev pub Shown : List ℕ → List ℕ → ℕ → List ℕ → Type 0
Shown t b r o = (placed r o ≡ placed_at 0 t b) × (r ≤ script_limit)

shown_by : (t u b o : List ℕ) (r : ℕ) → t ≡ u → Shown t b r o → Shown u b r o
shown_by t u b o r e h = rw (← e) h

refused_length : (e : Refusal) → length (refused_text e) ≤ 28
unfolding refused_text
refused_length e = rw (length-append (ascii "refused ") (decimal_of (numbered e).number)) (omega (arith, decimal_short (numbered e).number))

pub refused_shown : (e : Refusal) (m : Numbered) (b o₁ o₂ : List ℕ) (r₁ r₂ : ℕ) → m ≡ numbered e → placed r₁ o₁ ≡ put_at 0 (ascii "refused ") b
    → placed r₂ o₂ ≡ put_at r₁ (decimal_of m.number) o₁ → length b ≡ script_room → Shown (refused_text e) b r₂ o₂
unfolding refused_text
refused_shown e m b o₁ o₂ r₁ r₂ c p q size =
    let d : List ℕ = decimal_of m.number in
    let a : Appends 0 (ascii "refused " ++ d) b r₂ o₂ = both-put (ascii "refused ") d b o₁ o₂ 0 r₁ r₂ p q in
    let n : length (ascii "refused " ++ d) ≤ 28 = rw (length-append (ascii "refused ") d) (omega (arith, decimal_short m.number)) in
    let s = at-start (ascii "refused " ++ d) b o₂ r₂ a (omega arith) in
    rw (← c) (s, omega (arith, ap (λ x. x.next) s, n))

-- ---- the cases of a line

-- what was found by a word of the line
pub kind_by : (l w : List ℕ) (r : Option ℕ) (k : Option Kind) → w ≡ get_or (words_of_lem l) 0 [] → kind_in r ≡ kind_named_of kinds w → kind_in r ≡ k → kind_named_of kinds (get_or (words_of_lem l) 0 []) ≡ k
kind_by l w r k e f g = ap (kind_named_of kinds) (sym e) ∙ sym f ∙ g

pub number_by : (l w : List ℕ) (r : Option ℕ) (n : Option ℕ) → w ≡ get_or (words_of_lem l) 1 [] → r ≡ number_of w → r ≡ n → number_of (get_or (words_of_lem l) 1 []) ≡ n
number_by l w r n e f g = ap number_of (sym e) ∙ sym f ∙ g

module _ (l : List ℕ) where
  abbrev name : List ℕ
  name = get_or (words_of_lem l) 0 []

  abbrev number : List ℕ
  number = get_or (words_of_lem l) 1 []

  not-two : (length (words_of_lem l) ≡ 2 → ⊥) → refused_text BadArgument ≡ answer_text l
  unfolding answer_text pick
  not-two h = rw (ne_eqb (length (words_of_lem l)) 2 h)

  by-words : length (words_of_lem l) ≡ 2 → text_by (kind_named_of kinds name) (number_of number) ≡ answer_text l
  unfolding answer_text pick
  by-words h = rw (eq-eqb (length (words_of_lem l)) 2 h)

  module _ (b o : List ℕ) (r : ℕ) where
    pub shown-other : (length (words_of_lem l) ≡ 2 → ⊥) → Shown (refused_text BadArgument) b r o → Shown (answer_text l) b r o
    shown-other h s = shown_by _ _ b o r (not-two h) s

    module _ (two : length (words_of_lem l) ≡ 2) where
      pub shown_no_kind : kind_named_of kinds name ≡ None → Shown (refused_text BadArgument) b r o → Shown (answer_text l) b r o
      shown_no_kind e s = shown_by _ _ b o r (ap (λ k. text_by k (number_of number)) (sym e) ∙ by-words two) s

      module _ (n : ℕ) (kind : kind_named_of kinds name ≡ Some (kind_at n)) where
        pub shown_no_number : number_of number ≡ None → Shown (refused_text BadArgument) b r o → Shown (answer_text l) b r o
        shown_no_number e s = shown_by _ _ b o r (ap₂ text_by (sym kind) (sym e) ∙ by-words two) s

        module _ (idle : ℕ) (many : number_of number ≡ Some idle) (within : n < kind_count) where
          by-script : pick (ltb idle_limit idle) (refused_text OverLong) (script_text (kind_at n) idle) ≡ answer_text l
          by-script = ap₂ text_by (sym kind) (sym many) ∙ by-words two

          isAnswered : Returned → Bool
          isAnswered (answered k) = true
          isAnswered (refused m) = false

          numberedIn : Numbered → Returned → Numbered
          numberedIn x (answered k) = x
          numberedIn x (refused m) = m

          place_in : Returned → ℕ
          place_in (answered k) = k
          place_in (refused m) = 0

          abbrev after : Bool → Left
          after t = pick t (left (refused (numbered OverLong)) b) (left (answered (length (script_text (kind_at n) idle))) (over 0 (script_text (kind_at n) idle) b))

          by_kind : script_of n idle b ≡ after (ltb idle_limit idle)
          unfolding script_of pick
          by_kind = rw (lt-ltb n kind_count within)

          pub shown-script : (p : Result ℕ Refusal) → left (returned p) o ≡ script_of n idle b → p ≡ Ok r → Shown (answer_text l) b r o
          unfolding returned pick isAnswered place_in
          shown-script p e d = shown_by _ _ b o r by-script (go (ltb idle_limit idle) refl (ap (λ x. left (returned x) o) (sym d) ∙ e ∙ by_kind))
            where
              go : (t : Bool) → ltb idle_limit idle ≡ t → left (answered r) o ≡ after t → Shown (pick t (refused_text OverLong) (script_text (kind_at n) idle)) b r o
              go true q f = absurd (false≢true (sym (ap (λ x. isAnswered x.result) f)))
              go false q f =
                  let t : List ℕ = script_text (kind_at n) idle in
                  let m : r ≡ length t = ap (λ x. place_in x.result) f in
                  (ap₂ placed (m ∙ sym (zero-add (length t))) (ap (λ x. x.buffer) f), omega (arith, script_short n idle within (ltb-false idle_limit idle q)))

          -- a script that is refused leaves the buffer as it was
          pub refused_script : (p : Result ℕ Refusal) (e : Refusal) (a : List ℕ) → left (returned p) a ≡ script_of n idle b → p ≡ Err e → Shown (refused_text e) a r o → Shown (answer_text l) b r o
          unfolding returned pick isAnswered numberedIn refused_text
          refused_script p e a f d s = shown_by _ _ b o r by-script (go (ltb idle_limit idle) (ap (λ x. left (returned x) a) (sym d) ∙ f ∙ by_kind))
            where
              go : (t : Bool) → left (refused (numbered e)) a ≡ after t → Shown (pick t (refused_text OverLong) (script_text (kind_at n) idle)) b r o
              go true q =
                  let same : numbered e ≡ numbered OverLong = ap (λ x. numberedIn (numbered OverLong) x.result) q in
                  let buffer : a ≡ b = ap (λ x. x.buffer) q in
                  rw (← buffer) (shown_by _ _ a o r (ap (λ m. ascii "refused " ++ decimal_of m.number) same) s)
              go false q = absurd (false≢true (ap (λ x. isAnswered x.result) q))

-- ---- a line feed behind the text

fed-shown : (t b o o' : List ℕ) (r r' : ℕ) → Shown t b r o → length o ≡ script_room → placed r' o' ≡ put_at r (feed ∷ []) o → placed r' o' ≡ placed_at 0 (t ++ (feed ∷ [])) b
unfolding over
fed-shown t b o o' r r' s size e =
    let z : length t ≡ r = sym (zero-add (length t)) ∙ sym (ap (λ x. x.next) s.0) in
    let h : length (t ++ drop (0 + length t) b) ≡ script_room = sym (ap (λ x. length x.buffer) s.0) ∙ size in
    let k : length t + length (drop (0 + length t) b) ≡ script_room = sym (length-append t (drop (0 + length t) b)) ∙ h in
    let d = length-drop (0 + length t) b in
    (appended (feed ∷ []) o o' r r' e).behind t b s.0 (omega (arith, s.1))

module _ (next : Line) (l b o o' : List ℕ) (r r' : ℕ) (size : length o ≡ script_room) (fed : placed r' o' ≡ put_at r (feed ∷ []) o) where
  pub reply_text : (n : ℕ) (t : List ℕ) → next ≡ Text n → t ≡ take n l → Shown (answer_text t) b r o → placed r' o' ≡ placed_at 0 (line_text next l) b
  unfolding line_text
  reply_text n t e f s = rw (e, ← f) (fed-shown _ b o o' r r' s size fed)

  pub reply_long : next ≡ LongLine → Shown (refused_text BadArgument) b r o → placed r' o' ≡ placed_at 0 (line_text next l) b
  unfolding line_text
  reply_long e s = rw e (fed-shown _ b o o' r r' s size fed)

pub reply-end : (next : Line) (l b : List ℕ) → next ≡ End → placed 0 b ≡ placed_at 0 (line_text next l) b
unfolding line_text over
reply-end next l b e = rw e
