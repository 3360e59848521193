-- Laws of what the functions answer.
use Rattle.std.specs.Prelude.{◌≡◌, refl, Bool, true, false, not, eqb, Ok, Err, ◌||◌, ◌==◌, List, [], ◌∷◌, ◌++◌, ℕ, ◌/◌, ◌%◌, ◌-◌, ◌≤◌, ◌<◌, length, take, drop, get_or}
use borrow.Author.Tests.{eqb-true}
use Rattle.std.proofs.Common.{ap, subst, arith, length-drop, drop-cons, take_all}
use Rattle.std.specs.List.{list_any}
use Rattle.protocol.specs.Rules.{any_nonzero_of}
use Rattle.protocol.specs.Arguments.{word}
use Rattle.protocol.specs.Scripts.{Answer, done, refused}
use Rattle.stages.specs.Decided.{Lays, AnswerRefines}
use Rattle.errors.specs.Choice.{pick}
use Rattle.errors.specs.declared.Fault.{Fault}
use Rattle.errors.specs.declared.Fault.TheVariants.{Status}
use Rattle.protocol.specs.Rules.{status_byte}
use Rattle.chipset.specs.Responses.{status_of, with_status}
use Rattle.stages.specs.Laws.{answer-done, answer_refused}
use Rattle.stages.specs.declared.Decision.{Decision}
use Rattle.stages.specs.declared.Decision.TheVariants.{Done, Refused}
use Rattle.stages.specs.declared.Layout.{Layout}

-- ---- a byte other than 0, by std's word

pub nonzero_any : (l : List ℕ) → list_any (λ b. not (b == 0)) l ≡ any_nonzero_of l
nonzero_any [] = refl
nonzero_any (b ∷ l) = ap (λ t. not (b == 0) || t) (nonzero_any l)

-- ---- answers

module _ (bs : List ℕ) where
  -- the data, and the more flag behind it
  pub flagged : (r : Layout) (n m k : ℕ) → n ≡ length bs - 1 → k ≡ m → ((f : List ℕ) → Lays f bs r (take n (drop 1 bs) ++ (k ∷ []))) → AnswerRefines bs (Done r) (done (drop 1 bs ++ (m ∷ [])))
  flagged r n m k e g h =
      let l : length (drop 1 bs) ≤ n = rw (length-drop 1 bs, e) (omega arith) in
      answer-done bs r _ (λ f. rw (take_all n (drop 1 bs) l, g) at (h f))

  -- the first byte, and two words behind it
  pub with_words : (r : Layout) (m n : ℕ) (l : List ℕ) → 1 ≤ length bs → l ≡ word m ++ word n → ((f : List ℕ) → Lays f bs r (take 1 bs ++ l)) → AnswerRefines bs (Done r) (done (get_or bs 0 0 ∷ (word m ++ word n)))
  with_words r m n l h e k =
      let first : take 1 bs ≡ get_or bs 0 0 ∷ [] = ap (take 1) (drop-cons bs 0 0 h) in
      answer-done bs r _ (λ f. subst (λ x. Lays f bs r (x ++ (word m ++ word n))) first (subst (λ x. Lays f bs r (take 1 bs ++ x)) e (k f)))

  -- the rates as their indexes give them
  pub answer_rates : (r : Decision) (m n m' n' : ℕ) → m ≡ m' → n ≡ n' → AnswerRefines bs r (done (get_or bs 0 0 ∷ (word m ++ word n)))
      → AnswerRefines bs r (done (get_or bs 0 0 ∷ (word m' ++ word n')))
  answer_rates r m n m' n' e f h = rw (← e, ← f) h

-- a word as std's bytes of a number
pub be_word : (x : List ℕ) (n : ℕ) → n < 65536 → x ≡ n / 256 % 256 ∷ n % 256 ∷ [] → get_or x 0 0 ∷ get_or x 1 0 ∷ [] ≡ word n
be_word x n h e = rw e (ap (λ k. k ∷ n % 256 ∷ []) (omega arith))

-- ---- the status of a response

module _ (bs : List ℕ) (a : Answer ℕ) where
  -- it is 0, and so there is a byte
  pub status_good : (u : Unit {0}) (r : Decision) → status_of bs ≡ Ok u → (1 ≤ length bs → AnswerRefines bs r a) → AnswerRefines bs r (with_status bs a)
  unfolding status_of with_status pick
  status_good u r h k = go (eqb (status_byte bs) 0) refl h
    where
      some : (l : List ℕ) → get_or l 0 255 ≡ 0 → 1 ≤ length l
      some [] e = omega (arith, e)
      some (x ∷ l) e = omega arith

      go : (t : Bool) → eqb (status_byte bs) 0 ≡ t → pick t (Ok (tt {0})) (Err (Status (status_byte bs))) ≡ Ok u → AnswerRefines bs r (pick t a (refused (Status (status_byte bs))))
      go true e h = k (some bs (eqb-true (status_byte bs) 0 e))
      go false e h = absurd (let z : ◌≡◌ {A = ℕ} 0 1 = cc in omega arith)

  pub status_bad : (f : Fault) → status_of bs ≡ Err f → AnswerRefines bs (Refused f) (with_status bs a)
  unfolding status_of with_status pick
  status_bad f h = go (eqb (status_byte bs) 0) h
    where
      go : (t : Bool) → pick t (Ok (tt {0})) (Err (Status (status_byte bs))) ≡ Err f → AnswerRefines bs (Refused f) (pick t a (refused (Status (status_byte bs))))
      go true h = absurd (let z : ◌≡◌ {A = ℕ} 0 1 = cc in omega arith)
      go false h = let e : Status (status_byte bs) ≡ f = cc in rw e (answer_refused bs f)
