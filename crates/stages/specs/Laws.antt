-- Laws of layouts and decisions.
use Rattle.std.specs.Prelude.{◌≡◌, refl, Bool, true, false, List, [], ◌∷◌, ◌++◌, ℕ, zero, suc, ◌≤◌, ◌<◌, eqb, length, take, get_or}
use Rattle.std.proofs.Common.{sym, ap, ◌∙◌, append-nil, arith, eq-eqb, ne_eqb, lt-ltb, le-ltb, length-drop, drop_of_length-le, take_all}
use Rattle.std.proofs.Math.ListN.{get_or-eq_default}
use Rattle.std.proofs.Math.Seq.{take-length}
use Rattle.errors.specs.Choice.{pick}
use Rattle.errors.specs.declared.Fault.{Fault}
use Rattle.errors.specs.declared.Fault.TheVariants.{Status}
use Rattle.protocol.specs.Scripts.{Answer, done, type1, uid_and_ats, nothing, refused, refused_after}
use Rattle.stages.specs.Stages.{send, keep, next, put, pause, ends, refuse}
use Rattle.stages.specs.Stages as stages
use Rattle.stages.specs.Decided.{Lays, DecisionRefines, AnswerRefines, Sends, Commands}
use Rattle.stages.specs.declared.Command.{Command}
use Rattle.stages.specs.declared.Decision.{Decision}
use Rattle.stages.specs.declared.Decision.TheVariants.{Send, Keep, Next, Put, Pause, Done, Type1, UidAndAts, Nothing, Refused, RefusedAfter}
use Rattle.stages.specs.declared.Layout.{Layout}

-- ---- a byte at a place

pub any_default : (l : List ℕ) (i d e : ℕ) → i < length l → get_or l i d ≡ get_or l i e
any_default [] i d e h = absurd (omega arith)
any_default (x ∷ l) zero d e h = refl
any_default (x ∷ l) (suc i) d e h = any_default l i d e (omega arith)

pub default_behind : (l : List ℕ) (i d : ℕ) → length l ≤ i → d ≡ get_or l i d
default_behind l i d h = sym (get_or-eq_default l d {n = i} h)

-- ---- layouts

pub lays_found : (f b : List ℕ) (r : Layout) → Lays f b r (take (length f) f ++ []) → Lays f b r f
lays_found f b r e = rw (append-nil (take (length f) f), take-length f) at e

-- ---- a decision follows the tests of its definition

module _ (f b : List ℕ) (r : Decision) (x y : stages.Decision) (t : Bool) where
  pub decision_true : t ≡ true → DecisionRefines f b r x → DecisionRefines f b r (pick t x y)
  unfolding pick
  decision_true h e = rw h e

  pub decision_false : t ≡ false → DecisionRefines f b r y → DecisionRefines f b r (pick t x y)
  unfolding pick
  decision_false h e = rw h e

module _ (f b : List ℕ) where
  pub decision_send : (n : ℕ) → DecisionRefines f b (Send n) (send n)
  decision_send n = record { is = refl; fits = tt }

  pub decision_keep : (n : ℕ) (l : Layout) (bytes : List ℕ) → Lays f b l bytes → DecisionRefines f b (Keep n l) (keep n bytes)
  decision_keep n l bytes h = record { is = ap (keep n) h.is; fits = h.fits }

  pub decision_next : (n c : ℕ) (l : Layout) (bytes : List ℕ) → Lays f b l bytes → DecisionRefines f b (Next n c l) (next n c bytes)
  decision_next n c l bytes h = record { is = ap (next n c) h.is; fits = h.fits }

  pub decision_put : (n : ℕ) (h : List ℕ) → DecisionRefines f b (Put n h) (put n h)
  decision_put n h = record { is = refl; fits = tt }

  pub decision_pause : (us n : ℕ) → DecisionRefines f b (Pause us n) (pause us n)
  decision_pause us n = record { is = refl; fits = tt }

  pub decision_done : (l : Layout) (bytes : List ℕ) → Lays f b l bytes → DecisionRefines f b (Done l) (ends (done bytes))
  decision_done l bytes h = record { is = ap (λ x. ends (done x)) h.is; fits = h.fits }

  pub decision_type1 : (l : Layout) (bytes : List ℕ) → Lays f b l bytes → DecisionRefines f b (Type1 l) (ends (type1 bytes))
  decision_type1 l bytes h = record { is = ap (λ x. ends (type1 x)) h.is; fits = h.fits }

  pub decision_uid_and_ats : (l : Layout) (bytes : List ℕ) (uid ats : ℕ) → Lays f b l bytes → DecisionRefines f b (UidAndAts l uid ats) (ends (uid_and_ats bytes uid ats))
  decision_uid_and_ats l bytes uid ats h = record { is = ap (λ x. ends (uid_and_ats x uid ats)) h.is; fits = h.fits }

  pub decision_nothing : DecisionRefines f b Nothing (ends nothing)
  decision_nothing = record { is = refl; fits = tt }

  pub decision_refused : (x : Fault) → DecisionRefines f b (Refused x) (refuse x)
  decision_refused x = record { is = refl; fits = tt }

  pub decision_after : (x : Fault) (n : ℕ) → DecisionRefines f b (RefusedAfter x n) (ends (refused_after x n))
  decision_after x n = record { is = refl; fits = tt }

-- a test on a number that a call answered
pub is_eqb : (r x k : ℕ) → r ≡ x → r ≡ k → eqb x k ≡ true
is_eqb r x k e f = eq-eqb x k (sym e ∙ f)

pub not_eqb : (r x k : ℕ) → r ≡ x → (r ≡ k → ⊥) → eqb x k ≡ false
not_eqb r x k e f = ne_eqb x k (λ g. f (e ∙ g))

pub ruleset tests = (is_eqb, not_eqb, eq-eqb, ne_eqb, lt-ltb, le-ltb)

pub ruleset decided = (decision_true, decision_false, decision_send, decision_pause, decision_nothing, decision_refused, tests)

-- ---- the same of the answer to a call of one command

module _ (b : List ℕ) (r : Decision) (x y : Answer ℕ) (t : Bool) where
  pub answer_true : t ≡ true → AnswerRefines b r x → AnswerRefines b r (pick t x y)
  unfolding pick
  answer_true h e = rw h e

  pub answer_false : t ≡ false → AnswerRefines b r y → AnswerRefines b r (pick t x y)
  unfolding pick
  answer_false h e = rw h e

module _ (b : List ℕ) where
  pub answer-nothing : AnswerRefines b Nothing nothing
  answer-nothing = record { decision = λ f. decision_nothing f b }

  pub answer_refused : (x : Fault) → AnswerRefines b (Refused x) (refused x)
  answer_refused x = record { decision = λ f. decision_refused f b x }

  pub answer_status : (s x : ℕ) → s ≡ x → AnswerRefines b (Refused (Status s)) (refused (Status x))
  answer_status s x e = record { decision = λ f. record { is = ap (λ y. refuse (Status y)) e; fits = tt } }

  pub answer-done : (l : Layout) (bytes : List ℕ) → ((f : List ℕ) → Lays f b l bytes) → AnswerRefines b (Done l) (done bytes)
  answer-done l bytes h = record { decision = λ f. decision_done f b l bytes (h f) }

pub ruleset answers_by_tests = (answer_true, answer_false, answer-nothing, answer_refused, answer_status, tests)

-- ---- commands

pub sends-any : (c : Command) (pending : List ℕ) (f : List ℕ → stages.Command) → Commands c f → Sends c pending (f pending)
sends-any c pending f h = record { is = h.is pending; fits = h.fits }
