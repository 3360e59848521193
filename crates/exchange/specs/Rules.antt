-- Rules by which `search` follows a definition's tests: what held on the way decides each `cond`.
use Rattle.std.specs.Prelude.{◌≡◌, ℕ, ◌≤◌, Bool, true, false, cond, List, [], ◌∷◌, length, ◌≢◌, refl}
use Rattle.std.proofs.Common.{sym, ap, ◌∙◌, eq-eqb, ne_eqb, arith}
use Rattle.errors.specs.declared.Fault.{Fault}
use Rattle.errors.specs.Rules.{same-value}
use Rattle.exchange.specs.Packets.{is_empty, failed, reply_of}
use Rattle.exchange.specs.Exchange.{Event, ExchangePhase, pending, ended, unfit, ExchangeResult, advance}
use Rattle.exchange.specs.Steps.{exchange_at, phase_in, order_of, result_in, SameCommand, Handled, draining_phase}
use Rattle.exchange.specs.declared.Order.{Order as CodeOrder}
use Rattle.exchange.specs.declared.Exchange.{Exchange}
use Rattle.exchange.specs.declared.Advanced.{Advanced}
use Rattle.exchange.specs.declared.Advanced.TheVariants.{Unfit, Pending, Arrived, Failed}

pub cond_true : {A : Type 0} (x a b : A) (t : Bool) → t ≡ true → x ≡ a → x ≡ cond t a b
cond_true x a b t h e = rw h e

pub cond_false : {A : Type 0} (x a b : A) (t : Bool) → t ≡ false → x ≡ b → x ≡ cond t a b
cond_false x a b t h e = rw h e

pub empty : (p : List ℕ) → length p ≡ 0 → is_empty p ≡ true
empty [] h = refl
empty (b ∷ p) h = absurd (omega arith)

pub not_empty : (p : List ℕ) → (length p ≢ 0) → is_empty p ≡ false
not_empty [] h = absurd (h refl)
not_empty (b ∷ p) h = refl

-- what a handler's result is to follow
module _ (x : Exchange) (packet : List ℕ) (r : Advanced) where
  pub on_true : (a b : ExchangeResult) (t : Bool) → t ≡ true → Handled x packet a r → Handled x packet (cond t a b) r
  on_true a b t h e = rw h e

  pub on_false : (a b : ExchangeResult) (t : Bool) → t ≡ false → Handled x packet b r → Handled x packet (cond t a b) r
  on_false a b t h e = rw h e

  pub goes_on : (next : CodeOrder) (phase : ℕ) (to : ExchangeResult) → r ≡ Pending next (exchange_at phase x.code x.clock) → phase ≤ draining_phase
      → pending (order_of next) (phase_in (exchange_at phase x.code x.clock)) ≡ to → Handled x packet to r
  goes_on next phase to e h q = rw e (record { result = q; kept = (h, refl, refl) })

  pub fails : (fault : Fault) → r ≡ Failed fault → Handled x packet (ended (failed fault)) r
  fails fault e = rw e (record { result = refl; kept = tt })

  pub arrives : r ≡ Arrived → Handled x packet (ended (reply_of x.code packet)) r
  arrives e = rw e (record { result = refl; kept = tt })

pub stays : (x : Exchange) (packet : List ℕ) (to : ExchangeResult) → unfit ≡ to → Handled x packet to Unfit
stays x packet to e = record { result = e; kept = tt }

-- a handler's promises are those of `advance` in the handler's phase
pub in_phase : (x : Exchange) (k : ℕ) (event : Event) (packet : List ℕ) (r : Advanced) → x.phase ≡ k
    → Handled x packet (advance (phase_in (exchange_at k x.code x.clock)) event) r
    → (result_in x packet r ≡ advance (phase_in x) event) × SameCommand x r
unfolding phase_in
in_phase x k event packet r e f =
    let same : phase_in (exchange_at k x.code x.clock) ≡ phase_in x = ap (λ (n : ℕ). phase_in (exchange_at n x.code x.clock)) (sym e) in
    (f.result ∙ ap (λ (s : ExchangePhase). advance s event) same, f.kept)

pub ruleset cases = (cond_true, cond_false, same-value, eq-eqb, ne_eqb)

pub ruleset step_rules = (on_true, on_false, same-value, empty, not_empty, eq-eqb, ne_eqb, goes_on, fails, arrives)
