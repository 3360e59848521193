-- Events by their numbers.
use Rattle.std.specs.Prelude.{◌≡◌, ℕ, List, Some, None}
use Rattle.std.specs.Prelude.{Option as OptionIn}
use mathlib.Core.Path.{refl}
use mathlib.Core.Option.{Option, none}
use Rattle.errors.specs.declared.Refusal.TheVariants.{OutOfTurn}
use Rattle.exchange.specs.Exchange as exchange
use Rattle.exchange.specs.Steps.{event_of}
use Rattle.exchange.specs.declared.Event.{Event}
use Rattle.engine.specs.Core.{Arrays, After, unchanged}
use Rattle.engine.specs.SessionSteps.{State, event_after}
use Rattle.engine.specs.Numbers.{known_in, after_event_number}

no_event : (k : OptionIn Event) (p : List ℕ) → ((e : Event) → k ≡ Some e → ⊥) → known_in k p ≡ none
unfolding known_in
no_event (Some e) p h = absurd (h e refl)
no_event None p h = refl

pub not_known : (s : State) (f : Arrays) (r : After State) (k : OptionIn Event) (e : Option exchange.Event) (p b : List ℕ)
    → ((e : Event) → k ≡ Some e → ⊥) → known_in k p ≡ e → r ≡ unchanged s f OutOfTurn b → r ≡ after_event_number s f e b
not_known s f r k e p b t q h = rw (← q, no_event k p t) h

pub is_known : (s : State) (f : Arrays) (r : After State) (k : OptionIn Event) (v : Event) (e : Option exchange.Event) (p b : List ℕ)
    → k ≡ Some v → known_in k p ≡ e → r ≡ event_after s f (event_of v p) b → r ≡ after_event_number s f e b
unfolding known_in
is_known s f r k v e p b t q h = rw (← q, t) h
