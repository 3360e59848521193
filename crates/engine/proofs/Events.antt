-- What an event does to the running call, by the transition that it makes: the ways of `Core::event`.
use Rattle.std.specs.Prelude.{◌≡◌, ℕ, ◌<◌, ◌≤◌, Bool, true, false, List, length, Option, Some, None}
use mathlib.Core.Path.{refl, sym, ap, ◌∙◌, subst}
use native.Mathlib.Omega.{arith}
use borrow.Author.Tests.{eq-eqb, ne_eqb, lt-ltb, le-ltb, ltb-false}
use Rattle.errors.specs.Choice.{pick}
use Rattle.errors.specs.declared.Refusal.TheVariants.{OutOfTurn, ShortBuffer, OverLong}
use Rattle.exchange.specs.Exchange.{Event}
use Rattle.protocol.specs.Session.{packet_limit, buffer_need, packet_length}
use Rattle.engine.specs.Transitions.{fits, end_fits, reply_length, end_transition, transition_in, transition_of}
use Rattle.engine.specs.Exchanges.{reply_short_lem}
use Rattle.engine.specs.Core.{Arrays, After, unchanged, transitioned_of, is_long_of, admitted_of, event_core}
use Rattle.engine.specs.declared.call.End.{End}
use Rattle.engine.specs.declared.call.Transition.{Transition}
use Rattle.engine.specs.declared.call.Transition.TheVariants.{Orders, Sends, Ends}
use Rattle.engine.specs.declared.running.Core.{Core}

does_fit : (code : ℕ) (p : List ℕ) (t : Transition) → fits (transition_in code p (Some t)) ≡ true
does_fit code p (Orders o c x) = refl
does_fit code p (Sends c) = refl
does_fit code p (Ends e) = end_fits code p e

pub no_call : (s : Core) (f : Arrays) (e : Event) (b : List ℕ) (x : After Core) → s.call.kind ≡ 0 → x ≡ unchanged s f OutOfTurn b → x ≡ event_core s f e b
unfolding event_core pick
no_call s f e b x h q = rw (eq-eqb s.call.kind 0 h) q

module _ (s : Core) (f : Arrays) (e : Event) (p b : List ℕ) (t : Option Transition) (x : After Core)
    (is : transition_in s.exchange.code p t ≡ transition_of s.call s.exchange e) (runs : s.call.kind ≡ 0 → ⊥) where
  admitted : x ≡ admitted_of s f (transition_in s.exchange.code p t) e b → x ≡ event_core s f e b
  unfolding event_core pick
  admitted h = rw (ne_eqb s.call.kind 0 runs) (h ∙ ap (λ n. admitted_of s f n e b) is)

  pub does_not_fit : t ≡ None → x ≡ unchanged s f OutOfTurn b → x ≡ event_core s f e b
  unfolding admitted_of pick
  does_not_fit u h = admitted (rw u h)

  module _ (v : Transition) (has : t ≡ Some v) where
    pub buffer_short : length b < buffer_need → x ≡ unchanged s f ShortBuffer b → x ≡ event_core s f e b
    unfolding admitted_of pick
    buffer_short n h = admitted (rw (has, does_fit s.exchange.code p v, lt-ltb (length b) buffer_need n) h)

    module _ (l : Bool) (room : buffer_need ≤ length b) (known : l ≡ is_long_of e) where
      pub packet_long : l ≡ true → x ≡ unchanged s f OverLong b → x ≡ event_core s f e b
      unfolding admitted_of pick
      packet_long q h = admitted (rw (has, does_fit s.exchange.code p v, le-ltb (length b) buffer_need room, ← known, q) h)

      pub goes_through : (u : Transition) → l ≡ false → v ≡ u → x ≡ transitioned_of s f (transition_in s.exchange.code p (Some u)) b → x ≡ event_core s f e b
      unfolding admitted_of pick
      goes_through u q k h =
          admitted (rw (has, does_fit s.exchange.code p v, le-ltb (length b) buffer_need room, ← known, q) (h ∙ ap (λ w. transitioned_of s f (transition_in s.exchange.code p (Some w)) b) (sym k)))

-- a response within a packet that is not over-long
pub response_short : (s : Core) (e : Event) (p : List ℕ) (t : Option Transition) (v : Transition) (l : Bool) (end : End)
    → transition_in s.exchange.code p t ≡ transition_of s.call s.exchange e → l ≡ is_long_of e → l ≡ false → t ≡ Some v → v ≡ Ends end
    → reply_length (end_transition s.exchange.code p end) ≤ packet_limit
unfolding is_long_of
response_short s e p t v l end is known q has k =
    let short : reply_length (end_transition s.exchange.code p end) ≤ packet_length e
    = subst (λ m. reply_length m ≤ packet_length e) (sym is ∙ ap (transition_in s.exchange.code p) (has ∙ ap Some k)) (reply_short_lem s.call s.exchange e) in
    let few = ltb-false packet_limit (packet_length e) (sym known ∙ q) in
    omega (arith, few, short)
