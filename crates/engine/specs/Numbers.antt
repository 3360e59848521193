-- Calls as inputs, and the events by their numbers.
use Rattle.std.specs.Prelude.{◌≡◌, ℕ, zero, suc, List, [], ◌∷◌, ◌≢◌, slice_index_or, Some, None}
use Rattle.std.specs.Prelude.{Option as OptionIn}
use Rattle.std.proofs.Math.Option.{Option, none, some}
use Rattle.std.specs.Prelude.{refl}
use Rattle.errors.specs.declared.Refusal.TheVariants.{OutOfTurn}
use Rattle.exchange.specs.Exchange.{Event, ok, bad, pkt, time, fail, late, slept}
use Rattle.exchange.specs.Steps as steps
use Rattle.exchange.specs.declared.Event.{Event as CodeEvent}
use Rattle.protocol.specs.Calls.{Call, opening, reader}
use Rattle.engine.specs.Core.{Arrays, After, unchanged}
use Rattle.engine.specs.SessionSteps.{State, event_after, open_after, start_after}
use Rattle.calls.specs.Numbers.{call_of, reader_call}
use Rattle.calls.specs.Firsts.{start_by}
use Rattle.calls.specs.declared.start.Numbers.{Numbers}
use Rattle.engine.specs.Inputs.{Input, opens, asks, after_input}

abbrev pub call_input : ℕ → Call → List ℕ → Input
call_input k (opening mode) b = opens k mode b
call_input k (reader c) b = asks k c b

-- the events in the order of their numbers; a packet's bytes go with 2 alone
abbrev pub event_table : List ℕ → List (Option Event)
event_table packet = some ok ∷ some bad ∷ some (pkt packet) ∷ some time ∷ some fail ∷ some late ∷ some slept ∷ []

unfoldable pub event_by_of : ℕ → List ℕ → Option Event
event_by_of number packet = slice_index_or (event_table packet) number none

unfoldable pub known_in : OptionIn CodeEvent → List ℕ → Option Event
known_in (Some e) packet = some (steps.event_of e packet)
known_in None packet = none

-- an event with a number that has none fits no order
abbrev pub after_event_number : State → Arrays → Option Event → List ℕ → After State
after_event_number s f none b = unchanged s f OutOfTurn b
after_event_number s f (some e) b = event_after s f e b

-- a call of any number but 0 is one of an open reader
pub reader_input : (number : ℕ) (n : Numbers) (first second third fourth b : List ℕ) (s : State) (f : Arrays) → (number ≢ 0)
    → start_after s f n.caller (start_by (call_of number n first second third fourth)) b
    ≡ after_input s f (call_input n.caller (call_of number n first second third fourth) b)
reader_input zero n first second third fourth b s f h = absurd (h refl)
reader_input (suc k) n first second third fourth b s f h = rw (reader_call k n first second third fourth)

pub opening_input : (number : ℕ) (n : Numbers) (first second third fourth b : List ℕ) (s : State) (f : Arrays) → number ≡ 0
    → open_after s f n.caller n.x b ≡ after_input s f (call_input n.caller (call_of number n first second third fourth) b)
unfolding call_of
opening_input number n first second third fourth b s f h = rw h
