-- The entries as the engine is given them, and what it does to each, as the host sees it.
use Rattle.std.specs.Prelude.{ℕ, List, length, take}
use Rattle.exchange.specs.Exchange.{write, read, drain, pause, Event}
use Rattle.protocol.specs.Scripts.{done, type1, uid_and_ats, nothing, refused, refused_after}
use Rattle.protocol.specs.Calls.{ReaderCall, opening, reader}
use Rattle.protocol.specs.Session.{Entry, call, event}
use Rattle.protocol.specs.Session.{StepResult, step_result}
use Rattle.protocol.specs.Session.{Output as Given, orders, answers, rejects}
use Rattle.calls.specs.Firsts.{start_for}
use Rattle.engine.specs.Core.{Arrays, After}
use Rattle.engine.specs.SessionSteps.{State, arrays_in, state_in, stepped_of, event_after, Stepped}
use Rattle.engine.specs.SessionSteps.{open_after as opened_at, start_after}
use Rattle.engine.specs.declared.running.Output.{Output}
use Rattle.engine.specs.declared.running.Output.TheVariants.{Ack, Command, Read, Drain, Pause, Done, Type1, UidAndAts, Nothing, Failed, FailedAfter, Refused}
use Rattle.engine.specs.declared.session.Session.{Session}
use Rattle.framing.specs.Names.{ack_size}

-- what the host is given: an output with the buffer's bytes
abbrev pub output_of : Output → List ℕ → Given ℕ
output_of Ack b = orders (write (take ack_size b))
output_of (Command n) b = orders (write (take n b))
output_of (Read ms) b = orders (read ms)
output_of Drain b = orders drain
output_of (Pause us) b = orders (pause us)
output_of (Done n) b = answers (done (take n b))
output_of (Type1 n) b = answers (type1 (take n b))
output_of (UidAndAts n uid ats) b = answers (uid_and_ats (take n b) uid ats)
output_of Nothing b = answers nothing
output_of (Failed r) b = answers (refused r)
output_of (FailedAfter r n) b = answers (refused_after r n)
output_of (Refused r) b = rejects r

-- a call or an event, each with the bytes of the buffer that is lent with it
pub data Input : Type 0 where
  opens : ℕ → ℕ → List ℕ → Input  -- caller, mode
  asks : ℕ → ReaderCall → List ℕ → Input  -- caller
  gives : Event → List ℕ → Input

abbrev pub buffer_of : Input → List ℕ
buffer_of (opens k mode b) = b
buffer_of (asks k c b) = b
buffer_of (gives e b) = b

abbrev pub entry_of : Input → Entry
entry_of (opens k mode b) = call k (opening mode) (length b)
entry_of (asks k c b) = call k (reader c) (length b)
entry_of (gives e b) = event e (length b)

abbrev pub after_input : State → Arrays → Input → After State
after_input s f (opens k mode b) = opened_at s f k mode b
after_input s f (asks k c b) = start_after s f k (start_for c) b
after_input s f (gives e b) = event_after s f e b

abbrev pub step_with : Session → Input → Stepped
step_with s i = stepped_of (after_input (state_in s) (arrays_in s) i)

abbrev pub act : Session → Input → StepResult Session ℕ
act s i = step_result (step_with s i).session (output_of (step_with s i).output (step_with s i).buffer)
