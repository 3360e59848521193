-- Where a command stands whose wait has not ended, by the call's lines; an ACK-led packet that comes while it waits behind one changes nothing.
use Rattle.std.specs.Prelude.{◌≡◌, Bool, true, false, List, ℕ, eqb}
use Rattle.std.proofs.Math.Option.{some}
use Rattle.exchange.specs.Exchange.{read, Event, unfit, pending, ended}
use Rattle.exchange.specs.Exchange.{sending, reading, waiting}
use Rattle.protocol.specs.Session.{Rest, Phase, exchange}
use Rattle.protocol.specs.Session.{CallResult}
use Rattle.protocol.specs.Record.{Item, ordered, is_command, acked, pending_order}
use Rattle.protocol.specs.Runs.{LeadsTo}
use Rattle.protocol.specs.Chatter.{unanswered}

-- ---- the phase of a command whose wait has not ended

-- before its first ACK-led packet
pub data Unacked (phase : Phase) : Type 0 where
  is_sent : (code clock : ℕ) (rest : Rest) → phase ≡ exchange (sending code clock) rest → Unacked phase
  is_read : (code clock : ℕ) (rest : Rest) → phase ≡ exchange (reading code clock) rest → Unacked phase

-- behind it, under its clock
pub record Waits (xs : List Item) (phase : Phase) : Type 0 where
  pub code : ℕ
  pub clock : ℕ
  pub rest : Rest
  pub runs : eqb clock 0 ≡ false
  pub is : phase ≡ exchange (waiting code clock) rest
  pub asks : pending_order xs ≡ some (read clock)

-- by `unanswered` and `acked` of the lines
abbrev pub At : Bool → Bool → List Item → Phase → Type 0
At false a xs phase = Unit {0}
At true false xs phase = Unacked phase
At true true xs phase = Waits xs phase

abbrev pub Placed : List Item → Phase → Type 0
Placed xs phase = At (unanswered xs) (acked xs) xs phase

-- no wait is on
abbrev pub NoWait : List Item → Type 0
NoWait xs = unanswered xs ≡ false

abbrev pub PlacedBy : List Item → CallResult → Type 0
PlacedBy xs r = LeadsTo NoWait Placed xs r

-- ---- an order that is a command frame leads into its exchange

abbrev pub Proper : CallResult → Type 0
Proper unfit = Unit {0}
Proper (pending x phase) = is_command (ordered x) ≡ true → Unacked phase
Proper (ended a) = Unit {0}

abbrev pub Any : Event → CallResult → Type 0
Any e r = Proper r
