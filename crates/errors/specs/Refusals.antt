-- The table of refusals, document 01's and document 02's: the number of each, the status byte of 15 and the status flags of 20.
use Rattle.std.specs.Prelude.{ℕ, Result, Ok, Err}
use Rattle.errors.specs.declared.Numbered.{Numbered}
use Rattle.errors.specs.declared.Refusal.{Refusal}
use Rattle.errors.specs.declared.Refusal.TheVariants.{OutOfTurn, ShortBuffer, OverLong, BadArgument, Bitrate, NotSendable}
use Rattle.errors.specs.declared.Fault.{Fault}
use Rattle.errors.specs.declared.Fault.TheVariants.{Transport, TimeOut, FalseStart, BrokenFrame, Length, FrameKind, Identifier, Code, Status, ShortResponse, NoCard, CrcA, Rate, CardStatus, OtherCard, UidLayout}
use Rattle.errors.specs.declared.RoundRefusal.{RoundRefusal}
use Rattle.errors.specs.declared.RoundRefusal.TheVariants.{AtOnce, StaleRound, ListFull}

abbrev pub plain : ℕ → Numbered
plain k = record { number = k; status = 0; status2 = 0 }

-- refused at once
abbrev pub numbered : Refusal → Numbered
numbered OutOfTurn = plain 1
numbered ShortBuffer = plain 2
numbered OverLong = plain 3
numbered BadArgument = plain 4
numbered Bitrate = plain 5
numbered NotSendable = plain 6

-- the two refusals that carry values
abbrev pub status_number : ℕ
status_number = 15

abbrev pub card_status_number : ℕ
card_status_number = 20

-- the end of a running call
abbrev pub fault_numbered : Fault → Numbered
fault_numbered Transport = plain 7
fault_numbered TimeOut = plain 8
fault_numbered FalseStart = plain 9
fault_numbered BrokenFrame = plain 10
fault_numbered Length = plain 11
fault_numbered FrameKind = plain 12
fault_numbered Identifier = plain 13
fault_numbered Code = plain 14
fault_numbered (Status s) = record { number = status_number; status = s; status2 = 0 }
fault_numbered ShortResponse = plain 16
fault_numbered NoCard = plain 17
fault_numbered CrcA = plain 18
fault_numbered Rate = plain 19
fault_numbered (CardStatus s t) = record { number = card_status_number; status = s; status2 = t }
fault_numbered OtherCard = plain 21
fault_numbered UidLayout = plain 22

-- a refused round
abbrev pub round_numbered : RoundRefusal → Numbered
round_numbered (AtOnce r) = numbered r
round_numbered StaleRound = plain 27
round_numbered ListFull = plain 28

-- by the status byte of 15; a of any other fault
abbrev pub by_status : {A : Type 0} → (ℕ → A) → A → Fault → A
by_status f a Transport = a
by_status f a TimeOut = a
by_status f a FalseStart = a
by_status f a BrokenFrame = a
by_status f a Length = a
by_status f a FrameKind = a
by_status f a Identifier = a
by_status f a Code = a
by_status f a (Status s) = f s
by_status f a ShortResponse = a
by_status f a NoCard = a
by_status f a CrcA = a
by_status f a Rate = a
by_status f a (CardStatus s t) = a
by_status f a OtherCard = a
by_status f a UidLayout = a

-- What an answer says: a value, or a refusal by its number and values.
pub data Returned : Type 0 where
  answered : ℕ → Returned
  refused : Numbered → Returned

-- What a function that answers a number or a refusal at once says by that.
unfoldable pub returned : Result ℕ Refusal → Returned
returned (Ok n) = answered n
returned (Err e) = refused (numbered e)
