-- A call's run against a chip comes to what its script comes to: for every script and every chip, from any books, in both modes, for any caller.
use Rattle.std.specs.Prelude.{List, [], ◌∷◌, ℕ, zero, suc}
use Rattle.exchange.specs.Exchange.{read}
use Rattle.protocol.specs.Scripts.{Byte}
use Rattle.protocol.specs.Names.{opening_read_time}
use Rattle.protocol.specs.Session.{Books, book_order, Session, event, Output, orders, answers, rejects, StepResult, step}
use Rattle.chip_protocol.specs.Channel.{Channel, event_for, channel_after}
use Rattle.chip_protocol.specs.Script.{Responder, chip_of}

-- ---- a run of the definitions' session

module _ (C : Responder) where
  pub record PlayEnd : Type 0 where
    pub session : Session
    pub channel : Channel (chip_of C)
    pub output : Output Byte
    pub left : ℕ

  abbrev pub play_end : Session → Channel (chip_of C) → Output Byte → ℕ → PlayEnd
  play_end s l out n = record { session = s; channel = l; output = out; left = n }

  abbrev pub play : ℕ → ℕ → Session → Channel (chip_of C) → Output Byte → PlayEnd
  play room zero s l out = play_end s l out zero
  play room (suc n) s l (answers a) = play_end s l (answers a) (suc n)
  play room (suc n) s l (rejects r) = play_end s l (rejects r) (suc n)
  play room (suc n) s l (orders x) =
      play room n (step s (event (event_for (chip_of C) l x) room)).state (channel_after (chip_of C) l x) (step s (event (event_for (chip_of C) l x) room)).output

-- an opening, whatever packets are still there: each is read, then `time`
abbrev pub reads_and : ℕ → List (List ℕ) → ℕ
reads_and n [] = suc n
reads_and n (p ∷ q) = suc (reads_and n q)

abbrev pub opening_books : List (List ℕ) → Books → Books
opening_books [] b = book_order (read opening_read_time) b
opening_books (p ∷ q) b = opening_books q (book_order (read opening_read_time) b)

-- a run from a step on
abbrev pub play_from : (C : Responder) → ℕ → ℕ → StepResult Session Byte → Channel (chip_of C) → PlayEnd C
play_from C room n r l = play C room n r.state l r.output
