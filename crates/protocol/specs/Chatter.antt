-- Further ACK-led packets (document 02, N11): two records of one call that are alike but for these, and what is then the same of both.
-- ChatterSame has the theorem.
use Rattle.std.specs.Prelude.{◌≡◌, Bool, false, cond, ◌&&◌, ◌||◌, List, [], ◌∷◌}
use Rattle.exchange.specs.Packets.{ack_led}
use Rattle.exchange.specs.Exchange.{Event}
use Rattle.protocol.specs.Session.{Session, Entry, outputs, session_after}
use Rattle.protocol.specs.Record.{Item, ordered, accepted, is_command, acked, read_is}
use Rattle.protocol.specs.Claim.{allowed_between}
use Rattle.protocol.specs.Runs.{answers_in, writes_in}

-- ---- the relation, of a call's lines, the newest first, each packet as the mode sees it

-- since the last command frame only read orders, the write's `ok` and ACK-led packets: no packet and no failure has ended the command's wait
abbrev pub unanswered : List Item → Bool
unanswered [] = false
unanswered (x ∷ xs) = is_command x || (allowed_between x && unanswered xs)

-- the command waits behind its first ACK-led packet
abbrev pub waits : List Item → Bool
waits xs = unanswered xs && acked xs

-- what one record may have more of
abbrev pub is_further : Event → Bool
is_further e = read_is ack_led false e

-- the events without the ACK-led packets at these places. Orders are the engine's, and are not compared.
abbrev pub events_but : (List Item → Bool) → List Item → List Event
events_but place [] = []
events_but place (ordered x ∷ xs) = events_but place xs
events_but place (accepted e ∷ xs) = cond (place xs && is_further e) (events_but place xs) (e ∷ events_but place xs)

-- alike but for further ACK-led packets. `late`, a deadline that passed, is never left out: in one alone it makes the two differ.
abbrev pub Alike : (List Item → Bool) → List Item → List Item → Type 0
Alike place xs ys = events_but place xs ≡ events_but place ys

-- ---- what is the same

pub record SameFor (s : Session) (es ds : List Entry) : Type 0 where
  pub result : answers_in (outputs s es) ≡ answers_in (outputs s ds)
  pub written : writes_in (outputs s es) ≡ writes_in (outputs s ds)
  pub counted : (session_after s es).books.counts ≡ (session_after s ds).books.counts
  pub after : session_after s es ≡ session_after s ds
