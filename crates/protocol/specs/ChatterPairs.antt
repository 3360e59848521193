-- There are such pairs: wherever a record waits, any ACK-led packets may come in between, and whatever follows them then. And each command
-- whose clock is not 0 ms comes to wait.
use Rattle.std.specs.Prelude.{◌≡◌, Bool, true, false, List, [], ◌∷◌, ℕ, ◌+◌, ltb, replicate}
use Rattle.framing.specs.Frames.{ack}
use Rattle.exchange.specs.Exchange.{ok, pkt}
use Rattle.protocol.specs.Session.{Session, packet_limit, seen, buffer_need}
use Rattle.protocol.specs.Session.{packet_length}
use Rattle.protocol.specs.Record.{Item, Observed, frames, events, pending_order, acked, idle_reads}
use Rattle.protocol.specs.Runs.{EventAndRoom, event_with, seen_behind, seen_of}
use Rattle.protocol.specs.Chatter.{unanswered, waits, is_further, Alike}

-- the lines behind events
abbrev pub shown : Bool → Observed → Session → List EventAndRoom → List Item
shown mode w s es = seen_of mode (seen_behind w s es).lines

-- ---- two records that grow alike, the second with n packets more, which are idle reads

pub record Beside (n : ℕ) (xs ys : List Item) : Type 0 where
  pub alike : Alike waits xs ys
  pub more : events ys ≡ n + events xs
  pub idles : idle_reads ys ≡ n + idle_reads xs
  pub same_unanswered : unanswered xs ≡ unanswered ys
  pub same_acked : acked xs ≡ acked ys
  pub same_frames : frames xs ≡ frames ys
  pub same_pending : pending_order xs ≡ pending_order ys

-- ---- further packets

-- ACK-led as the mode sees them, none over-long, each with a buffer that is long enough
abbrev pub Furthers : Bool → List EventAndRoom → Type 0
Furthers mode [] = Unit {0}
Furthers mode (e ∷ es) =
    ((is_further (seen mode e.event) ≡ true) × (ltb packet_limit (packet_length (seen mode e.event)) ≡ false) × (ltb e.room buffer_need ≡ false)) × Furthers mode es

-- n times the bare ACK
abbrev pub acks : ℕ → List EventAndRoom
acks n = replicate n (event_with (pkt ack) buffer_need)

-- ---- a command that was ordered comes to wait

-- its frame is written, and ACK comes
abbrev pub acknowledged : List EventAndRoom
acknowledged = event_with ok buffer_need ∷ event_with (pkt ack) buffer_need ∷ []
