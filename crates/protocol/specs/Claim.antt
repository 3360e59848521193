-- Demand 3 as a statement about a record. Lines are counted from the newest, which is line 0.
use Rattle.std.specs.Prelude.{◌≡◌, Bool, true, false, ℕ, suc, ◌≤◌, ◌<◌, min, length, drop, get_or}
use mathlib.Core.List.{List, [], ◌∷◌, Memᴰ}
use Rattle.std.proofs.Math.Option.{Option, none, some}
use Rattle.std.proofs.Math.ListN.{get_elem?}
use Rattle.exchange.specs.Packets.{command_frame, ack_led, response, reply_of}
use Rattle.exchange.specs.Exchange.{write, read, drain, pause, ok, bad, pkt, time, fail, late, slept}
use Rattle.protocol.specs.Scripts.{Byte, card, Answer, done, type1, uid_and_ats, nothing, refused, refused_after}
use Rattle.protocol.specs.Calls.{Call, limit}
use Rattle.protocol.specs.Own.{Formed, form_of}
use Rattle.protocol.specs.Session.{Entry, Output, ceiling, last_caller, caller_count}
use Rattle.protocol.specs.Record.{Item, ordered, accepted, Record, Note, record_of, as_seen, lines_of, frames, events, allowed, frames_by, line}

-- what may stand between a command's write order and the packet that serves it: read orders, the write's `ok`, ACK-led packets
abbrev pub allowed_between : Item → Bool
allowed_between (ordered (write bytes)) = false
allowed_between (ordered (read ms)) = true
allowed_between (ordered drain) = false
allowed_between (ordered (pause us)) = false
allowed_between (accepted ok) = true
allowed_between (accepted bad) = false
allowed_between (accepted (pkt packet)) = ack_led packet
allowed_between (accepted time) = false
allowed_between (accepted fail) = false
allowed_between (accepted late) = false
allowed_between (accepted slept) = false

-- line i is a line of call n that may stand there
abbrev pub Between : Record → ℕ → ℕ → Type 0
Between l n i = (x : Item) × (get_elem? l i ≡ some (line n x)) × (allowed_between x ≡ true)

-- An intact packet serves command k of call n, the first command being 0, and `bytes` is its response.
pub record Serves (l : Record) (n k : ℕ) (bytes : List ℕ) : Type 0 where
  pub order_line : ℕ
  pub packet_line : ℕ
  pub code : ℕ
  pub sent : List ℕ
  pub received : List ℕ
  pub written : get_elem? l order_line ≡ some (line n (ordered (write (command_frame code sent))))
  pub ordinal : frames (lines_of n (drop (suc order_line) l)) ≡ k
  pub arrived : get_elem? l packet_line ≡ some (line n (accepted (pkt received)))
  pub newer : packet_line < order_line
  pub between : (i : ℕ) → packet_line < i → i < order_line → Between l n i
  pub intact : reply_of code received ≡ response bytes

-- b is the byte at position p of an intact response to command k of call n
pub record CardByte (l : Record) (n k p b : ℕ) : Type 0 where
  pub bytes : List ℕ
  pub serves : Serves l n k bytes
  pub there : get_elem? bytes p ≡ some b

abbrev pub bytes_of : Answer Byte → List Byte
bytes_of (done bytes) = bytes
bytes_of (type1 bytes) = bytes
bytes_of (uid_and_ats bytes uid ats) = bytes
bytes_of nothing = []
bytes_of (refused r) = []
bytes_of (refused_after r n) = []

-- of call n while it runs, and once it has ended
pub record RunningCall (l : Record) (n : ℕ) (c : Call) : Type 0 where
  pub frames_within : frames (lines_of n l) ≤ limit c
  pub events_below : events (lines_of n l) < allowed c (lines_of n l)

pub record EndedCall (l : Record) (n : ℕ) (c : Call) (a : Answer Byte) : Type 0 where
  pub frames_within : frames (lines_of n l) ≤ limit c
  pub events_within : events (lines_of n l) ≤ allowed c (lines_of n l)
  pub card_bytes : (k p b : ℕ) → Memᴰ (card k p b) (bytes_of a) → CardByte l n k p b
  pub form : Formed (CardByte l n) (form_of c) a

abbrev pub Claim : Record → ℕ → Call → Option (Answer Byte) → Type 0
Claim l n c none = RunningCall l n c
Claim l n c (some a) = EndedCall l n c a

-- of every call
abbrev pub Claims : Record → List Note → Type 0
Claims l [] = Unit {0}
Claims l (x ∷ ns) = Claim l (length ns) x.call x.answer × Claims l ns

-- no packet serves two commands
abbrev pub Once : Record → Type 0
Once l = (n m j k : ℕ) (bs cs : List ℕ) (s : Serves l n j bs) (t : Serves l m k cs) → s.packet_line ≡ t.packet_line → (n ≡ m) × (j ≡ k)

-- Demand 3, of a list of entries, what was given out for each, and the frame counts after them, one for each caller: every call keeps to
-- its frames and events, its card bytes are at their places, and its other bytes are those of its form; no packet serves two
-- commands; the counts are the record's. Packets are those that the mode of their call sees.
pub record Demand3 (es : List Entry) (outs : List (Output Byte)) (counts : List ℕ) : Type 0 where
  pub calls : Claims (as_seen (record_of es outs)).lines (record_of es outs).notes
  pub once : Once (as_seen (record_of es outs)).lines
  pub eight : length counts ≡ caller_count
  pub counted : (k : ℕ) → k ≤ last_caller → get_or counts k 0 ≡ min (frames_by k (record_of es outs).lines (record_of es outs).notes) ceiling
