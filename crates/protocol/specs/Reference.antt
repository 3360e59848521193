-- The padded mode against its reference (document 02, N2): the same list with the mode off and each packet without its extra zeros. What
-- is given out and what is counted is the same. A packet over the limit is refused in any mode, and may be left out.
use Rattle.std.specs.Prelude.{◌≡◌, Bool, true, false, cond, List, [], ◌∷◌, map, leb, ltb}
use Rattle.errors.specs.declared.Refusal.{Refusal}
use Rattle.framing.specs.Padded.{extra_zeros_of}
use Rattle.exchange.specs.Exchange.{Event, ok, bad, pkt, time, fail, late, slept}
use Rattle.protocol.specs.Calls.{Call, opening, reader}
use Rattle.protocol.specs.Session.{Running, idle, busy, Books, Session, fresh, packet_limit, Entry, call, event, seen_entry}
use Rattle.protocol.specs.Session.{Effect, unchanged, runs, ends, packet_length, step, outputs, session_after}
use Rattle.protocol.specs.Machine.{Machine, given_out, state_after, entries}

-- ---- the same with the mode off

abbrev pub off_call : Call → Call
off_call (opening mode) = opening 0
off_call (reader c) = reader c

abbrev pub off_running : Running → Running
off_running idle = idle
off_running (busy c phase) = busy (off_call c) phase

abbrev pub off_books : Books → Books
off_books b = record { opened = b.opened; padded = false; caller = b.caller; counts = b.counts }

abbrev pub off : Session → Session
off s = record { running = off_running s.running; books = off_books s.books }

abbrev pub off_effect : Effect → Effect
off_effect (unchanged r) = unchanged r
off_effect (runs c x phase) = runs (off_call c) x phase
off_effect (ends c a) = ends (off_call c) a

abbrev pub off_entry : Entry → Entry
off_entry (call k c room) = call k (off_call c) room
off_entry (event e room) = event e room

-- an opening's mode is one that there is
abbrev pub HasMode : Entry → Type 0
HasMode (call k (opening mode) room) = leb mode 1 ≡ true
HasMode (call k (reader c) room) = Unit {0}
HasMode (event e room) = Unit {0}

-- what the mode off does with the entry as the session's mode sees it
abbrev pub off_seen : Session → Entry → Entry
off_seen s e = off_entry (seen_entry s.books.padded e)

-- ---- any list

-- each entry of the second does, with the mode off, what that of the first does as the session's mode sees it
abbrev pub Off : Session → List Entry → List Entry → Type 0
Off s [] [] = Unit {0}
Off s [] (d ∷ ds) = ⊥
Off s (e ∷ es) [] = ⊥
Off s (e ∷ es) (d ∷ ds) = HasMode e × (step (off s) d ≡ step (off s) (off_seen s e)) × Off (step s e).state es ds

-- two lists that give out the same from a fresh session, and count the same
pub record Same (es ds : List Entry) : Type 0 where
  pub given : outputs fresh ds ≡ outputs fresh es
  pub counted : (session_after fresh ds).books.counts ≡ (session_after fresh es).books.counts

-- ---- packets with no extra zeros

abbrev pub NoZeros : Event → Type 0
NoZeros ok = Unit {0}
NoZeros bad = Unit {0}
NoZeros (pkt packet) = extra_zeros_of packet ≡ 0
NoZeros time = Unit {0}
NoZeros fail = Unit {0}
NoZeros late = Unit {0}
NoZeros slept = Unit {0}

-- openings have a mode that there is, and packets have no extra zeros
abbrev pub PlainEntry : Entry → Type 0
PlainEntry (call k c room) = HasMode (call k c room)
PlainEntry (event e room) = NoZeros e

abbrev pub Plain : List Entry → Type 0
Plain [] = Unit {0}
Plain (e ∷ es) = PlainEntry e × Plain es

-- ---- openings that choose the padded mode

abbrev pub PaddedEntry : Entry → Type 0
PaddedEntry (call k (opening mode) room) = mode ≡ 1
PaddedEntry (call k (reader c) room) = Unit {0}
PaddedEntry (event e room) = Unit {0}

abbrev pub Padded : List Entry → Type 0
Padded [] = Unit {0}
Padded (e ∷ es) = PaddedEntry e × Padded es

-- the entry with the mode off, its packet without extra zeros
abbrev pub plain_entry : Entry → Entry
plain_entry e = off_entry (seen_entry true e)

-- ---- packets over the limit, as they came, left out

abbrev pub is_long_of : Entry → Bool
is_long_of (call k c room) = false
is_long_of (event e room) = ltb packet_limit (packet_length e)

abbrev pub without_long : List Entry → List Entry
without_long [] = []
without_long (e ∷ es) = cond (is_long_of e) (without_long es) (e ∷ without_long es)

-- what is given out for the others
abbrev pub given_others : {X : Type 0} → List Entry → List X → List X
given_others [] outs = []
given_others (e ∷ es) [] = []
given_others (e ∷ es) (o ∷ outs) = cond (is_long_of e) (given_others es outs) (o ∷ given_others es outs)

-- one is refused, and the session stays as it was
abbrev pub Refuses : Effect → Type 0
Refuses o = (r : Refusal) × (o ≡ unchanged r)

-- the list without them
pub record LeavesOut (s : Session) (es : List Entry) : Type 0 where
  pub given : outputs s (without_long es) ≡ given_others es (outputs s es)
  pub after : session_after s (without_long es) ≡ session_after s es

-- ---- the reference

-- a list whose openings choose the padded mode, and the same with the mode off, without the packets over the limit and the others' extra zeros
abbrev pub reference_of : List Entry → List Entry
reference_of es = map plain_entry (without_long es)

pub record AsReference (es : List Entry) : Type 0 where
  pub given : given_others es (outputs fresh es) ≡ outputs fresh (reference_of es)
  pub counted : (session_after fresh es).books.counts ≡ (session_after fresh (reference_of es)).books.counts

module _ (M : Machine) (is js : List M.Input) where
  -- two lists of the machine's inputs, from its beginning
  pub record MachineSame : Type 0 where
    pub given : given_others (entries M is) (given_out M M.new is) ≡ given_out M M.new js
    pub counted : M.frames (state_after M M.new is) ≡ M.frames (state_after M M.new js)
