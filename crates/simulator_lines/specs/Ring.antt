-- The packets that are not yet read, in their memory: a ring of places, each with room for a packet, and the length of each.
use Rattle.std.specs.Prelude.{ℕ, ◌%◌, List, [], ◌∷◌, ◌++◌, length, take, get_or, nat_lt}
use Rattle.errors.specs.Choice.{pick}
use Rattle.simulated_chip.specs.Counted.{list_from}
use Rattle.simulator_lines.specs.declared.channel.Packet.{Packet}
use Rattle.simulator_lines.specs.declared.channel.Unread.{Unread}

-- how many packets are kept
abbrev pub places_limit : ℕ
places_limit = 128

-- a packet more behind the others; it is lost where all places are taken
unfoldable pub kept_with : List (List ℕ) → List ℕ → List (List ℕ)
kept_with q p = pick (nat_lt (length q) places_limit) (q ++ (p ∷ [])) q

-- the packet in a place, and at a number
abbrev pub packet_in : Packet → List ℕ
packet_in p = take p.len p.bytes

abbrev pub no_packet : Packet
no_packet = record { bytes = []; len = 0 }

abbrev pub packet_at : List Packet → ℕ → List ℕ
packet_at places i = packet_in (get_or places (i % places_limit) no_packet)

-- so many from the first on
abbrev pub unread_in : Unread → List (List ℕ)
unread_in u = list_from (packet_at u.places) u.count u.first
