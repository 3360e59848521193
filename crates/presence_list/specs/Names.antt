-- The numbers of document 02, N9, but for those of refusals, and of records in memory: each is said here alone.
use Rattle.std.specs.Prelude.{ℕ, ◌*◌}

-- the last kind, DEP, and the last bitrate, 848B
abbrev pub last_card_kind : ℕ
last_card_kind = 4

abbrev pub last_bitrate : ℕ
last_bitrate = 6

-- the bytes of an identifier, and the cards of a list, at most
abbrev pub identifier_limit : ℕ
identifier_limit = 16

abbrev pub card_limit : ℕ
card_limit = 64

-- the bytes of a record, and the places of its identifier's length, its bitrate, and whether the card was missed
abbrev pub record_size : ℕ
record_size = 20

abbrev pub length_offset : ℕ
length_offset = 17

abbrev pub bitrate_offset : ℕ
bitrate_offset = 18

abbrev pub missed_offset : ℕ
missed_offset = 19

-- the bytes of a list's cards
abbrev pub cards_size : ℕ
cards_size = card_limit * record_size
