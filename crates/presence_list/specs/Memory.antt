-- Records in memory: kind, identifier, the identifier's length, bitrate, and whether the card was missed in the last
-- round. One behind the other they are a list's cards; lent as a round's records, their last byte is not looked at.
use Rattle.std.specs.Prelude.{Bool, true, false, List, [], ◌∷◌, ◌++◌, ◌≡◌, ℕ, zero, suc, ◌+◌, ◌*◌, leb, ltb, eqb, length, take, drop, get_or, set, replicate}
use Rattle.errors.specs.Choice.{pick}
use Rattle.presence_list.specs.Names.{record_size, identifier_limit, length_offset, bitrate_offset, missed_offset, last_card_kind, last_bitrate}
use Rattle.presence_list.specs.Keyed.{All}
use Rattle.presence_list.specs.Order.{before}
use Rattle.presence_list.specs.Presence.{Found, card}

-- the first n pieces of the size of a record
unfoldable pub pieces : ℕ → List ℕ → List (List ℕ)
pieces zero b = []
pieces (suc n) b = take record_size b ∷ pieces n (drop record_size b)

unfoldable pub concatenated : List (List ℕ) → List ℕ
concatenated [] = []
concatenated (e ∷ es) = e ++ concatenated es

-- the pieces at the start of a memory, whose other bytes stay
unfoldable pub laid : List (List ℕ) → List ℕ → List ℕ
laid es b = concatenated es ++ drop (record_size * length es) b

-- pieces put behind the first n
unfoldable pub put_behind : ℕ → List (List ℕ) → List ℕ → List ℕ
put_behind n es b = take (record_size * n) b ++ (concatenated es ++ drop (record_size * (n + length es)) b)

abbrev pub Whole : List (List ℕ) → Type 0
Whole es = All (λ e. length e ≡ record_size) es

abbrev pub length_in : List ℕ → ℕ
length_in e = get_or e length_offset 0

abbrev pub missed_in : List ℕ → ℕ
missed_in e = get_or e missed_offset 0

-- the record of a piece, and its card
abbrev pub found_in : List ℕ → Found
found_in e = record { kind = get_or e 0 0; identifier = take (length_in e) (drop 1 e); bitrate = get_or e bitrate_offset 0 }

unfoldable pub card_in : List ℕ → List ℕ
card_in e = card (found_in e)

abbrev pub long_in : List ℕ → Bool
long_in e = ltb identifier_limit (length_in e)

abbrev pub is_known_in : List ℕ → Bool
is_known_in e = pick (leb (get_or e 0 0) last_card_kind) (leb (get_or e bitrate_offset 0) last_bitrate) false

-- a lent record as it is kept: zeros behind its identifier, and not missed
unfoldable pub kept_record : List ℕ → List ℕ
kept_record r = set (set (card_in r ++ drop (length (card_in r)) (replicate record_size 0)) length_offset (length_in r)) bitrate_offset (get_or r bitrate_offset 0)

unfoldable pub kept_records : List (List ℕ) → List (List ℕ)
kept_records [] = []
kept_records (r ∷ rs) = kept_record r ∷ kept_records rs

-- the list before the records of a round: who was missed already has left, and all others are missed until they are seen
unfoldable pub aged : List (List ℕ) → List (List ℕ)
aged [] = []
aged (e ∷ es) = pick (eqb (missed_in e) 0) (set e missed_offset 1 ∷ aged es) (aged es)

-- a record of a list in its range
abbrev pub in_range_in : List ℕ → Bool
in_range_in e = pick (leb (length_in e) identifier_limit) (pick (leb (missed_in e) 1) (is_known_in e) false) false

-- each card before the next
unfoldable pub ascending : List (List ℕ) → Bool
ascending [] = true
ascending (e ∷ []) = true
ascending (e ∷ f ∷ es) = pick (before (card_in e) (card_in f)) (ascending (f ∷ es)) false
