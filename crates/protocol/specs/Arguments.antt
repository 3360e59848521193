-- The arguments of a call: the data that a command makes of them, and what is asserted of them.
use Rattle.std.specs.Prelude.{Bool, false, not, cond, List, [], ◌∷◌, ◌++◌, ℕ, ◌+◌, ◌*◌, ◌/◌, ◌%◌, eqb, leb, ltb, length}
use Rattle.std.proofs.Math.Option.{Option, none, some}
use Rattle.framing.specs.Lists.{both}
use Rattle.exchange.specs.Packets.{is_empty}

-- ---- data

-- an address or a rate, high byte first
abbrev pub word : ℕ → List ℕ
word n = n / 256 ∷ n % 256 ∷ []

-- the numbers whose words these are
abbrev pub words_in : List ℕ → List ℕ
words_in [] = []
words_in (high ∷ []) = []
words_in (high ∷ low ∷ bytes) = (256 * high + low) ∷ words_in bytes

-- in_jump_for_dep: `active` is 1 or 0; a bit for each of the three that is not empty
abbrev pub active_byte : Bool → ℕ
active_byte active = cond active 1 0

abbrev pub bit : List ℕ → ℕ
bit bytes = cond (is_empty bytes) 0 1

abbrev pub jump_data : ℕ → ℕ → List ℕ → List ℕ → List ℕ → List ℕ
jump_data active br passive nfcid3 gi = active ∷ br ∷ (bit passive + 2 * bit nfcid3 + 4 * bit gi) ∷ passive ++ nfcid3 ++ gi

-- tg_init_target
abbrev pub init_data : ℕ → List ℕ → List ℕ → List ℕ → List ℕ → List ℕ
init_data mode mifare felica nfcid3t gt = mode ∷ mifare ++ felica ++ nfcid3t ++ gt

-- ---- what is asserted

-- the most registers of one command
abbrev pub register_limit : ℕ
register_limit = 64

-- whole words or triples
abbrev pub registers : ℕ → List ℕ → Bool
registers size bytes = both (eqb (length bytes % size) 0) (leb (length bytes / size) register_limit)

abbrev pub mifare_size : ℕ
mifare_size = 6

abbrev pub felica_size : ℕ
felica_size = 18

abbrev pub nfcid3_size : ℕ
nfcid3_size = 10

-- where ATR_REQ has it
abbrev pub nfcid3_offset : ℕ
nfcid3_offset = 2

-- the lengths that tg_init_target asserts, and a mode of 0 or 2
abbrev pub init_fits : ℕ → List ℕ → List ℕ → List ℕ → Bool
init_fits mode mifare felica nfcid3t =
    both (both (leb mode 2) (eqb (mode % 2) 0)) (both (eqb (length mifare) mifare_size) (both (eqb (length felica) felica_size) (eqb (length nfcid3t) nfcid3_size)))

-- the most system codes of one list
abbrev pub system_codes : ℕ
system_codes = 16

-- 1 to so many whole words
abbrev pub system_codes_fit : List ℕ → Bool
system_codes_fit words = both (eqb (length words % 2) 0) (both (leb 1 (length words / 2)) (leb (length words / 2) system_codes))

-- an ATR_REQ without general bytes, and the longest
abbrev pub shortest_atr_req : ℕ
shortest_atr_req = 16

abbrev pub longest_atr_req : ℕ
longest_atr_req = 64

abbrev pub atr_req_fits : List ℕ → Bool
atr_req_fits atrReq = both (leb shortest_atr_req (length atrReq)) (leb (length atrReq) longest_atr_req)

-- ---- numbers as flags and times

-- a byte as a flag
abbrev pub flag : ℕ → Bool
flag x = not (eqb x 0)

-- ms, where they are given
abbrev pub ms_of : Bool → ℕ → Option ℕ
ms_of given ms = cond given (some ms) none

-- ms that are given are at most so many
abbrev pub most_ms : ℕ
most_ms = 65535

abbrev pub is_long_wait : Bool → ℕ → Bool
is_long_wait given ms = cond given (ltb most_ms ms) false
