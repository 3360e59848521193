-- What a reply says to the one who sent the request (document 02, N5): 16, 21, 20 in this order, or it is good.
use Rattle.std.specs.Prelude.{Bool, true, List, ℕ, eqb, leb, length, get_or, Result, Ok, Err}
use Rattle.errors.specs.Choice.{pick, same}
use Rattle.errors.specs.declared.Fault.{Fault}
use Rattle.errors.specs.declared.Fault.TheVariants.{ShortResponse, OtherCard, CardStatus}
use Rattle.framing.specs.Lists.{both}
use Rattle.felica.specs.Names.{code_offset, flags_end}
use Rattle.felica.specs.Packets.{read_reply_code, write_reply_code}
use Rattle.felica.specs.Fields.{idm_in, flag1_in, flag2_in, has_blocks_of}

-- at least 12 bytes, of which the first is their number, and, with status flag 1 at 0, the whole of what was asked for; else 16
unfoldable pub is_complete : Bool → List ℕ → Bool
is_complete whole p = both (leb flags_end (length p)) (both (eqb (get_or p 0 0) (length p)) (pick (eqb (flag1_in p) 0) whole true))

-- the code and the IDm; else 21
unfoldable pub is_from_of : ℕ → List ℕ → List ℕ → Bool
is_from_of code idm p = both (eqb (get_or p code_offset 0) code) (same idm (idm_in p))

-- status flag 1 at 0; else 20, with both flags
unfoldable pub by_flags_of : ℕ → ℕ → Result (Unit {0}) Fault
by_flags_of flag1 flag2 = pick (eqb flag1 0) (Ok tt) (Err (CardStatus flag1 flag2))

unfoldable pub check_of : ℕ → List ℕ → Bool → List ℕ → Result (Unit {0}) Fault
check_of code idm whole p =
    pick (is_complete whole p) (pick (is_from_of code idm p) (by_flags_of (flag1_in p) (flag2_in p)) (Err OtherCard)) (Err ShortResponse)

-- of a read from the card of this IDm, of n blocks, and of a write
abbrev pub read_check : List ℕ → ℕ → List ℕ → Result (Unit {0}) Fault
read_check idm n p = check_of read_reply_code idm (has_blocks_of n p) p

abbrev pub write_check : List ℕ → List ℕ → Result (Unit {0}) Fault
write_check idm p = check_of write_reply_code idm (eqb (length p) flags_end) p
