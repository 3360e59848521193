-- Sound scripts: no path has too many commands, and the answer has the call's form, every card byte at its place.
-- Rules by which `search` proves a script sound.
use Rattle.std.specs.Prelude.{◌≡◌, true, false, cond, List, [], ◌∷◌, ℕ, zero, suc, eqb, length}
use Rattle.std.proofs.Math.Option.{some}
use Rattle.std.proofs.Math.ListN.{get_elem?}
use Rattle.exchange.specs.Packets.{Reply, response, failed}
use Rattle.protocol.specs.Scripts.{Byte, own, card, Answer, done, type1, uid_and_ats, nothing, refused, refused_after}
use Rattle.protocol.specs.Scripts.{Script, finish, command, reset, field_pause}
use Rattle.protocol.specs.Starts.{Start, refuses, starts}
use Rattle.protocol.specs.Discovery.{by_no_card}
use Rattle.protocol.specs.Own.{Form, HasForm, Formed}

-- on no path more than n command frames
abbrev pub Within : Script → ℕ → Type 0
Within (finish a) n = Unit {0}
Within (command code clock bytes k) zero = ⊥
Within (command code clock bytes k) (suc n) = (r : Reply) → Within (k r) n
Within (reset s) zero = ⊥
Within (reset s) (suc n) = Within s n
Within (field_pause s) n = Within s n

-- the response to command k; rs are the responses so far, the newest first, empty where the command failed
abbrev pub response_to : List (List ℕ) → ℕ → List ℕ
response_to [] k = []
response_to (bs ∷ rs) k = cond (eqb k (length rs)) bs (response_to rs k)

abbrev pub response_in : Reply → List ℕ
response_in (response bs) = bs
response_in (failed r) = []

-- each card byte is at its place
pub data PlacedBytes (rs : List (List ℕ)) : List Byte → Type 0 where
  no_bytes : PlacedBytes rs []
  own_byte : {b : ℕ} {bs : List Byte} → PlacedBytes rs bs → PlacedBytes rs (own b ∷ bs)
  card_byte : {k p b : ℕ} {bs : List Byte} → get_elem? (response_to rs k) p ≡ some b → PlacedBytes rs bs → PlacedBytes rs (card k p b ∷ bs)

-- b is the byte at position p of the response to command k
abbrev pub IsResponseByte : List (List ℕ) → ℕ → ℕ → ℕ → Type 0
IsResponseByte rs k p b = get_elem? (response_to rs k) p ≡ some b

abbrev pub Final : Form → List (List ℕ) → Answer Byte → Type 0
Final o rs (done bs) = PlacedBytes rs bs × HasForm (IsResponseByte rs) o bs
Final o rs (type1 bs) = PlacedBytes rs bs × HasForm (IsResponseByte rs) o bs
Final o rs (uid_and_ats bs uid ats) = PlacedBytes rs bs × Formed (IsResponseByte rs) o (uid_and_ats bs uid ats)
Final o rs nothing = Unit {0}
Final o rs (refused r) = Unit {0}
Final o rs (refused_after r n) = Unit {0}

-- what an exchange comes to: it never fails with 17
abbrev pub OfExchange : Reply → Type 0
OfExchange (response bs) = Unit {0}
OfExchange (failed r) = by_no_card true false r ≡ false

-- P of the responses and the answer, on every path
abbrev pub Ends : (List (List ℕ) → Answer Byte → Type 0) → Script → List (List ℕ) → Type 0
Ends P (finish a) rs = P rs a
Ends P (command code clock bytes k) rs = (r : Reply) → OfExchange r → Ends P (k r) (response_in r ∷ rs)
Ends P (reset s) rs = (bs : List ℕ) → Ends P s (bs ∷ rs)
Ends P (field_pause s) rs = Ends P s rs

-- every path ends rightly
abbrev pub Correct : Form → Script → List (List ℕ) → Type 0
Correct o s rs = Ends (Final o) s rs

abbrev pub Sound : Form → Start → ℕ → Type 0
Sound o (refuses r) n = Unit {0}
Sound o (starts s) n = Within s n × Correct o s []
