-- The order of the short payloads: shortest first, then by their bytes, first byte foremost. The entries: all of them under a setting, the
-- settings in document 01's order.
use Rattle.std.specs.Prelude.{List, [], ◌∷◌, ◌⊎◌, ◌≡◌, ℕ, suc, ◌+◌, ◌-◌, ◌*◌, ◌/◌, ◌%◌, ◌<◌, ltb, length, Option, Some, None, Result, Ok, Err}
use Rattle.errors.specs.Choice.{pick}
use Rattle.errors.specs.declared.Refusal.{Refusal}
use Rattle.errors.specs.declared.Refusal.TheVariants.{OutOfTurn}
use Rattle.acceptance.specs.declared.Payload.{Payload}
use Rattle.acceptance.specs.declared.Payload.TheVariants.{Empty, One, Two}
use Rattle.acceptance.specs.declared.Entry.{Entry}

-- where a step leads: to an entry or to the end, or it is refused
abbrev pub Reached : Type 0
Reached = Result (Option Entry) Refusal

abbrev pub At : Entry → Reached
At e = Ok (Some e)

abbrev pub End : Reached
End = Ok None

abbrev pub Refused : Refusal → Reached
Refused r = Err r

unfoldable pub payload_bytes : Payload → List ℕ
payload_bytes Empty = []
payload_bytes (One a) = a ∷ []
payload_bytes (Two a b) = a ∷ b ∷ []

-- of two lists of one length: the first byte that differs decides
abbrev pub BytesBefore : List ℕ → List ℕ → Type 0
BytesBefore [] q = ⊥
BytesBefore (a ∷ p) [] = ⊥
BytesBefore (a ∷ p) (b ∷ q) = (a < b) ⊎ ((a ≡ b) × BytesBefore p q)

-- the shorter one is before the longer one
abbrev pub Before : List ℕ → List ℕ → Type 0
Before p q = (length p < length q) ⊎ ((length p ≡ length q) × BytesBefore p q)

-- how many payloads of at most 2 bytes there are: 1, 256 and 65,536; and entries under the six settings
abbrev pub payloads : ℕ
payloads = 65793

abbrev pub entry_count : ℕ
entry_count = 394758

-- how many short payloads are before one: its place in a setting's list
unfoldable pub payload_number_in : List ℕ → ℕ
payload_number_in [] = 0
payload_number_in (a ∷ []) = 1 + a
payload_number_in (a ∷ b ∷ l) = 257 + (256 * a + b)

unfoldable pub payload_number : Payload → ℕ
payload_number p = payload_number_in (payload_bytes p)

-- the payload whose number is n
unfoldable pub payload_at : ℕ → Payload
payload_at n = pick (ltb n 1) Empty (pick (ltb n 257) (One (n - 1)) (Two ((n - 257) / 256) ((n - 257) % 256)))

abbrev pub entry_with : ℕ → Payload → Entry
entry_with s p = record { setting = s; payload = p }

-- an entry's place in the whole list
unfoldable pub place_in_list : Entry → ℕ
place_in_list e = payloads * e.setting + payload_number e.payload

unfoldable pub entry_at : ℕ → Entry
entry_at n = entry_with (n / payloads) (payload_at (n % payloads))

-- the first entry of a setting
abbrev pub first_entry : ℕ → Entry
first_entry s = entry_with s Empty

-- the payload whose number is n, where there is one
unfoldable pub following_at : ℕ → Option Payload
following_at n = pick (ltb n payloads) (Some (payload_at n)) None

-- the entry at the place n; behind the last one the end
unfoldable pub step_at : ℕ → Reached
step_at n = pick (ltb n entry_count) (At (entry_at n)) End

-- the step from an entry: to the next place; an entry of no setting is refused, with 1
unfoldable pub step_from : Entry → Reached
step_from e = pick (ltb e.setting 6) (step_at (suc (place_in_list e))) (Refused OutOfTurn)
