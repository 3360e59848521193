-- How a response is interpreted: a rule for each way, as a script upon the response's bytes, in the shape of the Rust. A new command of a
-- way that is here names its rule; a new way adds its constructor, its script and its line in Own.
use Rattle.std.specs.Prelude.{Bool, false, not, cond, ◌||◌, List, [], ◌∷◌, ◌++◌, ℕ, ◌/◌, ◌%◌, eqb, ltb, length, get_or}
use Rattle.errors.specs.declared.Fault.{Fault}
use Rattle.errors.specs.declared.Fault.TheVariants.{Status, ShortResponse, Rate}
use Rattle.exchange.specs.Packets.{is_empty}
use Rattle.protocol.specs.Scripts.{Script, finish, refuse, if_else, done, nothing, Byte, own, card, byte_at, rest}
use Rattle.protocol.specs.Names.{no_data, register_write_failed, more_bit, version_need}

-- ---- status and length; g says what a refusal leads to

-- `errno`: the first byte, FF of an empty response
abbrev pub status_byte : List ℕ → ℕ
status_byte bytes = get_or bytes 0 no_data

-- a status of 0, else 15
abbrev pub with_status_else : List ℕ → Script → (Fault → Script) → Script
with_status_else bytes s g = if_else (eqb (status_byte bytes) 0) s (g (Status (status_byte bytes)))

abbrev pub with_status : List ℕ → Script → Script
with_status bytes s = with_status_else bytes s refuse

-- at least n bytes, else 16
abbrev pub with_length_else : List ℕ → ℕ → Script → (Fault → Script) → Script
with_length_else bytes n s g = if_else (ltb (length bytes) n) (g ShortResponse) s

abbrev pub with_length : List ℕ → ℕ → Script → Script
with_length bytes n s = with_length_else bytes n s refuse

-- ---- what a discovery or the opening goes on behind, too

-- get_firmware_version: IC, version, revision
abbrev pub on_version : List ℕ → (ℕ → ℕ → ℕ → Script) → Script
on_version bytes f = with_length bytes version_need (f (get_or bytes 0 0) (get_or bytes 1 0) (get_or bytes 2 0))

-- the three bytes as card bytes, where that was command k of the call
abbrev pub version_bytes : ℕ → ℕ → ℕ → ℕ → List Byte
version_bytes k ic ver rev = card k 0 ic ∷ card k 1 ver ∷ card k 2 rev ∷ []

-- write_register: a byte other than 0 is 15 with FE
abbrev pub any_nonzero_of : List ℕ → Bool
any_nonzero_of [] = false
any_nonzero_of (b ∷ bs) = not (eqb b 0) || any_nonzero_of bs

abbrev pub on_written : List ℕ → Script → Script
on_written bytes s = if_else (any_nonzero_of bytes) (refuse (Status register_write_failed)) s

-- read_single_register
abbrev pub on_first_byte : List ℕ → (List ℕ → Script) → Script
on_first_byte bytes f = with_length bytes 1 (f bytes)

-- in_list_passive_target: no target, or a response with one
abbrev pub on_listed : List ℕ → Script → (List ℕ → Script) → Script
on_listed bytes none f = if_else (eqb (get_or bytes 0 0) 0) none (with_length bytes 2 (f bytes))

-- in_data_exchange: the status is masked; its bit 6 is the more flag
abbrev pub masked_status : List ℕ → ℕ
masked_status bytes = get_or bytes 0 0 % more_bit

abbrev pub more_flag : List ℕ → ℕ
more_flag bytes = get_or bytes 0 0 / more_bit % 2

abbrev pub on_exchanged : List ℕ → (List ℕ → Script) → (Fault → Script) → Script
on_exchanged bytes f g =
    if_else (is_empty bytes) (g (Status no_data)) (if_else (eqb (masked_status bytes) 0) (f bytes) (g (Status (masked_status bytes))))

-- in_jump_for_dep
abbrev pub on_jump : List ℕ → (List ℕ → Script) → (Fault → Script) → Script
on_jump bytes f g = with_status_else bytes (with_length_else bytes 2 (f bytes) g) g

-- ---- the rates of tg_get_target_status

abbrev pub rate : ℕ → ℕ
rate index = cond (eqb index 0) 106 (cond (eqb index 1) 212 424)

abbrev pub send_index : List ℕ → ℕ
send_index bytes = get_or bytes 1 0 / 16 % 8

abbrev pub receive_index : List ℕ → ℕ
receive_index bytes = get_or bytes 1 0 % 8

-- a rate as two bytes of the engine's own
abbrev pub rate_bytes : ℕ → List Byte
rate_bytes n = own (n / 256) ∷ own (n % 256) ∷ []

-- the state, a card byte, and the two rates
abbrev pub state_and_rates : List ℕ → ℕ → ℕ → Script
state_and_rates bytes send receive = finish (done (byte_at 0 bytes 0 ∷ (rate_bytes send ++ rate_bytes receive)))

-- ---- the rules

-- an answer of no bytes, and one of all bytes of the response from a position on
abbrev pub finished : Script
finished = finish (done [])

abbrev pub answer : ℕ → List ℕ → Script
answer p bytes = finish (done (rest 0 bytes p))

pub data Rule : Type 0 where
  version : Rule
  no_bytes_of : Rule
  all_bytes : Rule
  registers_written : Rule
  first_byte_of : Rule
  listed_target : Rule
  exchanged_data : Rule
  thru : Rule
  jump : Rule
  status : Rule
  initiator_command : Rule
  target_status : Rule

abbrev pub rule_script : Rule → List ℕ → Script
rule_script version bytes = on_version bytes (λ ic ver rev. finish (done (version_bytes 0 ic ver rev)))
rule_script no_bytes_of bytes = finished
rule_script all_bytes bytes = answer 0 bytes
rule_script registers_written bytes = on_written bytes finished
rule_script first_byte_of bytes = on_first_byte bytes (λ bs. finish (done (byte_at 0 bs 0 ∷ [])))
rule_script listed_target bytes = on_listed bytes (finish nothing) (answer 2)
rule_script exchanged_data bytes = on_exchanged bytes (λ bs. finish (done (rest 0 bs 1 ++ (own (more_flag bs) ∷ [])))) refuse
rule_script thru bytes = with_status bytes (answer 1 bytes)
rule_script jump bytes = on_jump bytes (answer 2) refuse
rule_script status bytes = with_status bytes finished
-- none on any other status, and on an empty response
rule_script initiator_command bytes = if_else (eqb (status_byte bytes) 0) (answer 1 bytes) (finish nothing)
-- rates of 0 where the state is not 1; an index above 2 gives 19
rule_script target_status bytes =
    with_length bytes 2
    (if_else (eqb (get_or bytes 0 0) 1)
    (if_else (ltb 2 (send_index bytes)) (refuse Rate)
    (if_else (ltb 2 (receive_index bytes)) (refuse Rate) (state_and_rates bytes (rate (send_index bytes)) (rate (receive_index bytes)))))
    (state_and_rates bytes 0 0))
