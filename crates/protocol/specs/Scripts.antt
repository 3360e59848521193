-- A call as a script: its commands, and what follows the reply to each, in the shape of the Rust function.
use Rattle.std.specs.Prelude.{Bool, true, false, List, [], ◌∷◌, ℕ, zero, suc, ◌+◌, ◌-◌, length, get_or}
use Rattle.errors.specs.declared.Fault.{Fault}
use Rattle.exchange.specs.Packets.{Reply, response, failed}

-- A byte of an answer: the engine's own, or a "card byte" with its "place": the command of the call and the position in the
-- response to it, both from 0.
pub data Byte : Type 0 where
  own : ℕ → Byte
  card : ℕ → ℕ → ℕ → Byte  -- command, position, value

abbrev pub value : Byte → ℕ
value (own b) = b
value (card k p b) = b

-- the same byte in a call in which n commands come before
abbrev pub commands_later : ℕ → Byte → Byte
commands_later n (own b) = own b
commands_later n (card k p b) = card (n + k) p b

-- how a call ends: `done` with bytes, the same of a Type 1 tag, the same with the lengths of a UID and an ATS among them, `none`, or
-- `refused`, of a list with the number of codes finished
pub data Answer (B : Type 0) : Type 0 where
  done : List B → Answer B
  type1 : List B → Answer B
  uid_and_ats : List B → ℕ → ℕ → Answer B
  nothing : Answer B
  refused : Fault → Answer B
  refused_after : Fault → ℕ → Answer B

pub data Script : Type 0 where
  finish : Answer Byte → Script
  command : ℕ → ℕ → List ℕ → (Reply → Script) → Script  -- code, clock in ms, data
  reset : Script → Script  -- `reset_mode`, then the rest
  field_pause : Script → Script  -- the field pause, then the rest

-- ---- forms of the Rust

-- a reply taken apart
abbrev pub either : (List ℕ → Script) → (Fault → Script) → Reply → Script
either f g (response bytes) = f bytes
either f g (failed r) = g r

abbrev pub refuse : Fault → Script
refuse r = finish (refused r)

-- a command whose failure ends the call, as by `?`
abbrev pub ask : ℕ → ℕ → List ℕ → (List ℕ → Script) → Script
ask code clock bytes f = command code clock bytes (either f refuse)

abbrev pub if_else : Bool → Script → Script → Script
if_else true a b = a
if_else false a b = b

-- a script that k commands come before, and behind it what f makes of the commands so far and of its answer
abbrev pub and_then : Script → ℕ → (ℕ → Answer Byte → Script) → Script
and_then (finish a) k f = f k a
and_then (command code clock bytes g) k f = command code clock bytes (λ r. and_then (g r) (suc k) f)
and_then (reset s) k f = reset (and_then s (suc k) f)
and_then (field_pause s) k f = field_pause (and_then s k f)

-- of the response to command k: the byte at position p, n bytes from there on, all from there on
abbrev pub byte_at : ℕ → List ℕ → ℕ → Byte
byte_at k bytes p = card k p (get_or bytes p 0)

unfoldable pub part : ℕ → List ℕ → ℕ → ℕ → List Byte
part k bytes p zero = []
part k bytes p (suc n) = byte_at k bytes p ∷ part k bytes (suc p) n

unfoldable pub rest : ℕ → List ℕ → ℕ → List Byte
unfolding part
rest k bytes p = part k bytes p (length bytes - p)
