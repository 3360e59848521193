-- A call as stages: the command of each, and what is decided on its reply.
use Rattle.std.specs.Prelude.{List, ℕ, ltb, length}
use Rattle.errors.specs.Choice.{pick}
use Rattle.errors.specs.declared.Fault.{Fault}
use Rattle.errors.specs.declared.Fault.TheVariants.{ShortResponse}
use Rattle.protocol.specs.Scripts.{Answer, refused}

-- code, clock in ms, data
pub record Command : Type 0 where
  pub code : ℕ
  pub clock : ℕ
  pub bytes : List ℕ

abbrev pub cmd : ℕ → ℕ → List ℕ → Command
cmd code clock bytes = record { code = code; clock = clock; bytes = bytes }

-- what follows a reply or a failure
pub data Decision : Type 0 where
  send : ℕ → Decision  -- the command of this stage
  keep : ℕ → List ℕ → Decision  -- the same, and these become the found bytes
  next : ℕ → ℕ → List ℕ → Decision  -- the same with this cursor, the second number
  put : ℕ → List ℕ → Decision  -- the command of this stage, and these become the pending command
  pause : ℕ → ℕ → Decision  -- a pause in µs, and then the command of this stage
  ends : Answer ℕ → Decision

abbrev pub refuse : Fault → Decision
refuse fault = ends (refused fault)

-- at least n bytes, else 16
unfoldable pub with_length : List ℕ → ℕ → Decision → Decision
with_length bs n d = pick (ltb (length bs) n) (refuse ShortResponse) d
