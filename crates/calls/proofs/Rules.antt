-- Rules by which the command of a call, and what it decides, are those of its kind; and the refusal of too many ms.
use Rattle.std.specs.Prelude.{◌≡◌, Bool, true, List, ℕ, Result, Err}
use Rattle.errors.specs.declared.Refusal.{Refusal}
use Rattle.errors.specs.declared.Refusal.TheVariants.{BadArgument}
use Rattle.protocol.specs.Arguments.{flag, is_long_wait}
use Rattle.protocol.specs.Calls.{ReaderCall, timed}
use Rattle.stages.specs.Laws.{decided, sends-any}
use Rattle.stages.specs.Starts.{Starts, starts_refused}
use Rattle.stages.specs.declared.start.Start as code
use Rattle.calls.specs.Firsts.{start_for}

pub ruleset by_kind = (decided, sends-any)

-- with too many ms there is no such call
pub long_refused : (r : Result code.Start Refusal) (c : List ℕ) (x : ReaderCall) (y ms : ℕ) (given : Bool) (e : Refusal) → given ≡ flag y → r ≡ Err e
    → (is_long_wait given ms ≡ true) × (e ≡ BadArgument) → Starts r c c (start_for (timed (flag y) ms x))
unfolding start_for
long_refused r c x y ms given e f is h = rw (is, h.1, ← f, h.0) (starts_refused BadArgument c)
