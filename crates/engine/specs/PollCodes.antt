-- A list of system codes in one call, and the single calls in its place: equal for the engine too, from every session of it that stands for
-- an open, idle one.
use Rattle.std.specs.Prelude.{◌≡◌, ℕ, true, List, length}
use Rattle.protocol.specs.Arguments.{system_codes_fit, words_in}
use Rattle.protocol.specs.Session.{Books}
use Rattle.protocol.specs.Machine.{entries}
use Rattle.protocol.specs.PollList.{one_call, single_calls}
use Rattle.protocol.specs.Runs.{EventAndRoom, idle_with}
use Rattle.protocol.specs.PollMachine.{EqualFrom}
use Rattle.protocol.proofs.PollMachine.{machine_singles}
use Rattle.engine.specs.Inputs.{Input}
use Rattle.engine.specs.Refinement.{engine}
use Rattle.engine.specs.declared.session.Session.{Session}

pub engine_singles : (s : Session) (b : Books) → engine.Represents s (idle_with b) → b.opened ≡ true → (caller : ℕ) (text words : List ℕ) → system_codes_fit words ≡ true
    → (room : ℕ) (es : List EventAndRoom) (one many : List Input) → entries engine one ≡ one_call caller text words room es
    → entries engine many ≡ single_calls caller text words room es (idle_with b) → EqualFrom engine (length (words_in words)) s (idle_with b) one many
engine_singles s b = machine_singles engine s b
