-- Further ACK-led packets (document 02, N11): they cannot matter to the engine, from any sessions of it that stand for one session.
use Rattle.std.specs.Prelude.{◌≡◌, ℕ, List}
use Rattle.protocol.specs.Calls.{Call}
use Rattle.protocol.specs.Session as Spec
use Rattle.protocol.specs.Machine.{entries}
use Rattle.protocol.specs.Runs.{EventAndRoom, call_entries, lines_from}
use Rattle.protocol.specs.Chatter.{waits, Alike}
use Rattle.protocol.specs.ChatterMachine.{SameFrom}
use Rattle.protocol.proofs.ChatterMachine.{machine_chatter}
use Rattle.engine.specs.Inputs.{Input}
use Rattle.engine.specs.Refinement.{engine}
use Rattle.engine.specs.declared.session.Session.{Session}

pub engine_chatter : (s t : Session) (m : Spec.Session) → engine.Represents s m → engine.Represents t m
    → (caller : ℕ) (c : Call) (room : ℕ) (es ds : List EventAndRoom) (is js : List Input)
    → entries engine is ≡ call_entries caller c room es → entries engine js ≡ call_entries caller c room ds
    → Alike waits (lines_from m caller c room es) (lines_from m caller c room ds) → SameFrom engine s t is js
engine_chatter = machine_chatter engine
