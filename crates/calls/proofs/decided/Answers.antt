use Rattle.std.proofs.Common.{rules}
use native.Mathlib.Omega.{arith}
use mathlib.Core.List.{List, []}
use Prim.Native.Nat.{ℕ, ◌≤◌}
use lib.ListN.{length}
use Rattle.errors.specs.Choice.{pick}
use Rattle.protocol.specs.Scripts.{done}
use Rattle.stages.specs.Stages.{ends}
use Rattle.stages.specs.Decided.{DecisionRefines, AnswerRefines}
use Rattle.stages.specs.declared.Decision.{Decision}
use Rattle.stages.specs.Laws.{decision_false}
use borrow.Author.Tests.{ne_eqb}
use Rattle.calls.specs.Tables.{decided_of}
use Rattle.calls.proofs.decided.Goals as goal

no_bytes : (f b : List ℕ) (r : Decision) → ((bs : List ℕ) → 0 ≤ length bs → AnswerRefines bs r (done [])) → DecisionRefines f b r (ends (done []))
no_bytes f b r h = (h b (omega arith)).decision f

pub returns-in-2 : goal.returns-in-2
unfolding decided_of pick
returns-in-2 c = rw c.in-2.is (c.get_firmware_version_response.ensures.decision _)

pub returns-in-5 : goal.returns-in-5
unfolding decided_of pick
returns-in-5 c = rw c.in-5.is (c.from.ensures.decision _)

pub returns-in-6 : goal.returns-in-6
unfolding decided_of pick
returns-in-6 c = rw c.in-6.is (c.write_register_response.ensures.decision _)

pub returns-in-7 : goal.returns-in-7
unfolding decided_of pick
returns-in-7 c = rw c.in-7.is (c.read_single_register_response.ensures.decision _)

pub returns-in-8 : goal.returns-in-8
unfolding decided_of pick
returns-in-8 c = rw c.in-8.is (c.in_list_passive_target_response.ensures.decision _)

pub returns-in-9 : goal.returns-in-9
unfolding decided_of pick
returns-in-9 c = rw c.in-9.is (c.in_data_exchange_response.ensures.decision _)

pub returns-in-10 : goal.returns-in-10
unfolding decided_of pick
returns-in-10 c = rw c.in-10.is (c.in_communicate_thru_response.ensures.decision _)

pub returns-in-11 : goal.returns-in-11
unfolding decided_of pick
returns-in-11 c = rw c.in-11.is (c.in_jump_for_dep_response.ensures.decision _)

pub returns-in-12 : goal.returns-in-12
unfolding decided_of pick
returns-in-12 c = rw c.in-12.is (c.status_response.ensures.decision _)

pub returns-in-13 : goal.returns-in-13
unfolding decided_of pick
returns-in-13 c = rw c.in-13.is (c.tg_get_initiator_command_response.ensures.decision _)

pub returns-in-14 : goal.returns-in-14
unfolding decided_of pick
returns-in-14 c = rw c.in-14.is (c.tg_get_target_status_response.ensures.decision _)

pub returns-in-15 : goal.returns-in-15
unfolding decided_of pick
returns-in-15 c = rw c.in-15.is (c.type2_response.ensures.decision _)

pub returns-in-16 : goal.returns-in-16
unfolding decided_of pick
returns-in-16 c = rw c.in-16.is (c.type1_response.ensures.decision _)

pub returns-in-18 : goal.returns-in-18
unfolding decided_of pick
returns-in-18 c = rw c.in-18.is (c.decided-in-18.ensures _)

pub returns-in-19 : goal.returns-in-19
unfolding decided_of pick
returns-in-19 c = rw c.in-19.is (c.decided-in-19.ensures _)

pub returns-in-23 : goal.returns-in-23
unfolding decided_of pick
returns-in-23 c = rw c.in-23.is (c.read_response.ensures.decision _)

pub returns-in-24 : goal.returns-in-24
unfolding decided_of pick
returns-in-24 c = rw c.in-24.is (c.write_response.ensures.decision _)

pub returns-in_default : goal.returns-in_default
unfolding decided_of
returns-in_default c = search (decision_false, ne_eqb, no_bytes, rules) depth 30
