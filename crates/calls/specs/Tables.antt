-- The calls by their kinds: the opening, a call of one command by the rule for its response, a discovery, a read or a write of FeliCa blocks.
use Rattle.std.specs.Prelude.{Bool, List, [], ℕ, eqb, drop}
use Rattle.errors.specs.Choice.{pick}
use Rattle.errors.specs.declared.Fault.{Fault}
use Rattle.protocol.specs.Scripts.{done}
use Rattle.stages.specs.Stages.{Command, Decision, ends, refuse}
use Rattle.chipset.specs.Commands.{reset_command}
use Rattle.chipset.specs.Responses.{with_status, version_answer, written_answer, first_answer, list_answer, exchange_answer, jump_answer, initiator_answer, target_answer}
use Rattle.device.specs.Transceive.{type2_answer, type1_answer}
use Rattle.device.specs.Blocks.{read_answer, write_answer}
use Rattle.device.specs.Opening.{opening_command, is_reset_stage, opening_decision}
use Rattle.discovery.specs.Decisions.{type_a_command, type_a_decision, type_a_failure, split_decision, type_b_command, type_b_decision, type_b_failure, type_f_command, type_f_decision, dep_command, dep_decision, dep_failure, poll_command, poll_decision, poll_failure}
use Rattle.chipset.specs.Kinds.{version_kind, reset_mode_kind, all_bytes_kind, registers_written_kind, first_byte_kind, listed_target_kind, exchanged_data_kind, thru_kind, jump_kind, status_kind, initiator_command_kind, target_status_kind}
use Rattle.device.specs.Kinds.{opening_kind, type2_kind, type1_kind, read_blocks_kind, write_blocks_kind}
use Rattle.discovery.specs.Kinds.{type_a_kind, type_b_kind, type_f_kind, dep_kind, poll_type_f_kind, type_a_split_kind}

-- the command of a stage; `cursor` is where the call stands in a list of its own, and `pending` is the pending command
unfoldable pub command_of : ℕ → ℕ → ℕ → List ℕ → Command
command_of kind stage cursor pending =
    pick (eqb kind opening_kind) (opening_command stage pending)
    (pick (eqb kind reset_mode_kind) (reset_command pending)
    (pick (eqb kind type_a_kind) (type_a_command stage pending)
    (pick (eqb kind type_b_kind) (type_b_command stage pending)
    (pick (eqb kind type_f_kind) (type_f_command stage pending)
    (pick (eqb kind poll_type_f_kind) (poll_command stage cursor pending)
    (pick (eqb kind type_a_split_kind) (type_a_command stage pending) (dep_command stage pending)))))))

-- the command of a stage is a reset's
unfoldable pub is_reset_of : ℕ → ℕ → Bool
is_reset_of kind stage = pick (eqb kind opening_kind) (is_reset_stage stage) (eqb kind reset_mode_kind)

-- what follows its response; `found` are the found bytes
unfoldable pub decided_of : ℕ → ℕ → ℕ → List ℕ → List ℕ → List ℕ → Decision
decided_of kind stage cursor pending found bs =
    pick (eqb kind opening_kind) (opening_decision stage found bs)
    (pick (eqb kind version_kind) (ends (version_answer bs))
    (pick (eqb kind all_bytes_kind) (ends (done bs))
    (pick (eqb kind registers_written_kind) (ends (written_answer bs))
    (pick (eqb kind first_byte_kind) (ends (first_answer bs))
    (pick (eqb kind listed_target_kind) (ends (list_answer bs))
    (pick (eqb kind exchanged_data_kind) (ends (exchange_answer bs))
    (pick (eqb kind thru_kind) (ends (with_status bs (done (drop 1 bs))))
    (pick (eqb kind jump_kind) (ends (jump_answer bs))
    (pick (eqb kind status_kind) (ends (with_status bs (done [])))
    (pick (eqb kind initiator_command_kind) (ends (initiator_answer bs))
    (pick (eqb kind target_status_kind) (ends (target_answer bs))
    (pick (eqb kind type2_kind) (ends (type2_answer bs))
    (pick (eqb kind type1_kind) (ends (type1_answer bs))
    (pick (eqb kind type_a_kind) (type_a_decision stage found bs)
    (pick (eqb kind type_b_kind) (type_b_decision stage pending bs)
    (pick (eqb kind type_f_kind) (type_f_decision stage bs)
    (pick (eqb kind dep_kind) (dep_decision stage found bs)
    (pick (eqb kind poll_type_f_kind) (poll_decision stage cursor pending found bs)
    (pick (eqb kind type_a_split_kind) (split_decision stage cursor found bs)
    (pick (eqb kind read_blocks_kind) (ends (read_answer pending bs))
    (pick (eqb kind write_blocks_kind) (ends (write_answer pending bs)) (ends (done [])))))))))))))))))))))))

-- what follows its failure
unfoldable pub failed_of : ℕ → ℕ → ℕ → List ℕ → List ℕ → Fault → Decision
failed_of kind stage cursor pending found fault =
    pick (eqb kind type_a_kind) (type_a_failure stage fault)
    (pick (eqb kind type_b_kind) (type_b_failure stage fault)
    (pick (eqb kind dep_kind) (dep_failure stage fault)
    (pick (eqb kind poll_type_f_kind) (poll_failure cursor pending found fault)
    (pick (eqb kind type_a_split_kind) (type_a_failure stage fault) (refuse fault)))))
