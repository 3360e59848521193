-- What the response to each command comes to.
use Rattle.std.specs.Prelude.{List, [], ◌∷◌, ◌++◌, ℕ, eqb, ltb, length, take, drop, get_or, Result, Ok, Err}
use Rattle.errors.specs.Choice.{pick}
use Rattle.errors.specs.declared.Fault.{Fault}
use Rattle.errors.specs.declared.Fault.TheVariants.{Status, ShortResponse, Rate}
use Rattle.protocol.specs.Scripts.{Answer, done, nothing, refused}
use Rattle.stages.specs.Stages.{Decision, ends, refuse}
use Rattle.protocol.specs.Rules.{any_nonzero_of, status_byte, masked_status, more_flag, send_index, receive_index, rate}
use Rattle.protocol.specs.Arguments.{word}
use Rattle.protocol.specs.Names.{no_data, register_write_failed, version_need}

-- at least n bytes, else 16; a status of 0, else 15
unfoldable pub with_length : List ℕ → ℕ → Answer ℕ → Answer ℕ
with_length bs n a = pick (ltb (length bs) n) (refused ShortResponse) a

unfoldable pub with_status : List ℕ → Answer ℕ → Answer ℕ
with_status bs a = pick (eqb (status_byte bs) 0) a (refused (Status (status_byte bs)))

-- the status alone
unfoldable pub status_of : List ℕ → Result (Unit {0}) Fault
status_of bs = pick (eqb (status_byte bs) 0) (Ok tt) (Err (Status (status_byte bs)))

-- the same of the status in the low six bits
unfoldable pub with_masked_status : List ℕ → Answer ℕ → Answer ℕ
with_masked_status bs a =
    pick (eqb (length bs) 0) (refused (Status no_data)) (pick (eqb (masked_status bs) 0) a (refused (Status (masked_status bs))))

unfoldable pub version_answer : List ℕ → Answer ℕ
version_answer bs = with_length bs version_need (done (take 3 bs))

unfoldable pub written_answer : List ℕ → Answer ℕ
written_answer bs = pick (any_nonzero_of bs) (refused (Status register_write_failed)) (done [])

-- the last command of a call: the answer is what was found
unfoldable pub found_written_of : List ℕ → List ℕ → Decision
found_written_of found bs = pick (any_nonzero_of bs) (refuse (Status register_write_failed)) (ends (done found))

unfoldable pub first_answer : List ℕ → Answer ℕ
first_answer bs = with_length bs 1 (done (take 1 bs))

unfoldable pub list_answer : List ℕ → Answer ℕ
list_answer bs = pick (eqb (get_or bs 0 0) 0) nothing (with_length bs 2 (done (drop 2 bs)))

unfoldable pub exchange_answer : List ℕ → Answer ℕ
exchange_answer bs =
    pick (eqb (length bs) 0) (refused (Status no_data))
    (pick (eqb (masked_status bs) 0) (done (drop 1 bs ++ (more_flag bs ∷ []))) (refused (Status (masked_status bs))))

unfoldable pub jump_answer : List ℕ → Answer ℕ
jump_answer bs = with_status bs (with_length bs 2 (done (drop 2 bs)))

unfoldable pub initiator_answer : List ℕ → Answer ℕ
initiator_answer bs = pick (eqb (status_byte bs) 0) (done (drop 1 bs)) nothing

unfoldable pub target_answer : List ℕ → Answer ℕ
target_answer bs =
    with_length bs 2
    (pick (eqb (get_or bs 0 0) 1)
    (pick (ltb 2 (send_index bs)) (refused Rate)
    (pick (ltb 2 (receive_index bs)) (refused Rate) (done (get_or bs 0 0 ∷ (word (rate (send_index bs)) ++ word (rate (receive_index bs)))))))
    (done (get_or bs 0 0 ∷ 0 ∷ 0 ∷ 0 ∷ 0 ∷ [])))
