-- The kinds of a call of one command, by the rule for its response (src/lib.rt).
use Rattle.std.specs.Prelude.{ℕ}
use Rattle.protocol.specs.Rules.{Rule, version, no_bytes_of, all_bytes, registers_written, first_byte_of, listed_target, exchanged_data, thru, jump, status, initiator_command, target_status}

abbrev pub version_kind : ℕ
version_kind = 2

-- its response is not looked at
abbrev pub reset_mode_kind : ℕ
reset_mode_kind = 3

abbrev pub no_bytes_kind : ℕ
no_bytes_kind = 4

abbrev pub all_bytes_kind : ℕ
all_bytes_kind = 5

abbrev pub registers_written_kind : ℕ
registers_written_kind = 6

abbrev pub first_byte_kind : ℕ
first_byte_kind = 7

abbrev pub listed_target_kind : ℕ
listed_target_kind = 8

abbrev pub exchanged_data_kind : ℕ
exchanged_data_kind = 9

abbrev pub thru_kind : ℕ
thru_kind = 10

abbrev pub jump_kind : ℕ
jump_kind = 11

abbrev pub status_kind : ℕ
status_kind = 12

abbrev pub initiator_command_kind : ℕ
initiator_command_kind = 13

abbrev pub target_status_kind : ℕ
target_status_kind = 14

abbrev pub kind_of : Rule → ℕ
kind_of version = version_kind
kind_of no_bytes_of = no_bytes_kind
kind_of all_bytes = all_bytes_kind
kind_of registers_written = registers_written_kind
kind_of first_byte_of = first_byte_kind
kind_of listed_target = listed_target_kind
kind_of exchanged_data = exchanged_data_kind
kind_of thru = thru_kind
kind_of jump = jump_kind
kind_of status = status_kind
kind_of initiator_command = initiator_command_kind
kind_of target_status = target_status_kind
