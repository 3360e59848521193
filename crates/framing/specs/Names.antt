-- The numbers of frames by the words of the PN532 user manual, section 6.2.1: where a frame's parts stand, their sizes, the lengths of payloads.
use Rattle.std.specs.Prelude.{ℕ}

-- the bytes of preamble and start code, 00 00 FF, and the last of them
abbrev pub sof_size : ℕ
sof_size = 3

abbrev pub start_end : ℕ
start_end = 0xFF

-- where LEN and LCS stand; an extended frame has FF there, twice
abbrev pub len_offset : ℕ
len_offset = 3

abbrev pub lcs_offset : ℕ
lcs_offset = 4

abbrev pub marker_byte : ℕ
marker_byte = 0xFF

-- where the two length bytes of an extended frame stand, and its LCS
abbrev pub first_len_offset : ℕ
first_len_offset = 5

abbrev pub second_len_offset : ℕ
second_len_offset = 6

abbrev pub extended_lcs_offset : ℕ
extended_lcs_offset = 7

-- where the payload starts in a normal and in an extended frame
abbrev pub normal_start : ℕ
normal_start = 5

abbrev pub extended_start : ℕ
extended_start = 8

-- the bytes of DCS and postamble
abbrev pub ending_size : ℕ
ending_size = 2

-- the bytes of a frame around its payload
abbrev pub normal_overhead : ℕ
normal_overhead = 7

abbrev pub extended_overhead : ℕ
extended_overhead = 10

-- the longest payload of a normal and of an extended frame
abbrev pub longest_normal : ℕ
longest_normal = 255

abbrev pub longest_extended : ℕ
longest_extended = 65535

-- the shortest payload that no normal frame can carry
abbrev pub shortest_extended : ℕ
shortest_extended = 256

-- the bytes of ACK; the error frame has as many
abbrev pub ack_size : ℕ
ack_size = 6

-- where StatusByte tests for an error, and the byte that says so
abbrev pub status_error_offset : ℕ
status_error_offset = 5

abbrev pub status_error_byte : ℕ
status_error_byte = 0x7F

-- the bytes that the code sums at a time
abbrev pub piece_size : ℕ
piece_size = 32

-- the first byte of a payload: from the host to the controller, and back
abbrev pub host_to_controller : ℕ
host_to_controller = 0xD4

abbrev pub controller_to_host : ℕ
controller_to_host = 0xD5
