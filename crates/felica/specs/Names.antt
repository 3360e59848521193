-- The numbers of JIS X 6319-4 by name, but for the codes: sizes, and where the fields of a packet stand. The code has them in src: lib.rt,
-- request.rt, reply.rt. LEN stands at 0.
use Rattle.std.specs.Prelude.{ℕ, ◌+◌}

-- the bytes of an IDm and of a block, and the most blocks of a request
abbrev pub idm_size : ℕ
idm_size = 8

abbrev pub block_size : ℕ
block_size = 16

abbrev pub most_blocks : ℕ
most_blocks = 4

-- an element of the block list: its bytes, and the first of them (bit 7 for two bytes, access mode 000, the first service)
abbrev pub element_size : ℕ
element_size = 2

abbrev pub element : ℕ
element = 0x80

-- of every packet: the code, the IDm, and what follows it
abbrev pub code_offset : ℕ
code_offset = 1

abbrev pub idm_offset : ℕ
idm_offset = 2

abbrev pub idm_end : ℕ
idm_end = idm_offset + idm_size

-- a request names one service
abbrev pub one_service : ℕ
one_service = 0x01

-- of a request: the number of services, the service code, the number of blocks, and the bytes up to the block list
abbrev pub services_offset : ℕ
services_offset = idm_end

abbrev pub service_low_offset : ℕ
service_low_offset = services_offset + 1

abbrev pub service_high_offset : ℕ
service_high_offset = service_low_offset + 1

abbrev pub count_offset : ℕ
count_offset = service_high_offset + 1

abbrev pub request_head : ℕ
request_head = count_offset + 1

-- of a reply: the status flags, where they end and the number of blocks stands, and the block data
abbrev pub flag1_offset : ℕ
flag1_offset = idm_end

abbrev pub flag2_offset : ℕ
flag2_offset = flag1_offset + 1

abbrev pub flags_end : ℕ
flags_end = flag2_offset + 1

abbrev pub blocks_offset : ℕ
blocks_offset = flags_end + 1
