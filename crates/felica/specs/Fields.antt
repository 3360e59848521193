-- Packets taken apart: the fields by their places, and what is a request or a reply.
use Rattle.std.specs.Prelude.{Bool, true, false, List, [], ◌∷◌, ℕ, ◌+◌, ◌*◌, eqb, leb, length, take, drop, get_or, Option, Some, None}
use Rattle.errors.specs.Choice.{pick}
use Rattle.framing.specs.Lists.{both}
use Rattle.felica.specs.Names.{idm_size, block_size, most_blocks, element_size, element, code_offset, idm_offset, services_offset, service_low_offset, service_high_offset, count_offset, request_head, flag1_offset, flag2_offset, flags_end, blocks_offset}
use Rattle.felica.specs.Packets.{read_code, read_reply_code, write_code, write_reply_code}
use Rattle.felica.specs.declared.request.Asked.{Asked}
use Rattle.felica.specs.declared.request.Request.{Request}
use Rattle.felica.specs.declared.request.Request.TheVariants as request
use Rattle.felica.specs.declared.reply.Reply.{Reply}
use Rattle.felica.specs.declared.reply.Reply.TheVariants as reply

-- ---- the fields of any bytes, by their places

abbrev pub idm_in : List ℕ → List ℕ
idm_in p = take idm_size (drop idm_offset p)

-- of a request: service code, number of blocks, block list, what follows it
abbrev pub service_in : List ℕ → ℕ
service_in p = get_or p service_low_offset 0 + 256 * get_or p service_high_offset 0

abbrev pub count_in : List ℕ → ℕ
count_in p = get_or p count_offset 0

abbrev pub list_in : List ℕ → List ℕ
list_in p = take (element_size * count_in p) (drop request_head p)

abbrev pub block_data_in : ℕ → List ℕ → List ℕ
block_data_in count p = drop (request_head + element_size * count) p

-- of a reply: status flags, number of blocks, block data
abbrev pub flag1_in : List ℕ → ℕ
flag1_in p = get_or p flag1_offset 0

abbrev pub flag2_in : List ℕ → ℕ
flag2_in p = get_or p flag2_offset 0

abbrev pub block_number_in : List ℕ → ℕ
block_number_in p = get_or p flags_end 0

abbrev pub blocks_in : List ℕ → List ℕ
blocks_in p = drop blocks_offset p

-- the block numbers of a block list, and whether all its elements are of two bytes and name the first service
unfoldable pub numbers_in : List ℕ → List ℕ
numbers_in [] = []
numbers_in (x ∷ []) = []
numbers_in (x ∷ number ∷ l) = number ∷ numbers_in l

unfoldable pub is_block_list_of : List ℕ → Bool
is_block_list_of [] = true
is_block_list_of (x ∷ []) = false
is_block_list_of (x ∷ number ∷ l) = both (eqb x element) (is_block_list_of l)

-- ---- requests

-- 1 to 4 blocks with so many bytes of data each, and nothing behind
unfoldable pub asks_blocks : ℕ → List ℕ → Bool
asks_blocks size p =
    both (leb 1 (count_in p)) (both (leb (count_in p) most_blocks) (both (eqb (length p) (request_head + (element_size + size) * count_in p)) (is_block_list_of (list_in p))))

-- a request of this code: LEN is the number of the bytes, one service
unfoldable pub is_request_of : ℕ → ℕ → List ℕ → Bool
is_request_of code size p =
    both (eqb (get_or p 0 0) (length p)) (both (eqb (get_or p code_offset 0) code) (both (eqb (get_or p services_offset 0) 1) (asks_blocks size p)))

-- IDm, service code and block numbers; of a write the block data too; or none
pub data RequestFields : Type 0 where
  reads : List ℕ → ℕ → List ℕ → RequestFields
  writes : List ℕ → ℕ → List ℕ → List ℕ → RequestFields
  no_request : RequestFields

unfoldable pub request_of : List ℕ → RequestFields
request_of p =
    pick (is_request_of read_code 0 p) (reads (idm_in p) (service_in p) (numbers_in (list_in p)))
    (pick (is_request_of write_code block_size p) (writes (idm_in p) (service_in p) (numbers_in (list_in p)) (block_data_in (count_in p) p)) no_request)

-- the code's answer: the service code, the number of blocks, and the block numbers of a list's first four elements, 0 where it has fewer
abbrev pub four_in : List ℕ → List ℕ
four_in l = get_or l 1 0 ∷ get_or l 3 0 ∷ get_or l 5 0 ∷ get_or l 7 0 ∷ []

abbrev pub asked_in : List ℕ → Asked
asked_in p = record { service = service_in p; count = count_in p; numbers = four_in (list_in p) }

unfoldable pub parsed_request : List ℕ → Option Request
parsed_request p = pick (is_request_of read_code 0 p) (Some (request.Read (asked_in p))) (pick (is_request_of write_code block_size p) (Some (request.Write (asked_in p))) None)

-- what such an answer says of the packet p; of `parsed_request p` that is `request_of p`: `parsed_fields` (Taken.antt)
abbrev pub numbers_of : Asked → List ℕ
numbers_of a = take a.count a.numbers

abbrev pub request_in : Option Request → List ℕ → RequestFields
request_in (Some (request.Read a)) p = reads (idm_in p) a.service (numbers_of a)
request_in (Some (request.Write a)) p = writes (idm_in p) a.service (numbers_of a) (block_data_in a.count p)
request_in None p = no_request

-- ---- replies

-- LEN is the number of the bytes, of which there are enough for the flags; the code
unfoldable pub is_reply_of : ℕ → List ℕ → Bool
is_reply_of code p = both (leb flags_end (length p)) (both (eqb (get_or p 0 0) (length p)) (eqb (get_or p code_offset 0) code))

-- the number of n blocks, and 16 bytes for each
unfoldable pub has_blocks_of : ℕ → List ℕ → Bool
has_blocks_of n p = both (eqb (block_number_in p) n) (eqb (length p) (blocks_offset + block_size * n))

unfoldable pub reads_blocks_of : List ℕ → Bool
reads_blocks_of p =
    pick (eqb (flag1_in p) 0) (both (leb 1 (block_number_in p)) (both (leb (block_number_in p) most_blocks) (has_blocks_of (block_number_in p) p))) (eqb (length p) flags_end)

unfoldable pub is_read_reply_of : List ℕ → Bool
is_read_reply_of p = both (is_reply_of read_reply_code p) (reads_blocks_of p)

unfoldable pub is_write_reply_of : List ℕ → Bool
is_write_reply_of p = both (is_reply_of write_reply_code p) (eqb (length p) flags_end)

-- IDm, both flags and, of a read, the block data; or none
pub data ReplyFields : Type 0 where
  read_replied : List ℕ → ℕ → ℕ → List ℕ → ReplyFields
  write_replied : List ℕ → ℕ → ℕ → ReplyFields
  no_reply : ReplyFields

unfoldable pub reply_fields_of : List ℕ → ReplyFields
reply_fields_of p =
    pick (is_read_reply_of p) (read_replied (idm_in p) (flag1_in p) (flag2_in p) (blocks_in p))
    (pick (is_write_reply_of p) (write_replied (idm_in p) (flag1_in p) (flag2_in p)) no_reply)

abbrev pub reply_fields_in : Option Reply → List ℕ → ReplyFields
reply_fields_in (Some (reply.Read flag1 flag2)) p = read_replied (idm_in p) flag1 flag2 (blocks_in p)
reply_fields_in (Some (reply.Write flag1 flag2)) p = write_replied (idm_in p) flag1 flag2
reply_fields_in None p = no_reply
