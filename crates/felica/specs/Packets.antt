-- Read and Write Without Encryption of JIS X 6319-4, request and reply, for one service and 1 to 4 blocks of numbers 0 to 255.
-- A byte string is a list of numbers.
use Rattle.std.specs.Prelude.{Bool, List, [], ◌∷◌, ◌++◌, ℕ, suc, ◌*◌, ◌/◌, ◌%◌, eqb, leb, length}
use Rattle.errors.specs.Choice.{pick}
use Rattle.errors.specs.Refusals.{refused, numbered}
use Rattle.framing.specs.Build.{Left, left, put_frame}
use Rattle.framing.specs.Lists.{both}
use Rattle.felica.specs.Names.{idm_size, block_size, most_blocks, element, one_service}
use Rattle.errors.specs.declared.Refusal.TheVariants.{BadArgument}

-- the codes
abbrev pub read_code : ℕ
read_code = 0x06

abbrev pub read_reply_code : ℕ
read_reply_code = 0x07

abbrev pub write_code : ℕ
write_code = 0x08

abbrev pub write_reply_code : ℕ
write_reply_code = 0x09

-- every packet begins with LEN, the number of its bytes, LEN included
unfoldable pub packet : List ℕ → List ℕ
packet bytes = suc (length bytes) ∷ bytes

-- the block list: of each element the first byte, and the block number
unfoldable pub block_list : List ℕ → List ℕ
block_list [] = []
block_list (number ∷ numbers) = element ∷ number ∷ block_list numbers

-- code, IDm, one service, its code low byte first, the number of blocks, the block list, and what follows it
unfoldable pub request : ℕ → List ℕ → ℕ → List ℕ → List ℕ → List ℕ
request code idm service blocks bytes =
    packet (code ∷ idm ++ (one_service ∷ service % 256 ∷ service / 256 ∷ length blocks ∷ block_list blocks ++ bytes))

abbrev pub read_request_of : List ℕ → ℕ → List ℕ → List ℕ
read_request_of idm service blocks = request read_code idm service blocks []

abbrev pub write_request_of : List ℕ → ℕ → List ℕ → List ℕ → List ℕ
write_request_of idm service blocks bytes = request write_code idm service blocks bytes

-- code, IDm, status flags 1 and 2, and what follows them
unfoldable pub reply_packet : ℕ → List ℕ → ℕ → ℕ → List ℕ → List ℕ
reply_packet code idm flag1 flag2 bytes = packet (code ∷ idm ++ (flag1 ∷ flag2 ∷ bytes))

-- number of blocks and block data, 16 bytes each, only where status flag 1 is 00
abbrev pub blocks_read : ℕ → List ℕ → List ℕ
blocks_read flag1 bytes = pick (eqb flag1 0) (length bytes / block_size ∷ bytes) []

abbrev pub read_reply_of : List ℕ → ℕ → ℕ → List ℕ → List ℕ
read_reply_of idm flag1 flag2 bytes = reply_packet read_reply_code idm flag1 flag2 (blocks_read flag1 bytes)

abbrev pub write_reply_of : List ℕ → ℕ → ℕ → List ℕ
write_reply_of idm flag1 flag2 = reply_packet write_reply_code idm flag1 flag2 []

-- ---- what there is a packet of

-- an IDm has 8 bytes
abbrev pub idm_fits : List ℕ → Bool
idm_fits idm = eqb (length idm) idm_size

-- 1 to 4 blocks are asked for
unfoldable pub request_fits : List ℕ → List ℕ → Bool
request_fits idm blocks = both (idm_fits idm) (both (leb 1 (length blocks)) (leb (length blocks) most_blocks))

-- 16 bytes a block are written
unfoldable pub write_fits_of : List ℕ → List ℕ → List ℕ → Bool
write_fits_of idm blocks bytes = both (request_fits idm blocks) (eqb (length bytes) (block_size * length blocks))

-- 16 bytes a block, 1 to 4 blocks
unfoldable pub are_blocks_of : ℕ → Bool
are_blocks_of n = both (eqb (n % block_size) 0) (both (leb block_size n) (leb n (block_size * most_blocks)))

-- no block data where status flag 1 is not 00
unfoldable pub read_reply_fits : List ℕ → ℕ → List ℕ → Bool
read_reply_fits idm flag1 bytes = both (idm_fits idm) (pick (eqb flag1 0) (are_blocks_of (length bytes)) (eqb (length bytes) 0))

-- what building answers and leaves in the buffer b: 4 where there is no such packet, then 2, nothing written; else the packet at the buffer's start
unfoldable pub built_of : Bool → List ℕ → List ℕ → Left
built_of fits p b = pick fits (put_frame p b) (left (refused (numbered BadArgument)) b)
