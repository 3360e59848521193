-- Read and Write Without Encryption (document 02, N5), each sent through InCommunicateThru: the card's reply stands behind the status byte.
use Rattle.std.specs.Prelude.{List, [], ℕ, ◌+◌, ◌*◌, length, drop, Result, Ok, Err}
use Rattle.felica.specs.Names.{block_size, blocks_offset}
use Rattle.felica.specs.Packets.{read_request_of, write_request_of}
use Rattle.felica.specs.Checks.{read_check, write_check}
use Rattle.errors.specs.declared.Fault.{Fault}
use Rattle.protocol.specs.Scripts.{Script, finish, done, refuse, part}
use Rattle.protocol.specs.Chipset.{in_communicate_thru_of}

-- a reply that is good, or 16, 21 or 20
abbrev pub by_check : Script → Result (Unit {0}) Fault → Script
by_check s (Ok v) = s
by_check s (Err r) = refuse r

-- where block data starts in a response: behind the status byte, in the card's reply
abbrev pub response_blocks_offset : ℕ
response_blocks_offset = 1 + blocks_offset

-- the block data, 16 bytes a block in the order asked for
abbrev pub block_bytes : ℕ → List ℕ → Script
block_bytes n bs = finish (done (part 0 bs response_blocks_offset (block_size * n)))

abbrev pub read_blocks : List ℕ → ℕ → List ℕ → ℕ → Script
read_blocks idm service blocks ms =
    in_communicate_thru_of (read_request_of idm service blocks) ms (λ bs. by_check (block_bytes (length blocks) bs) (read_check idm (length blocks) (drop 1 bs)))

abbrev pub write_blocks : List ℕ → ℕ → List ℕ → List ℕ → ℕ → Script
write_blocks idm service blocks bytes ms =
    in_communicate_thru_of (write_request_of idm service blocks bytes) ms (λ bs. by_check (finish (done [])) (write_check idm (drop 1 bs)))
