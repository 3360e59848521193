-- A read and a write of FeliCa blocks: the response, held against the request, leads to what the script has.
use Rattle.std.specs.Prelude.{◌≡◌, refl, true, List, [], ℕ, ◌+◌, ◌*◌, ◌≤◌, length, drop, Result, Ok, Err}
use Rattle.std.proofs.Common.{sym, ap, ◌∙◌, arith, length-drop, drop_of_length-le, take_all}
use Rattle.felica.proofs.Accepted.{good_read}
use Rattle.felica.specs.Checks.{read_check, write_check}
use Rattle.felica.specs.Laid.{request-length, fits_idm, fits_few, write_idm, write_few, write_few_bytes}
use Rattle.felica.specs.Names.{block_size, blocks_offset}
use Rattle.felica.specs.Packets.{read_code, write_code, read_request_of, write_request_of, request_fits, write_fits_of}
use Rattle.felica.specs.Requests.{parts}
use Rattle.errors.specs.declared.Fault.{Fault}
use Rattle.protocol.specs.Blocks.{by_check, block_bytes, response_blocks_offset}
use Rattle.protocol.specs.Rules.{with_status as status_then}
use Rattle.protocol.specs.Scripts.{done, finish, part}
use Rattle.device.specs.Blocks.{if_good, read_answer, write_answer}
use Rattle.calls.specs.Single.{Interprets, ends, refusing, by_status_lem}
use Rattle.protocol.specs.Values.{part-values}
use Rattle.protocol.specs.Starts.{data_limit}

pub read_length : (idm : List ℕ) (service : ℕ) (blocks : List ℕ) → request_fits idm blocks ≡ true → length (read_request_of idm service blocks) ≤ data_limit
read_length idm service blocks h =
    omega (arith, request-length read_code service idm blocks [] (fits_idm idm blocks true (sym h) refl), fits_few idm blocks true (sym h) refl)

pub write_length : (idm : List ℕ) (service : ℕ) (blocks bytes : List ℕ) → write_fits_of idm blocks bytes ≡ true → length (write_request_of idm service blocks bytes) ≤ data_limit
write_length idm service blocks bytes h =
    omega (arith, request-length write_code service idm blocks bytes (write_idm idm blocks bytes true (sym h) refl), write_few idm blocks bytes true (sym h) refl, write_few_bytes idm blocks bytes true (sym h) refl)

-- by the check of the reply
read_by : (idm : List ℕ) (n : ℕ) (bs : List ℕ) → Interprets (by_check (block_bytes n bs) (read_check idm n (drop 1 bs))) (if_good response_blocks_offset bs (read_check idm n (drop 1 bs)))
read_by idm n bs = go (read_check idm n (drop 1 bs)) refl
  where
    go : (c : Result (Unit {0}) Fault) → read_check idm n (drop 1 bs) ≡ c → Interprets (by_check (block_bytes n bs) c) (if_good response_blocks_offset bs c)
    go (Ok v) e =
        let long : length (drop 1 bs) ≡ blocks_offset + block_size * n = (good_read idm n (drop 1 bs) e).long in
        let size : length bs ≡ response_blocks_offset + block_size * n = omega (arith, length-drop 1 bs, long) in
        ends (done (part 0 bs response_blocks_offset (block_size * n)))
        (ap done (part-values 0 bs response_blocks_offset (block_size * n) (omega arith) ∙ take_all (block_size * n) (drop response_blocks_offset bs) (omega (arith, length-drop response_blocks_offset bs))))
    go (Err r) e = refusing r

written_by : (bs : List ℕ) (c : Result (Unit {0}) Fault) → Interprets (by_check (finish (done [])) c) (if_good (length bs) bs c)
written_by bs (Ok v) = ends (done []) (ap done (sym (drop_of_length-le bs {i = length bs} (omega arith))))
written_by bs (Err r) = refusing r

-- the pending command is the request: its IDm and its number of blocks
pub interprets_read : (idm : List ℕ) (service : ℕ) (blocks : List ℕ) → request_fits idm blocks ≡ true → (bs : List ℕ)
    → Interprets (status_then bs (by_check (block_bytes (length blocks) bs) (read_check idm (length blocks) (drop 1 bs)))) (read_answer (read_request_of idm service blocks) bs)
unfolding read_answer
interprets_read idm service blocks h bs =
    let q = parts read_code service idm blocks [] (fits_idm idm blocks true (sym h) refl) in
    rw (q.idm_is, q.count) (by_status_lem bs (read_by idm (length blocks) bs))

pub interprets_written : (idm : List ℕ) (service : ℕ) (blocks bytes : List ℕ) → write_fits_of idm blocks bytes ≡ true → (bs : List ℕ)
    → Interprets (status_then bs (by_check (finish (done [])) (write_check idm (drop 1 bs)))) (write_answer (write_request_of idm service blocks bytes) bs)
unfolding write_answer
interprets_written idm service blocks bytes h bs =
    let q = parts write_code service idm blocks bytes (write_idm idm blocks bytes true (sym h) refl) in
    rw q.idm_is (by_status_lem bs (written_by bs (write_check idm (drop 1 bs))))
