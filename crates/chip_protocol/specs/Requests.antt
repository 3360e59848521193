-- A request for FeliCa blocks (N5) can be sent: its bytes are bytes, and they are few.
use Rattle.std.specs.Prelude.{◌≡◌, refl, true, List, [], ◌∷◌, ◌++◌, ℕ, ◌+◌, ◌*◌, ◌/◌, ◌%◌, ◌≤◌, ◌<◌}
use native.Mathlib.Omega.{arith}
use Rattle.std.proofs.Math.ListN.{length}
use Rattle.std.proofs.Common.{length-append}
use Rattle.felica.specs.Laid.{fits_idm, fits_few, write_named, write_sixteen}
use Rattle.felica.specs.Lists.{list_length}
use Rattle.felica.specs.Names.{block_size, idm_size, most_blocks, one_service}
use Rattle.felica.specs.Packets.{packet, block_list, request, read_request_of, write_request_of, request_fits, write_fits_of, read_code, write_code}
use Rattle.protocol.specs.Starts.{data_limit}
use Rattle.chip_protocol.specs.Script.{AllBytes}
use Rattle.chip_protocol.specs.Sent.{all_append}

blocks_bytes : (l : List ℕ) → AllBytes l → AllBytes (block_list l)
unfolding block_list
blocks_bytes [] h = tt
blocks_bytes (n ∷ l) h = (omega arith, (h.0, blocks_bytes l h.1))

-- the bytes of a request, but for its first
module _ (code service : ℕ) (idm blocks bytes : List ℕ) where
  abbrev behind_len : List ℕ
  behind_len = code ∷ idm ++ (one_service ∷ service % 256 ∷ service / 256 ∷ length blocks ∷ block_list blocks ++ bytes)

  len-behind : length behind_len ≡ 1 + (length idm + (4 + (2 * length blocks + length bytes)))
  len-behind =
      let tail : List ℕ = one_service ∷ service % 256 ∷ service / 256 ∷ length blocks ∷ block_list blocks ++ bytes in
      omega (arith, length-append idm tail, length-append (one_service ∷ service % 256 ∷ service / 256 ∷ length blocks ∷ block_list blocks) bytes, list_length blocks)

  pub request-length : length (request code idm service blocks bytes) ≡ 2 + (length idm + (4 + (2 * length blocks + length bytes)))
  unfolding request packet
  request-length = omega (arith, len-behind)

  pub request_bytes : code < 256 → service < 65536 → length idm ≡ idm_size → length blocks ≤ most_blocks → length bytes ≤ block_size * most_blocks
      → AllBytes idm → AllBytes blocks → AllBytes bytes → AllBytes (request code idm service blocks bytes)
  unfolding request packet
  request_bytes h k eight few short i b d = (
    omega (arith, len-behind),
    (
      h,
      all_append idm (one_service ∷ service % 256 ∷ service / 256 ∷ length blocks ∷ block_list blocks ++ bytes) i
          (omega arith, (omega arith, (omega arith, (omega arith, all_append (block_list blocks) bytes (blocks_bytes blocks b) d)))),
    ),
  )

module _ (service : ℕ) (idm blocks : List ℕ) (known : service < 65536) (i : AllBytes idm) (b : AllBytes blocks) where
  pub read_bytes_lem : request_fits idm blocks ≡ true → AllBytes (read_request_of idm service blocks)
  read_bytes_lem h =
      request_bytes read_code service idm blocks [] (omega arith) known (fits_idm idm blocks (request_fits idm blocks) refl h) (fits_few idm blocks (request_fits idm blocks) refl h) (omega arith)
      i b tt

  pub read_short : request_fits idm blocks ≡ true → length (read_request_of idm service blocks) ≤ data_limit
  read_short h =
      omega (arith, request-length read_code service idm blocks [], fits_idm idm blocks (request_fits idm blocks) refl h, fits_few idm blocks (request_fits idm blocks) refl h)

  module _ (bytes : List ℕ) (h : write_fits_of idm blocks bytes ≡ true) where
    fits : request_fits idm blocks ≡ true
    fits = write_named idm blocks bytes h

    pub write_bytes : AllBytes bytes → AllBytes (write_request_of idm service blocks bytes)
    write_bytes d =
        request_bytes write_code service idm blocks bytes (omega arith) known (fits_idm idm blocks (request_fits idm blocks) refl fits) (fits_few idm blocks (request_fits idm blocks) refl fits)
        (omega (arith, write_sixteen idm blocks bytes h, fits_few idm blocks (request_fits idm blocks) refl fits)) i b d

    pub write_short : length (write_request_of idm service blocks bytes) ≤ data_limit
    write_short =
        omega (
          arith,
          request-length write_code service idm blocks bytes,
          write_sixteen idm blocks bytes h,
          fits_idm idm blocks (request_fits idm blocks) refl fits,
          fits_few idm blocks (request_fits idm blocks) refl fits,
        )
