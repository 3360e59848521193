-- The scripts of Read and Write Without Encryption are sound: one frame, and each byte of a read's answer at its place.
use Rattle.std.specs.Prelude.{◌≡◌, refl, List, [], ◌∷◌, ℕ, ◌*◌, drop, Result, Ok, Err}
use Rattle.std.proofs.Common.{arith, length-drop}
use Rattle.felica.proofs.Accepted.{good_read}
use Rattle.felica.specs.Checks.{read_check}
use Rattle.felica.specs.Names.{block_size}
use Rattle.errors.specs.declared.Fault.{Fault}
use Rattle.protocol.specs.Scripts.{Script, finish, done}
use Rattle.protocol.specs.Blocks.{by_check, block_bytes, response_blocks_offset}
use Rattle.protocol.specs.Own.{only_cards}
use Rattle.protocol.specs.Sound.{Within, Correct, no_bytes}
use Rattle.protocol.proofs.Sound.{part_placed, cards_part}

pub within_check : (s : Script) (c : Result (Unit {0}) Fault) (n : ℕ) → Within s n → Within (by_check s c) n
within_check s (Ok v) n h = h
within_check s (Err r) n h = tt

-- a read's answer, where the reply is good
pub blocks_placed : (idm : List ℕ) (n : ℕ) (bs : List ℕ) → Correct only_cards (by_check (block_bytes n bs) (read_check idm n (drop 1 bs))) (bs ∷ [])
blocks_placed idm n bs = go (read_check idm n (drop 1 bs)) refl
  where
    go : (c : Result (Unit {0}) Fault) → read_check idm n (drop 1 bs) ≡ c → Correct only_cards (by_check (block_bytes n bs) c) (bs ∷ [])
    go (Ok v) e =
        let long = (good_read idm n (drop 1 bs) e).long in
        (part_placed (bs ∷ []) 0 bs response_blocks_offset (block_size * n) refl (omega (arith, long, length-drop 1 bs)), cards_part 0 bs response_blocks_offset (block_size * n))
    go (Err r) e = tt

pub written-placed : (c : Result (Unit {0}) Fault) (rs : List (List ℕ)) → Correct only_cards (by_check (finish (done [])) c) rs
written-placed (Ok v) rs = (no_bytes, tt)
written-placed (Err r) rs = tt

pub ruleset block_rules = (within_check, blocks_placed, written-placed)
