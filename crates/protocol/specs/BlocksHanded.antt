-- Upon the standard's reply with flag 1 at 0, a read hands out exactly the block data, and a write no bytes (document 02, N5).
use Rattle.std.specs.Prelude.{◌≡◌, refl, take}
use Rattle.std.proofs.Math.Path.{ap}
use Rattle.std.proofs.Common.{◌∙◌, arith}
use mathlib.Core.List.{List, [], ◌∷◌, map}
use Prim.Native.Nat.{ℕ, ◌/◌, ◌*◌}
use Rattle.std.proofs.Math.ListN.{length}
use Rattle.std.proofs.Math.Seq.{take_all}
use Rattle.errors.specs.Choice.{pick}
use Rattle.exchange.specs.Packets.{response}
use Rattle.felica.specs.Names.{idm_size, block_size}
use Rattle.felica.specs.Packets.{read_reply_of, write_reply_of, read_reply_code}
use Rattle.felica.proofs.Accepted.{read_good, write_good}
use Rattle.felica.specs.Replies.{parts}
use Rattle.protocol.specs.Scripts.{Script, finish, command, reset, field_pause, Byte, value, part, done}
use Rattle.protocol.specs.Blocks.{read_blocks, write_blocks, response_blocks_offset}
use Rattle.protocol.specs.Values.{part-values}

-- what a script of one command comes to upon the response to it
abbrev pub upon : List ℕ → Script → Script
upon bs (finish a) = finish a
upon bs (command code clock bytes f) = f (response bs)
upon bs (reset s) = reset s
upon bs (field_pause s) = field_pause s

-- the script ends with these bytes
pub record HandsOut (s : Script) (bytes : List ℕ) : Type 0 where
  pub answer : List Byte
  pub ends : s ≡ finish (done answer)
  pub values : map value answer ≡ bytes

module _ (idm blocks bytes : List ℕ) (service ms flag2 : ℕ) (h : length idm ≡ idm_size) where
  -- the response is a status of 0 and the card's reply
  pub read_handed : length bytes ≡ block_size * length blocks → HandsOut (upon (0 ∷ read_reply_of idm 0 flag2 bytes) (read_blocks idm service blocks ms)) bytes
  unfolding pick
  read_handed e =
      let p : List ℕ = read_reply_of idm 0 flag2 bytes in
      let q = parts read_reply_code 0 flag2 idm (length bytes / block_size ∷ bytes) h in
      record {
        answer = part 0 (0 ∷ p) response_blocks_offset (block_size * length blocks);
        ends = rw (read_good idm bytes (length blocks) flag2 h e) refl;
        values =
            part-values 0 (0 ∷ p) response_blocks_offset (block_size * length blocks) (omega (arith, q.size, e))
            ∙ ap (take (block_size * length blocks)) q.rest ∙ take_all (block_size * length blocks) bytes (omega (arith, e));
      }

  pub write_handed : HandsOut (upon (0 ∷ write_reply_of idm 0 flag2) (write_blocks idm service blocks bytes ms)) []
  write_handed = record { answer = []; ends = rw (write_good idm flag2 h) refl; values = refl }
