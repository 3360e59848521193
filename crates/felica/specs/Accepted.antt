-- The reader's check passes exactly the standard's replies, with flag 1 at 0, to the request, which are taken apart to their fields; and gives 20 with the flags of one that is refused.
use Rattle.std.specs.Prelude.{◌≡◌}
use Rattle.std.proofs.Math.Bool.{true}
use mathlib.Core.List.{List}
use Prim.Native.Nat.{ℕ, ◌+◌, ◌*◌, ◌≤◌}
use Rattle.std.proofs.Math.ListN.{length}
use Rattle.felica.specs.Names.{block_size, most_blocks, blocks_offset}
use Rattle.felica.specs.Packets.{read_reply_of, read_reply_fits}
use Rattle.felica.specs.Fields.{flag2_in, blocks_in}

-- a good reply is the standard's reply of all blocks asked for, and its data are these bytes of it
pub record AllRead (idm : List ℕ) (n : ℕ) (p : List ℕ) : Type 0 where
  pub is : p ≡ read_reply_of idm 0 (flag2_in p) (blocks_in p)
  pub size : length (blocks_in p) ≡ block_size * n
  pub long : length p ≡ blocks_offset + block_size * n
  pub fits : 1 ≤ n → n ≤ most_blocks → read_reply_fits idm 0 (blocks_in p) ≡ true
