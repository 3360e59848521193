use Rattle.std.proofs.Common.{ap, ◌≡◌, length, arith}
use Rattle.chip_protocol.specs.Packets.{responds}
use Rattle.simulated_chip.specs.ResponseLaws.{put_two}
use Rattle.simulated_chip.proofs.response.put_response.Goals as goal

pub returns : goal.returns
returns c =
    let size : 1012 ≡ length c.copy.new.to = omega (arith, c.copy.ensures.len, c.told-out) in
    record {
      response = rw size (ap responds (put_two c.args.head.now c.args.rest.now c.args.out.now _ _ (omega arith) c.copy.ensures.after (rw size at c.copy-2.ensures.after)));
      short = c.requires;
    }
