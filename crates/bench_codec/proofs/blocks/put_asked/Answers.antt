use Rattle.std.proofs.Common.{◌≡◌, ◌/◌, ◌%◌, arith}
use Rattle.bench_codec.proofs.BlockLaws.{asked-done}
use Rattle.bench_codec.proofs.blocks.put_asked.Goals as goal

pub returns : goal.returns
returns c =
    let high : c.args.asked.service / 256 % 256 ≡ c.args.asked.service / 256 = omega arith in
    let third = rw (c.to_be_bytes-service.ensures, high) at c.put_word-third.ensures in
    asked-done _ _ _ _ _ _ _ c.args.asked _ _ _ _ c.put-first.ensures c.put_word-second.ensures third c.put_numbers.ensures
