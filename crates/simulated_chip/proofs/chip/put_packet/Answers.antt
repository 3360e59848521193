use Rattle.std.proofs.Common.{rules}
use Rattle.simulated_chip.specs.StepLaws.{packet-put, packet_ok, error_put, error_ok}
use Rattle.simulated_chip.proofs.chip.put_packet.Goals as goal

pub unwrap-requires : goal.unwrap-requires
unwrap-requires c =
    let p = c.requires in
    packet_ok _ c.args.out.now _ _ _ p.0 c.in-Ok.n c.build_response.ensures (search rules) (rw (c.in-Ok.is) at p.1)

pub returns-in-Ok : goal.returns-in-Ok
returns-in-Ok c =
    let p = c.requires in
    packet-put _ _ _ _ _ p.0 c.in-Ok.n c.build_response.ensures (search rules) (rw (c.in-Ok.is) at p.1) _ _ c.in-Ok.is c.unwrap.ensures

pub unwrap-requires-in-Err : goal.unwrap-requires-in-Err
unwrap-requires-in-Err c = let p = c.requires in error_ok 0 c.args.out.now _ _ _ p.0 _ c.format.ensures c.build.ensures

pub returns-in-Err : goal.returns-in-Err
returns-in-Err c = let p = c.requires in error_put _ _ _ _ _ p.0 _ c.format.ensures c.build.ensures _ _ _ c.in-Err.is c.unwrap-in-Err.ensures
