use Rattle.std.proofs.Common.{arith}
use Rattle.framing.specs.PaddedAnswers.{start_low, zeros-most, zeros-fit, padded-known}
use Rattle.framing.proofs.padded.parse_padded.Goals as goal

pub slice_bounds-parse-count : goal.slice_bounds-parse-count
slice_bounds-parse-count c =
    let a = c.args in
    omega (arith, c.zeros_in-zeros.ensures, zeros-fit a.padded a.packet.now)

pub slice_bounds-parse-start : goal.slice_bounds-parse-start
slice_bounds-parse-start c =
    let a = c.args in
    omega (arith, c.zeros_in-zeros.ensures, zeros-fit a.padded a.packet.now)

pub shifted_by-requires : goal.shifted_by-requires
shifted_by-requires c =
    let a = c.args in
    (omega (arith, c.zeros_in-zeros.ensures, zeros-most a.padded a.packet.now), rw c.parse-found.ensures (start_low a.format _))

pub returns : goal.returns
returns c =
    let a = c.args in
    padded-known a.format a.padded a.packet.now _ _ _ c.zeros_in-zeros.ensures c.parse-found.ensures c.shifted_by.ensures
