use Rattle.std.proofs.Common.{◌∙◌}
use Rattle.bench.specs.TextLaws.{put_same}
use Rattle.bench.specs.DecimalLaws.{decimal_digits}
use Rattle.bench.proofs.text.put_decimal.Goals as goal

pub returns : goal.returns
returns c =
    let d = c.decimal-n.ensures in
    put_same _ _ _ _ _ c.put.ensures (d.digits ∙ decimal_digits _ _ c.ranges.number.fits d.len)
