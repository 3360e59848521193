use Rattle.std.proofs.Common.{rules}
use Rattle.simulated_chip.specs.RangeLaws.{ranges}
use Rattle.simulated_chip.specs.StepLaws.{after-other}
use Rattle.simulated_chip.proofs.range.Ranged.after.Goals as goal

pub field_on_after-requires : goal.field_on_after-requires
field_on_after-requires c = (ranges c.args.self.chip.now c.args.self.in_range).numbers.on

pub returns-in_default : goal.returns-in_default
returns-in_default c =
    let a = c.args.self.chip.now in
    let d = c.in_default in
    after-other a.state a.cards a.sent a.replies c.args.bytes.now c.args.code (search rules) (search rules) (search rules) (search rules) (ranges a c.args.self.in_range).numbers.on
