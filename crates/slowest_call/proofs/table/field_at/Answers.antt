use Rattle.slowest_call.specs.Fields.{field_there}
use Rattle.slowest_call.proofs.table.field_at.Goals as goal

pub returns : goal.returns
returns c = field_there _ _ _ c.requires c.find-to.ensures.place c.find-to.ensures.bounds.1
