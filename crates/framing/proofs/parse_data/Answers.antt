use Rattle.errors.specs.Rules.{same-value}
use Rattle.framing.specs.Valid.{data_extended, data_normal}
use Rattle.std.proofs.Common.{rules}
use Rattle.framing.proofs.parse_data.Goals as goal

pub parse_extended-requires : goal.parse_extended-requires
parse_extended-requires c = (c.requires, search (same-value, rules))

pub returns-then-is_extended : goal.returns-then-is_extended
returns-then-is_extended c = search (data_extended, same-value, rules) depth 6

pub returns-else-is_extended : goal.returns-else-is_extended
returns-else-is_extended c = search (data_normal, same-value, rules) depth 6
