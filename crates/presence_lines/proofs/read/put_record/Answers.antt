use Rattle.std.proofs.Common.{rules}
use Rattle.presence_lines.proofs.ReadLaws.{record_done}
use Rattle.presence_lines.proofs.read.put_record.Goals as goal

pub returns : goal.returns
returns c = search (record_done, rules)
