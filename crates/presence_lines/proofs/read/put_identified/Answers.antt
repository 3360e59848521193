use mathlib.Core.Path.{refl}
use mathlib.Core.List.{[]}
use Rattle.presence_lines.proofs.ReadLaws.{identified_read, identified_not}
use Rattle.presence_lines.proofs.read.put_identified.Goals as goal

pub returns-in_default : goal.returns-in_default
returns-in_default c =
    identified_not _ _ _ 0 _ _ [] _ _ _ c.read.ensures c.if-n-gt-HELD.false refl _ c.in_default.is c.requires

pub returns : goal.returns
returns c =
    identified_read _ _ _ _ _ _ _ _ _ _ c.read.ensures c.if-n-gt-HELD.false refl _ _ _ c.in-Ok.is c.prefix-2.ensures refl c.put_record-2.ensures
