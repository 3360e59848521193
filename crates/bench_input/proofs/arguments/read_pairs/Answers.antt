use Rattle.std.proofs.Common.{rules}
use Rattle.bench_input.proofs.ReadLaws.{pairs_read, pairs_unread, pairs_other}
use Rattle.bench_input.proofs.arguments.read_pairs.Goals as goal

pub returns-then-word : goal.returns-then-word
returns-then-word g c = pairs_other _ _ c.if-word.true

pub returns-in_default : goal.returns-in_default
returns-in_default g c = pairs_unread _ _ _ _ _ (search rules) (search rules) c.read.ensures _ c.in_default.is

pub returns : goal.returns
returns g c = pairs_read _ _ _ _ _ (search rules) (search rules) c.read.ensures _ c.in-Ok.is
