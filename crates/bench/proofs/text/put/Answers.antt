use Rattle.std.proofs.Common.{arith, rules}
use Rattle.bench.specs.TextLaws.{put_none, put_copied}
use Rattle.bench.proofs.text.put.Goals as goal

pub returns-then-out-at : goal.returns-then-out-at
returns-then-out-at c = put_none _ _ _ (omega arith)

pub returns-then-out-at-2 : goal.returns-then-out-at-2
returns-then-out-at-2 c = put_none _ _ _ (omega arith)

pub returns : goal.returns
returns c = search (put_copied, rules)
