use Rattle.std.proofs.Common.{rules}
use Rattle.bench.specs.WordLaws.{count_space, count-other, count-end}
use Rattle.bench.proofs.words.count.Goals as goal
use Rattle.bench.proofs.words.count.Goals.{then-byte-eq32, else-byte-eq32}

pub loop-byte-preserved : goal.loop-byte-preserved
loop-byte-preserved c =
    record {
      few = search rules;
      counted = elim c.if-byte-eq32.branch [ then-byte-eq32 w ↦ search (count_space, rules) | else-byte-eq32 w ↦ search (count-other, rules) ];
    }

pub returns : goal.returns
returns c = search (count-end, rules)
