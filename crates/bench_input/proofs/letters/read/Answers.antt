use Rattle.std.proofs.Common.{rules}
use Rattle.bench_input.proofs.WordsLaws.{begin, next_fits, next_begun}
use Rattle.bench_input.proofs.letters.read.Goals as goal

pub argument-requires : goal.argument-requires
argument-requires c = (c.loop-k.invariant.held, rw c.word.ensures (next_fits _ _ _ _ _ _ c.loop-k.invariant c.requires.2 c.loop-k-test.true c.requires.0))

pub loop-k-init : goal.loop-k-init
loop-k-init c = begin _ _ _ c.requires.1

pub loop-k-preserved : goal.loop-k-preserved
loop-k-preserved c = next_begun _ _ _ _ _ _ c.loop-k.invariant c.requires.2 c.loop-k-test.true _ _ (rw c.word.ensures at c.in_ok-taken.ensures) (search rules)
