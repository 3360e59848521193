use Rattle.std.proofs.Common.{◌++◌, ap₂, arith}
use Rattle.chipset.specs.Laws.{with_words, be_word}
use Rattle.chipset.proofs.target.with_rates.Goals as goal

pub returns : goal.returns
returns c = λ bs h. with_words bs _ _ _ _ h (ap₂ (λ x y. x ++ y) (be_word _ _ c.ranges.send.fits c.to_be_bytes.ensures) (be_word _ _ c.ranges.receive.fits c.to_be_bytes-2.ensures)) (λ f. c.tailed.ensures f bs (omega arith) (omega arith) (λ k. omega arith))
