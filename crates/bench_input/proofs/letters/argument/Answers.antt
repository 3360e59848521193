use Rattle.bench_input.proofs.letters.argument.Goals as goal

pub returns-else-letter-lt97 : goal.returns-else-letter-lt97
returns-else-letter-lt97 c = c.with_number.ensures _
