use Rattle.std.proofs.Common.{◌∙◌, sym, nat_lt, rules}
use Rattle.std.proofs.lemmas.Iterator.{YieldsList-from_slice}
use Rattle.std.proofs.lemmas.Iterator.Search.{all_from_yields_List}
use borrow.Author.Tests.{tests}
use Rattle.bench.specs.Hex.{value_of}
use Rattle.bench.specs.HexLaws.{digits_all}
use Rattle.bench.proofs.hex.all_digits.Goals as goal

pub returns : goal.returns
returns c =
    all_from_yields_List (λ d. nat_lt (value_of d) 16) _ _ _ c.all.ensures.ran (YieldsList-from_slice c.args.word.now cc) (λ x b q k. search (rules, tests))
    ∙ sym (digits_all c.args.word.now)
