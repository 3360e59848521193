use Rattle.std.proofs.Common.{rules, ℕ, ◌*◌, ◌∙◌, arith}
use Rattle.std.proofs.lemmas.Iterator.{YieldsList-from_range}
use Rattle.std.proofs.lemmas.Iterator.Search.{all_from_yields_List}
use Rattle.std.specs.Prelude.{leb}
use Rattle.chip_protocol.specs.Names.{longest_reply}
use Rattle.simulated_chip.specs.Memory.{reply_size, places, text_length}
use Rattle.simulated_chip.specs.Counted.{all_range}
use Rattle.simulated_chip.proofs.range.are_replies_in_range.Goals as goal

pub returns : goal.returns
returns c =
    all_from_yields_List (λ (i : ℕ). leb (text_length (reply_size * i) c.args.replies.now) longest_reply) _ _ _ c.all.ensures.ran (YieldsList-from_range 0 places places (cc) (omega arith)) (λ x b q k. search rules)
    ∙ all_range _ places 0
