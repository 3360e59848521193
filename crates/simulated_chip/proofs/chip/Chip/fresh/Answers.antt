use Rattle.std.proofs.Common.{ℕ, List, ap₂, ◌*◌, ◌∙◌}
use Rattle.chip_protocol.specs.Names.{most_cards}
use Rattle.simulated_chip.specs.Memory.{card_size, sent_size, places}
use Rattle.simulated_chip.specs.Steps.{zeros}
use Rattle.simulated_chip.specs.declared.chip.State.{State}
use Rattle.simulated_chip.proofs.chip.Chip.fresh.Goals as goal

pub returns : goal.returns
returns c =
    ap₂ (λ (x y : List ℕ). record { cards = x; sent = y; replies = c.zeros-3.result; state = c.fresh.result }) c.zeros.ensures c.zeros-2.ensures
    ∙ ap₂ (λ (x : List ℕ) (y : State). record { cards = zeros (most_cards * card_size); sent = zeros (places * sent_size); replies = x; state = y }) c.zeros-3.ensures c.fresh.ensures
