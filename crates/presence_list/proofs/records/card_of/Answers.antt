use Rattle.std.proofs.Common.{◌+◌, ℕ, min, ap, ◌∙◌}
use Rattle.presence_list.specs.Names.{record_size}
use Rattle.presence_list.specs.Checks.{card_taken}
use Rattle.presence_list.proofs.records.card_of.Goals as goal

pub returns : goal.returns
returns c = card_taken c.args.record.now _ c.told-record (c.min.ensures ∙ ap (λ (k : ℕ). min (k + 1) record_size) c.from-end.ensures)
