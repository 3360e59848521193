-- What the list's round answers, in numbers.
use Rattle.std.proofs.Common.{ap, ◌∙◌}
use Rattle.presence_list.specs.Steps.{Rounded}
use Rattle.presence_c.specs.Outcomes.{report, reported, report_for}
use Rattle.presence_c.specs.declared.outcome.Outcome.{Outcome}
use Rattle.presence_c.proofs.presence_round.Goals as goal

pub returns : goal.returns
unfolding report_for
returns c = ap (λ (o : Outcome). report c.round.new.self o) c.from.ensures ∙ ap (λ (r : Rounded). reported r) c.round.ensures
