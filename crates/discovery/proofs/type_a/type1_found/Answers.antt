use Rattle.stages.specs.Laws.{decision_keep}
use Rattle.discovery.proofs.type_a.type1_found.Goals as goal

pub returns : goal.returns
returns c = λ f. decision_keep _ _ _ _ _ (c.sens_res.ensures f)
