use Rattle.discovery.proofs.type_b.fn.listed_b.by_target.Goals as goal

pub returns : goal.returns
returns c = λ f. c.iso_dep.ensures f _
