use Rattle.stages.specs.Starts.{short_staged, same_staged}
use Rattle.discovery.specs.Firsts.{dep_first}
use Rattle.discovery.specs.FirstLaws.{jump_data_lem, jump_few}
use Rattle.discovery.proofs.dep.jump.Goals as goal

pub returns : goal.returns
unfolding dep_first
returns c = let a = c.args in short_staged _ _ _ _ _ (jump_few a.atr_req.now a.code c.requires.1) (same_staged _ _ _ _ _ _ (jump_data_lem a.atr_req.now a.code _ c.requires.0 c.given.ensures) c.staged.ensures)
