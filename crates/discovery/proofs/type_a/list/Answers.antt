use Rattle.std.proofs.Common.{rules}
use Rattle.stages.specs.Starts.{same_staged}
use Rattle.discovery.specs.Firsts.{list_first}
use Rattle.discovery.specs.FirstLaws.{cascaded_none, cascaded_once, cascaded_twice}
use mathlib.Core.Path.{sym, ap}
use mathlib.Core.List.{◌∷◌}
use Rattle.discovery.proofs.type_a.list.Goals as goal

pub returns-then-uid-le4 : goal.returns-then-uid-le4
unfolding list_first
returns-then-uid-le4 c = let a = c.args in same_staged _ _ _ _ _ _ (ap (λ l. 1 ∷ a.code ∷ l) (sym (cascaded_none a.uid.now (search rules)))) c.staged.ensures

pub returns-then-uid-le7 : goal.returns-then-uid-le7
unfolding list_first
returns-then-uid-le7 c = let a = c.args in same_staged _ _ _ _ _ _ (ap (λ l. 1 ∷ a.code ∷ l) (sym (cascaded_once a.uid.now (search rules) (search rules)))) c.staged-then-uid-le7.ensures

pub returns : goal.returns
unfolding list_first
returns c = let a = c.args in same_staged _ _ _ _ _ _ (ap (λ l. 1 ∷ a.code ∷ l) (sym (cascaded_twice a.uid.now (search rules)))) c.staged-2.ensures
