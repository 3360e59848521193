use Rattle.std.proofs.Common.{arith, refl, subst}
use Rattle.stages.specs.Put.{Puts, put_next, flat_all, joins_within, joins_over}
use Rattle.stages.proofs.put.put_all.Goals as goal

pub returns-then-len-gt-DATA_LIMIT : goal.returns-then-len-gt-DATA_LIMIT
returns-then-len-gt-DATA_LIMIT c = joins_over _ _ _ _ (omega arith) (omega arith) refl

pub loop-list-preserved : goal.loop-list-preserved
loop-list-preserved c =
    put_next _ _ _ c.loop-list-test.true _ _ _ _ _ (omega (arith, c.told-command, c.joined_length-len.ensures)) c.append-n.ensures c.loop-list.invariant

pub returns : goal.returns
returns c =
    let p = subst (λ l. Puts c.loop-list.command c.loop-list.n l c.args.command.now) (flat_all _ _ c.loop-list-test.false) c.loop-list.invariant in
    joins_within _ _ _ _ (omega (arith, c.joined_length-len.ensures)) p
