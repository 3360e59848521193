use Rattle.std.proofs.Common.{rules}
use Rattle.bench.proofs.NextLaws.{sofar_more, sofar_fed, sofar_last}
use Rattle.bench.proofs.lines.read_on.Goals as goal

pub returns-then-to-eq0 : goal.returns-then-to-eq0
returns-then-to-eq0 g c = λ t l none b. sofar_last t l _ _ (c.loop.invariant t l none b) _ _ c.last.ensures

pub returns-then-stop-to : goal.returns-then-stop-to
returns-then-stop-to g c =
    λ t l none b. sofar_fed t l _ _ (c.loop.invariant t l none b) _ _ _ _ _ c.fill-to.ensures.0 c.before_feed-stop.ensures.0 c.add-len.ensures (search rules) _ c.line_of.ensures

pub loop-preserved : goal.loop-preserved
loop-preserved g c =
    λ t l none b. sofar_more t l _ _ (c.loop.invariant t l none b) _ _ _ _ _ c.fill-to.ensures.0 c.before_feed-stop.ensures.0 c.add-len.ensures (search rules)

pub returns : goal.returns
returns g c = λ t l none b. sofar_last t l _ _ (c.loop.invariant t l none b) _ _ c.last-2.ensures
