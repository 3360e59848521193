use Rattle.std.proofs.Common.{refl, subst, ap, length, ap₂, take, ◌∙◌, [], ◌∷◌, ◌++◌, arith}
use Rattle.protocol.specs.Device.{name_prefix}
use Rattle.stages.specs.Decided.{Lays}
use Rattle.stages.specs.Put.{take_put}
use Rattle.device.proofs.named.Goals as goal

pub returns : goal.returns
returns c = λ f b h k.
    let whole = name_prefix ++ (0 ∷ 0 ∷ 0 ∷ 0 ∷ 0 ∷ []) in
    let p = c.append-n.ensures.puts name_prefix whole (omega arith) record { count = refl; is = refl } in
    let e = ap₂ take p.count p.is ∙ take_put (name_prefix ++ c.args.dotted.now) whole in
    subst (λ l. Lays f b c.tailed.result (take 3 b ++ l)) e (c.tailed.ensures f b (omega arith) (omega (arith, ap length e)) (λ u. omega (arith, ap length e)))
