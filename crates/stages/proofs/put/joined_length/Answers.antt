use Rattle.std.specs.List.{flat_map}
use Rattle.std.proofs.Common.{◌≡◌, min, length, subst, sym, ap, ◌∙◌, arith, rules}
use Rattle.std.proofs.lemmas.Fn.{fold_over, slice_gives, fronts}
use Rattle.stages.specs.Put.{joined_flat, longer}
use Rattle.stages.proofs.put.joined_length.Goals as goal

pub returns : goal.returns
returns c =
    subst (λ l. c.fold.result ≡ min (length l) 18446744073709551615) (ap (flat_map (λ p. p.now)) c.iter.ensures.rest ∙ sym (joined_flat c.args.lists.now))
    (fold_over fronts (λ y. y.now) _ (λ ys n. n ≡ min (length (flat_map (λ p. p.now) ys)) 18446744073709551615) _ (λ ys a x b f' j k. let more = longer ys x.now 18446744073709551615 a j in search rules)
    _ _ _ _ (slice_gives c.iter.result) (omega arith) c.fold.ensures.ran)
