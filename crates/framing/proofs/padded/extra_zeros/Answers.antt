use Rattle.std.proofs.Common.{◌≡◌, ◌≢◌, rules}
use borrow.Author.Tests.{tests}
use Rattle.std.proofs.lemmas.Iterator.{IsFirst-from_position, YieldsList-from_slice}
use Rattle.framing.specs.Unpadded.{other_found, none_found}
use Rattle.framing.proofs.padded.extra_zeros.Goals as goal

pub returns-in-Some : goal.returns-in-Some
returns-in-Some c =
    let f = IsFirst-from_position _ _ _ (λ y. y ≢ 0) (λ y. y ≡ 0) c.in-Some.ensures.ran (YieldsList-from_slice _ cc) (λ x q k. search (rules, tests)) (λ x q k. search (rules, tests)) in
    other_found _ _ c.min-end.ensures _ _ c.extra_at.ensures f.0 f.1 f.2

pub returns-in-None : goal.returns-in-None
returns-in-None c =
    let f = IsFirst-from_position _ _ _ (λ y. y ≢ 0) (λ y. y ≡ 0) c.in-None.ensures.ran (YieldsList-from_slice _ cc) (λ x q k. search (rules, tests)) (λ x q k. search (rules, tests)) in
    none_found _ _ c.min-end.ensures f
