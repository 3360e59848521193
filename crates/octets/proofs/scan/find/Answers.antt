use Rattle.std.proofs.Common.{rules, ◌≡◌, ◌≢◌}
use borrow.Author.Tests.{tests}
use Rattle.std.proofs.lemmas.Iterator.{IsFirst-from_position, YieldsList-from_slice}
use Rattle.octets.proofs.ScanLaws.{found, not_found}
use Rattle.octets.proofs.scan.find.Goals as goal

pub returns-in-Some-clause-place : goal.returns-in-Some-clause-place
returns-in-Some-clause-place c =
    let a = c.args in
    let f = IsFirst-from_position _ _ _ (λ y. y ≡ a.byte) (λ y. y ≢ a.byte) c.in-Some.ensures.ran (YieldsList-from_slice _ cc) (λ x q k. search (rules, tests)) (λ x q k. search (rules, tests)) in
    found a.byte a.from a.to a.bytes.now c.requires.order c.in-Some.at f.0 f.1 f.2

pub returns-in-None-clause-place : goal.returns-in-None-clause-place
returns-in-None-clause-place c =
    let a = c.args in
    let f = IsFirst-from_position _ _ _ (λ y. y ≡ a.byte) (λ y. y ≢ a.byte) c.in-None.ensures.ran (YieldsList-from_slice _ cc) (λ x q k. search (rules, tests)) (λ x q k. search (rules, tests)) in
    not_found a.byte a.from a.to a.bytes.now c.requires.order c.requires.within f
