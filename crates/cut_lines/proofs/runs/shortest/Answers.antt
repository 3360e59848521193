use Rattle.std.proofs.Common.{◌≡◌, suc, ◌-◌, ◌<◌, ◌≤◌, length}
use mathlib.Core.Path.{sym, subst}
use native.Mathlib.Omega.{arith}
use Rattle.cut_script.specs.Bench.{bench}
use Rattle.cut_script.specs.Loop.{NoneFrom}
use Rattle.cut_lines.specs.Runs.{StretchTried}
use Rattle.cut_lines.proofs.SearchLaws.{search_begins, search_stops, search_goes_on, search_ends}
use Rattle.cut_lines.proofs.runs.shortest.Goals as goal

pub loop-i-init : goal.loop-i-init
loop-i-init c = (omega arith, λ xs h f. search_begins xs _ h.count)

pub returns-then-shows-clause-shortest : goal.returns-then-shows-clause-shortest
returns-then-shows-clause-shortest c =
    let k = c.loop-i.i - 1 in
    let more : 1 < c.loop-i.i = c.loop-i-test.true in
    let q : c.loop-i.i ≡ suc k = omega arith in
    let few : c.loop-i.i ≤ length c.args.entries.now = c.loop-i.invariant.0 in
    λ xs h f. search_stops xs k _ (omega (arith, h.count)) f (subst (NoneFrom bench xs) q (c.loop-i.invariant.1 xs h f)) (subst (StretchTried xs k _) c.if-shows.true (c.shows.ensures xs h))

pub loop-i-preserved : goal.loop-i-preserved
loop-i-preserved c =
    let k = c.loop-i.i - 1 in
    let more : 1 < c.loop-i.i = c.loop-i-test.true in
    let q : c.loop-i.i ≡ suc k = omega arith in
    let few : c.loop-i.i ≤ length c.args.entries.now = c.loop-i.invariant.0 in (
      omega arith,
      λ xs h f. search_goes_on xs k _ (omega (arith, h.count)) f (subst (NoneFrom bench xs) q (c.loop-i.invariant.1 xs h f)) (subst (StretchTried xs k _) c.if-shows.false (c.shows.ensures xs h)),
    )

pub returns-clause-shortest : goal.returns-clause-shortest
returns-clause-shortest c =
    let all : 0 < length c.args.entries.now = c.requires in
    λ xs h f. search_ends xs _ (omega (arith, h.count)) f (c.loop-i.invariant.1 xs h f) c.loop-i-test.false
