use Rattle.std.proofs.Common.{refl, arith, rules}
use Rattle.bench.proofs.NextLaws.{unread_fed, unread_line_lem, unread_none, unread_put}
use Rattle.bench.proofs.lines.next.Goals as goal

pub returns-then-stop-part : goal.returns-then-stop-part
returns-then-stop-part g c =
    let rest = c.within-rest.ensures in
    let is = c.before_feed-stop.ensures.0 in
    let added = c.add-len.ensures in
    record {
      line_after = λ _. unread_line_lem _ _ _ _ _ _ _ rest is added _ _ (search rules) c.line_of.ensures refl;
      next_line = unread_fed _ _ _ _ _ _ _ rest is added _ _ (search rules) c.line_of.ensures refl;
    }

pub returns-clause-line_after : goal.returns-clause-line_after
returns-clause-line_after g c = λ h. let none = unread_none _ _ _ _ _ _ _ c.within-rest.ensures c.before_feed-stop.ensures.0 c.add-len.ensures (search rules) in absurd (omega (arith, none))

pub returns-clause-next_line : goal.returns-clause-next_line
returns-clause-next_line g c =
    let rest = c.within-rest.ensures in
    let is = c.before_feed-stop.ensures.0 in
    let added = c.add-len.ensures in
    c.read_on.ensures _ _ (unread_none _ _ _ _ _ _ _ rest is added (search rules)) (unread_put _ _ _ _ _ _ _ rest is added (search rules))
