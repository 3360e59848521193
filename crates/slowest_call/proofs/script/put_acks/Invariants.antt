use mathlib.Core.Path.{◌≡◌}
use lib.ListN.{length}
use Rattle.bench.specs.Texts.{Appends}
use Rattle.slowest_call.specs.Tables.{acks_text}
use Rattle.slowest_call.proofs.script.put_acks.Given as goal

-- so many idle reads were put
abbrev pub invariant-loop : goal.invariant-loop
invariant-loop l = Appends l.at (acks_text l.counter) l.initial.out l.behind l.out × (length l.out ≡ length l.initial.out)
