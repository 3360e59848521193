-- Demand 3: from a fresh session, for every list of entries. The statement is `Demand3` in Claim.
use Rattle.std.specs.Prelude.{List}
use Rattle.protocol.specs.Session.{Entry, fresh, outputs, session_after}
use Rattle.protocol.specs.Record.{record_of, as_seen}
use Rattle.protocol.specs.Claim.{Demand3}
use Rattle.protocol.proofs.Theorem.{all_claims}
use Rattle.protocol.proofs.Once.{once}
use Rattle.protocol.proofs.Count.{eight_counts, counts_right}

pub demand3 : (es : List Entry) → Demand3 es (outputs fresh es) (session_after fresh es).books.counts
demand3 es = record {
  calls = all_claims es;
  once = once (as_seen (record_of es (outputs fresh es))).lines;
  eight = eight_counts es;
  counted = counts_right es;
}
