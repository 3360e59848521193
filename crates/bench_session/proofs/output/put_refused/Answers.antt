use Rattle.std.proofs.Common.{rules}
use Rattle.bench_session.proofs.OutputLaws.{refused_15, refused_20, refused_other}
use Rattle.bench_session.proofs.output.put_refused.Goals as goal

pub returns-then-numbered-eq-STATUS_NUMBER : goal.returns-then-numbered-eq-STATUS_NUMBER
returns-then-numbered-eq-STATUS_NUMBER c = search (refused_15, rules) depth 8

pub returns-then-numbered-eq-CARD_STATUS_NUMBER : goal.returns-then-numbered-eq-CARD_STATUS_NUMBER
returns-then-numbered-eq-CARD_STATUS_NUMBER c = search (refused_20, rules) depth 8

pub returns : goal.returns
returns c = search (refused_other, rules) depth 8
