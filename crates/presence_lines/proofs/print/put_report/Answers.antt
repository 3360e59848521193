use Rattle.presence_lines.proofs.PrintLaws.{lists_done}
use Rattle.presence_lines.proofs.print.put_report.Goals as goal

pub returns : goal.returns
returns c =
    rw (← c.from.ensures, ← c.first_records-arrived.ensures, ← c.first_records-departed.ensures, ← c.first_records-cards.ensures)
    (lists_done _ _ _ _ _ _ _ _ _ _ _ _ _ _ _ _ c.put-first.ensures c.put_cards-second.ensures c.put-third.ensures c.put_cards-fourth.ensures c.put-fifth.ensures c.put_cards.ensures)
