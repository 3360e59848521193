use Rattle.std.proofs.Common.{ap, arith}
use Rattle.presence_list.specs.EntryLaws.{card_short, entry_made}
use lib.ListN.{length}
use Rattle.presence_list.proofs.records.entry_of.Goals as goal

pub copy-requires : goal.copy-requires
copy-requires c = let s = card_short c.args.found.now c.told-found in let l = ap length c.card_of-card.ensures in omega arith

pub returns : goal.returns
returns c = entry_made c.args.found.now _ _ c.card_of-card.ensures c.copy.ensures.after
