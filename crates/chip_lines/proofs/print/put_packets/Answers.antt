use Rattle.std.proofs.Common.{rules}
use Rattle.chip_lines.proofs.PrintLaws.{none_prints, packets_print}
use Rattle.chip_lines.proofs.print.put_packets.Goals as goal

pub returns-in_default : goal.returns-in_default
returns-in_default c = search (none_prints, rules)

pub returns : goal.returns
returns c = search (packets_print, rules)
