use Rattle.cut_lines.proofs.ReadLaws.{read_before, read_size, read_says}
use Rattle.cut_lines.proofs.entries.read_line.Goals as goal

pub returns-clause-bytes_unchanged : goal.returns-clause-bytes_unchanged
returns-clause-bytes_unchanged c = (
  read_before _ _ _ _ _ _ _ _ _ c.requires c.read-input.ensures c.used.ensures c.put.ensures.strings_len c.put.ensures.bytes_after,
  read_size _ _ _ _ _ _ _ _ _ c.requires c.read-input.ensures c.used.ensures c.put.ensures.strings_len c.put.ensures.bytes_after,
)

pub returns-clause-by_index : goal.returns-clause-by_index
returns-clause-by_index c =
    read_says _ _ _ _ _ _ _ _ _ c.requires c.read-input.ensures c.used.ensures c.put.ensures.strings_len c.put.ensures.bytes_after
