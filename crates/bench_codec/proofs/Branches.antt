-- The laws by which most of the lines' functions are proved, as sets that they name.
use Rattle.errors.specs.Rules.{same-value}
use Rattle.bench.specs.TextLaws.{when_true, when_false, appended, both-put}
use Rattle.bench_codec.proofs.BlockLaws.{word-done, text_read, text_write, text_none}
use Rattle.bench_codec.proofs.FrameLaws.{same_answer, known_yes, known_no, data_done, found-done, found_data, parse_done, checksum_done}

-- what the tests of a line's words decide, and a text at the start of the answer
pub ruleset branches = (same-value, when_true, when_false, same_answer, appended)

-- texts put one behind the other, for frames
pub ruleset frame_texts = (appended, both-put, known_yes, known_no, data_done, found-done, found_data, parse_done, checksum_done)

-- and for blocks
pub ruleset block_texts = (word-done, text_read, text_write, text_none)
