use Rattle.errors.specs.Refusals.{returned}
use Rattle.targets.proofs.RateLaws.{no_slash, send_both, receive_bad}
use Rattle.targets.proofs.parse.Goals as goal

pub returns-then-text-n-ne47 : goal.returns-then-text-n-ne47
unfolding returned
returns-then-text-n-ne47 c = no_slash _ _ c.in-Some.ensures c.if-n-text.false c.if-text-n-ne47.true

pub returns-then-is_valid_bitrate : goal.returns-then-is_valid_bitrate
unfolding returned
returns-then-is_valid_bitrate c = send_both _ _ c.in-Some.ensures c.if-n-text.false _ c.is_valid_bitrate.ensures c.if-text-n-ne47.false c.if-is_valid_bitrate.true

pub returns-else-is_valid_bitrate : goal.returns-else-is_valid_bitrate
unfolding returned
returns-else-is_valid_bitrate c = receive_bad _ _ c.in-Some.ensures c.if-n-text.false _ c.is_valid_bitrate.ensures c.if-is_valid_bitrate.false
