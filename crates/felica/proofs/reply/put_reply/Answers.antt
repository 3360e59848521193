use Rattle.std.proofs.Common.{rules}
use Rattle.errors.specs.Refusals.{returned}
use Rattle.felica.specs.Laid.{blocks_put}
use Rattle.felica.proofs.reply.put_reply.Goals as goal

pub returns : goal.returns
unfolding returned
returns c = search (blocks_put, rules)
