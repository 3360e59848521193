use Rattle.std.proofs.Common.{rules}
use Rattle.errors.specs.Refusals.{returned}
use Rattle.felica.specs.Laid.{request-put}
use Rattle.felica.proofs.request.put_request.Goals as goal

pub returns : goal.returns
unfolding returned
returns c = search (request-put, rules)
