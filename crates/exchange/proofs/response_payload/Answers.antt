use Rattle.exchange.specs.Responses.{none_there}
use Rattle.exchange.proofs.response_payload.Goals as goal

pub returns-in-Err : goal.returns-in-Err
returns-in-Err c = none_there _ _ _ c.in-Err.ensures
