use Rattle.exchange.proofs.Found.{unfilled-fault, filled-fault}
use Rattle.exchange.proofs.fault.Goals as goal

pub returns-in-Ok : goal.returns-in-Ok
returns-in-Ok c = filled-fault _ _ _ c.in-Ok.ensures c.payload_fault.ensures

pub returns-in-Err : goal.returns-in-Err
returns-in-Err c = unfilled-fault _ _ c.in-Err.ensures
