use Rattle.stages.specs.Stages.{cmd}
use Rattle.engine.specs.Laws.{sent_frame, sent_refused}
use Rattle.engine.proofs.running.Core.sent.Goals as goal

pub returns-in-Ok : goal.returns-in-Ok
returns-in-Ok c = λ f.
    let a = c.args in
    sent_frame a.self f a.call (cmd a.code a.clock a.bytes.now) a.buffer.now _ c.requires.0 c.requires.1 _ _ _ _ c.in-Ok.is c.build_command.ensures c.start.ensures c.running.ensures

pub returns-in-Err : goal.returns-in-Err
returns-in-Err c = λ f.
    let a = c.args in
    sent_refused a.self f a.call (cmd a.code a.clock a.bytes.now) a.buffer.now _ c.requires.0 c.requires.1 _ _ _ c.in-Err.is c.build_command.ensures
