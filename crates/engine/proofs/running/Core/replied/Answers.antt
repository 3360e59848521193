use mathlib.Core.Path.{refl, ap, ◌∙◌}
use Rattle.engine.specs.Core.{arrays, performs_of}
use Rattle.engine.specs.Ends.{reply_in, end_performs}
use Rattle.engine.proofs.Ends.{Decided, upon_response, upon_fault, answered, unanswered}
use Rattle.engine.proofs.running.Core.replied.Goals.{in-Ok, in-Err}
use Rattle.engine.proofs.running.Core.replied.Goals as goal

pub performed-requires : goal.performed-requires
performed-requires c =
    let a = c.args in
    let h = arrays a.command.now a.found.now in
    let reply = reply_in a.self.exchange.code a.packet.now a.end in
    let d : Decided a.self h reply c.unwrap_or-response.result.now c.match-reply.decision
    = elim c.match-reply.branch [
      | in-Ok w ↦ let e = answered _ _ _ _ w.in-Ok.is c.unwrap_or-response.ensures in rw (e, w.decision-is) (upon_response a.self h _ _ a.end _ _ w.in-Ok.ensures c.requires.0 w.decided-decision.ensures)
      | in-Err w ↦ let e = unanswered _ _ _ _ w.in-Err.is c.unwrap_or-response.ensures refl in rw (e, w.decision-is) (upon_fault a.self h _ _ a.end _ _ w.in-Err.ensures w.failed-decision.ensures)
    ] in
    (d.few, d.refines.fits, c.requires.1)

pub returns : goal.returns
returns c =
    let a = c.args in
    let h = arrays a.command.now a.found.now in
    let reply = reply_in a.self.exchange.code a.packet.now a.end in
    let d : Decided a.self h reply c.unwrap_or-response.result.now c.match-reply.decision
    = elim c.match-reply.branch [
      | in-Ok w ↦ let e = answered _ _ _ _ w.in-Ok.is c.unwrap_or-response.ensures in rw (e, w.decision-is) (upon_response a.self h _ _ a.end _ _ w.in-Ok.ensures c.requires.0 w.decided-decision.ensures)
      | in-Err w ↦ let e = unanswered _ _ _ _ w.in-Err.is c.unwrap_or-response.ensures refl in rw (e, w.decision-is) (upon_fault a.self h _ _ a.end _ _ w.in-Err.ensures w.failed-decision.ensures)
    ] in
    c.performed.ensures
    ∙ ap (λ x. performs_of a.self h x a.buffer.now) d.refines.is
    ∙ end_performs a.self h a.self.exchange.code a.packet.now a.end a.buffer.now
