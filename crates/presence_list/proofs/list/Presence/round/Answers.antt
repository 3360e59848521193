use Rattle.std.proofs.Common.{ap, Result}
use Rattle.std.proofs.lemmas.Result.{err_from_is_err_and}
use Rattle.errors.specs.declared.RoundRefusal.{RoundRefusal}
use Rattle.presence_list.specs.Admissions.{admitted}
use Rattle.presence_list.specs.Steps.{records_of, by_admission, round_of}
use Rattle.presence_list.proofs.list.Presence.round.Goals as goal

pub returns-in_err-admit : goal.returns-in_err-admit
unfolding round_of
returns-in_err-admit c =
    let a = c.args in
    let e = err_from_is_err_and c.from_residual.result c.from_residual.ensures.1 in
    rw (e.1, e.2) (ap (λ (r : Result (Unit {0}) RoundRefusal). by_admission r a.self.now a.number (records_of a.records.now)) c.in_err-admit.ensures)

pub accept-requires : goal.accept-requires
accept-requires c = let a = c.args in rw c.records_in.ensures (admitted a.self.now.state a.self.now.cards a.number a.records.now c.in_ok-admit.ensures)

pub returns : goal.returns
unfolding round_of
returns c =
    let a = c.args in
    rw (← c.in_ok-admit.ensures, ← c.records_in.ensures) c.accept.ensures
