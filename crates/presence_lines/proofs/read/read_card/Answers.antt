use Rattle.std.proofs.Common.{arith}
use Rattle.presence_lines.proofs.ReadLaws.{no_kind, few_kinds, no_rate, few_rates, card-put}
use Rattle.presence_lines.proofs.read.read_card.Goals as goal

pub returns-in_err-kind : goal.returns-in_err-kind
returns-in_err-kind c =
    let w = c.at_colon.ensures in
    let r = c.at_colon-2.ensures in
    rw c.from_residual.ensures (no_kind _ _ _ _ _ w.0 w.1 r.0 r.1 c.in_err-kind.ensures)

pub returns-in_err-bitrate : goal.returns-in_err-bitrate
returns-in_err-bitrate c =
    let w = c.at_colon.ensures in
    let r = c.at_colon-2.ensures in
    rw c.from_residual-in_err-bitrate.ensures (no_rate _ _ _ _ _ w.0 w.1 r.0 r.1 _ c.in_ok-kind.ensures c.in_err-bitrate.ensures)

pub overflow_cast-kind : goal.overflow_cast-kind
overflow_cast-kind c =
    let w = c.at_colon.ensures in
    let r = c.at_colon-2.ensures in
    let k = few_kinds _ _ _ _ _ w.0 w.1 r.0 r.1 _ c.in_ok-kind.ensures in
    omega arith

pub overflow_cast-bitrate : goal.overflow_cast-bitrate
overflow_cast-bitrate c =
    let w = c.at_colon.ensures in
    let r = c.at_colon-2.ensures in
    let m = few_rates _ _ _ _ _ w.0 w.1 r.0 r.1 _ c.in_ok-kind.ensures _ c.in_ok-bitrate.ensures in
    omega arith

pub returns : goal.returns
returns c =
    let w = c.at_colon.ensures in
    let r = c.at_colon-2.ensures in
    card-put _ _ _ _ _ w.0 w.1 r.0 r.1 _ c.in_ok-kind.ensures _ c.in_ok-bitrate.ensures _ c.is_identifier.ensures _ _ _ _ c.if-not-is_identifier.false c.put_identified.ensures
